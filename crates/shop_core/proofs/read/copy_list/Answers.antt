use Rattle.std.proofs.Common.{List, map, ap, sym, ◌∙◌, Ok, Bor}
use Rattle.std.proofs.lemmas.Simd.{map-map}
use Rattle.shop_defs.specs.declared.row.Row.{Row}
use Rattle.shop_core.specs.Requests.{bare}
use Rattle.shop_core.proofs.read.copy_list.Goals as goal

pub returns : goal.returns
returns c =
    rw c.in_ok-listed.ensures.rows
    (ap Ok (map-map bare (λ (row : Bor Row). row.now) c.in_ok-listed.listed.items
    ∙ (ap (λ (rows : List (Bor Row)). map (λ row. bare row.now) rows) (sym c.as_slice.ensures.value) ∙ sym c.in_ok-copy_bare.ensures)))
