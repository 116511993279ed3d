use Rattle.std.proofs.Common.{◌≡◌, ◌∙◌, List, ap, subst, ◌&&◌, map, IfOk}
use Rattle.shop_defs.specs.declared.entity.Entity.TheVariants as E
use Rattle.shop_defs.specs.declared.row.Row.{Row}
use Rattle.shop_defs.specs.declared.words.FieldName.TheVariants as N
use Rattle.shop_operations.specs.References.{is_entity, is_id}
use Rattle.row_fields.specs.Fields.{number_of, id_at}
use Rattle.cart_price.specs.Lent.{lent_rows}
use Rattle.cart_collect.specs.Finding.{naming}
use Rattle.cart_collect.specs.Looking.{in_rank, rows_at_ranks}
use Rattle.cart_collect.specs.Ranks.{line_rank}
use Rattle.cart_collect.proofs.Naming.{lines_found}
use Rattle.cart_collect.proofs.Ranked.{ranked_rows, live_found}
use Rattle.cart_collect.proofs.ordering.lines_of.Goals as goal
use Rattle.std.proofs.Common.{refl}

pub returns : goal.returns
returns c =
    let rows = c.args.rows.now.list in
    let ranks : c.as_slice-2.result.now ≡ in_rank (map line_rank (naming rows E.CartLine N.Cart c.args.cart)) =
    rw (c.as_slice-2.ensures.value, c.rank.ensures, c.in_ok-ranks.ensures, c.as_slice.ensures, c.in_ok-lines.ensures)
    (ap (λ (found : List Row). in_rank (map line_rank found)) (lines_found rows c.args.cart c.in_order.ensures)) in
    let same = ap (rows_at_ranks rows) ranks
    ∙ ranked_rows line_rank (λ row. refl) rows (naming rows E.CartLine N.Cart c.args.cart)
    (live_found (λ row. is_entity row.key.entity E.CartLine && is_id (id_at row (number_of E.CartLine N.Cart)) c.args.cart) rows c.in_order.ensures) in
    subst (λ (found : List Row). IfOk c.rows_at_ranks.result (λ lines. lent_rows lines ≡ found)) same c.rows_at_ranks.ensures
