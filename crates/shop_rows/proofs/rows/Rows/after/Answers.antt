use Rattle.std.proofs.Common.{ap, ◌∙◌}
use Rattle.std.specs.Option.{option_map}
use Rattle.paged.specs.Pairs.{value_of}
use Rattle.paged.specs.Paged.{all_pairs}
use Rattle.shop_rows.specs.Held.{Held}
use Rattle.shop_rows.proofs.LookedUp.{next_found}
use Rattle.shop_rows.proofs.rows.Rows.after.Goals as goal

pub returns-in-Some : goal.returns-in-Some
returns-in-Some c =
    let same = ap (λ (h : Held). h.list) c.self.view_is in
    ap (option_map value_of) c.in-Some.ensures ∙ rw (← same) (next_found (all_pairs c.self.inside.pages.rows) c.args.key.now c.self.invariant.0.stand)

pub returns-in-None : goal.returns-in-None
returns-in-None c =
    let same = ap (λ (h : Held). h.list) c.self.view_is in
    ap (option_map value_of) c.in-None.ensures ∙ rw (← same) (next_found (all_pairs c.self.inside.pages.rows) c.args.key.now c.self.invariant.0.stand)
