use Rattle.std.proofs.Common.{drop, map, ap, ◌∙◌}
use Rattle.paged.specs.Pairs.{value_of}
use Rattle.paged.specs.Paged.{all_pairs}
use Rattle.shop_rows.specs.Held.{Held}
use Rattle.shop_rows.proofs.LookedUp.{behind_some, behind_none}
use Rattle.shop_rows.proofs.rows.Rows.behind.Goals as goal

pub returns-in-Some : goal.returns-in-Some
returns-in-Some c =
    let same = ap (λ (h : Held). h.list) c.self.view_is in
    c.without_first.ensures
    ∙ (ap (drop 1) (c.over-walk.ensures ∙ ap (map value_of) c.runs_from.ensures)
    ∙ rw (← same) (behind_some (all_pairs c.self.inside.pages.rows) c.args.key.now _ c.self.invariant.0.stand c.self.invariant.0.mentioned.order c.in-Some.ensures))

pub returns-in-None : goal.returns-in-None
returns-in-None c =
    let same = ap (λ (h : Held). h.list) c.self.view_is in
    c.over-walk.ensures
    ∙ (ap (map value_of) c.runs_from.ensures
    ∙ rw (← same) (behind_none (all_pairs c.self.inside.pages.rows) c.args.key.now c.self.invariant.0.stand c.self.invariant.0.mentioned.order c.in-None.ensures))
