use Rattle.std.proofs.Common.{ap, ◌∙◌}
use Rattle.shop_rows.specs.Held.{Held}
use Rattle.shop_rows.specs.Paging.{rows_in, mentions_in}
use Rattle.shop_rows.proofs.Wanted.{wanted_by}
use Rattle.shop_rows.proofs.LookedUp.{children_of}
use Rattle.shop_rows.proofs.rows.Rows.children_of.Goals as goal

pub returns : goal.returns
returns c =
    let same = ap (λ (h : Held). h.list) c.self.view_is in
    record { ids = c.from_vec.ensures ∙ (c.in_ok-ids.ensures.ids ∙ rw (← same) (children_of (rows_in c.self.inside.pages.rows) (mentions_in c.self.inside.pages.mentions) c.self.invariant.0.mentioned c.mentions_at_of-found.result c.args.entity c.args.version c.args.parent (rw c.referring.ensures at c.mentions_at_of-found.ensures))); wanted = tt }

pub returns-in_err-ids-clause-wanted : goal.returns-in_err-ids-clause-wanted
returns-in_err-ids-clause-wanted c =
    let same = ap (λ (h : Held). h.list) c.self.view_is in
    wanted_by _ c.from_residual.result _ c.from_residual.ensures.1 (rw (← same) (rw (children_of (rows_in c.self.inside.pages.rows) (mentions_in c.self.inside.pages.mentions) c.self.invariant.0.mentioned c.mentions_at_of-found.result c.args.entity c.args.version c.args.parent (rw c.referring.ensures at c.mentions_at_of-found.ensures)) at c.in_err-ids.ensures.wanted))
