use Rattle.std.proofs.Common.{ap, ◌∙◌, arith}
use Rattle.shop_rows.specs.Held.{Held}
use Rattle.shop_rows.specs.Paging.{rows_in, mentions_in}
use Rattle.shop_rows.proofs.LookedUp.{children_counted, found_few}
use Rattle.shop_rows.proofs.rows.Rows.count_children.Goals as goal

pub count_of-requires : goal.count_of-requires
count_of-requires c =
    let counted = c.self.invariant.0.counted in
    omega (arith, counted.total, counted.few, found_few (rows_in c.self.inside.pages.rows) (mentions_in c.self.inside.pages.mentions) c.self.invariant.0.mentioned c.mentions_at_of.result _ c.args.entity c.mentions_at_of.ensures)

pub returns : goal.returns
returns c =
    let same = ap (λ (h : Held). h.list) c.self.view_is in
    c.count_of.ensures ∙ rw (← same) (children_counted (rows_in c.self.inside.pages.rows) (mentions_in c.self.inside.pages.mentions) c.mentions_at_of.result c.args.entity c.args.version c.args.parent c.self.invariant.0.mentioned (rw c.referring-topic.ensures at c.mentions_at_of.ensures))
