use Rattle.std.proofs.Common.{None, Some, ap, ◌∙◌}
use Rattle.std.specs.Ordering.{is_lt}
use Rattle.shop_check.proofs.Counted.{lower_twin}
use Rattle.shop_check.proofs.indexed.RowsOthers.has_lower_twin.Goals as goal

pub returns-in-Some : goal.returns-in-Some
returns-in-Some c = c.is_lt.ensures ∙ (ap is_lt c.order.ensures ∙ lower_twin c.args.self.now.list c.args.row.now (Some c.in-Some.other.now) c.len-order.ensures.order c.requires c.in-Some.ensures)

pub returns-in-None : goal.returns-in-None
returns-in-None c = lower_twin c.args.self.now.list c.args.row.now None c.len-order.ensures.order c.requires c.in-None.ensures
