use Rattle.std.proofs.Common.{length}
use Rattle.shop_check.proofs.Orders.{AreAbove}
use Rattle.shop_defs.specs.Rows.{IsInKeyOrder}
use Rattle.shop_check.proofs.check.are_in_order.Given as goal

-- where the rest ascends from the last key on, all do
abbrev pub invariant-loop-rest : goal.invariant-loop-rest
invariant-loop-rest l = AreAbove l.before l.rest → IsInKeyOrder l.rows

abbrev pub decreases-loop-rest : goal.decreases-loop-rest
decreases-loop-rest l = length l.rest
