use Rattle.std.proofs.Common.{◌≡◌, ◌+◌, length}
use Rattle.shop_order.specs.Wants.{wanted}
use Rattle.shop_order.proofs.wants.wanted.Given as goal

abbrev pub invariant-loop-rest : goal.invariant-loop-rest
invariant-loop-rest l = l.sum + wanted l.rest l.product ≡ wanted l.wants l.product

abbrev pub decreases-loop-rest : goal.decreases-loop-rest
decreases-loop-rest l = length l.rest
