use Rattle.std.proofs.Common.{◌≡◌, ◌++◌, map, length}
use Rattle.shop_order.specs.Placing.{take_out}
use Rattle.shop_order.proofs.placing.push_gone.Given as goal

abbrev pub invariant-loop-rest : goal.invariant-loop-rest
invariant-loop-rest l = l.changes ++ map take_out l.rest ≡ l.initial.changes ++ map take_out l.keys

abbrev pub decreases-loop-rest : goal.decreases-loop-rest
decreases-loop-rest l = length l.rest
