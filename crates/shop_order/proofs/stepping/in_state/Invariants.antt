use Rattle.std.proofs.Common.{◌≡◌, ◌++◌, map, length}
use Rattle.shop_order.specs.Steps.{field_in_state}
use Rattle.shop_order.proofs.stepping.in_state.Given as goal

abbrev pub invariant-loop-rest : goal.invariant-loop-rest
invariant-loop-rest l = l.fields ++ map (field_in_state l.state) l.rest ≡ map (field_in_state l.state) l.order.fields

abbrev pub decreases-loop-rest : goal.decreases-loop-rest
decreases-loop-rest l = length l.rest
