use Rattle.std.proofs.Common.{◌≡◌, length}
use Rattle.shop_outside.specs.Scanning.{keys_ascend}
use Rattle.shop_outside.proofs.bodies.has_ascending_keys.Given as goal

abbrev pub invariant-loop-rest : goal.invariant-loop-rest
invariant-loop-rest g l = keys_ascend l.rest ≡ keys_ascend l.initial.rest

abbrev pub decreases-loop-rest : goal.decreases-loop-rest
decreases-loop-rest g l = length l.rest
