use Rattle.std.proofs.Common.{◌≡◌, length}
use Rattle.shop_defs.specs.Tables as spec
use Rattle.shop_defs.proofs.lookup.number_in.Given as goal

abbrev pub invariant-loop-rest : goal.invariant-loop-rest
invariant-loop-rest l = spec.number_in l.rest l.number ≡ spec.number_in l.table l.number

abbrev pub decreases-loop-rest : goal.decreases-loop-rest
decreases-loop-rest l = length l.rest
