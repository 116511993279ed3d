use Rattle.std.proofs.Common.{◌≡◌, length}
use Rattle.shop_defs.specs.Tables as spec
use Rattle.shop_defs.proofs.lookup.name_in.Given as goal

abbrev pub invariant-loop-rest : goal.invariant-loop-rest
invariant-loop-rest l = spec.name_in l.rest l.name ≡ spec.name_in l.table l.name

abbrev pub decreases-loop-rest : goal.decreases-loop-rest
decreases-loop-rest l = length l.rest
