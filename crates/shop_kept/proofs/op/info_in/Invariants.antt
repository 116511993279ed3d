use Rattle.std.proofs.Common.{◌≡◌, length}
use Rattle.shop_kept.specs.Reading as spec
use Rattle.shop_kept.proofs.op.info_in.Given as goal

abbrev pub invariant-loop-rest : goal.invariant-loop-rest
invariant-loop-rest l = spec.info_in l.rest l.number ≡ spec.info_in l.table l.number

abbrev pub decreases-loop-rest : goal.decreases-loop-rest
decreases-loop-rest l = length l.rest
