use Rattle.std.proofs.Common.{◌≡◌, length}
use Rattle.shop_defs.specs.Rows.{field_in}
use Rattle.shop_operations.proofs.given.holds.Given as goal

abbrev pub invariant-loop-rest : goal.invariant-loop-rest
invariant-loop-rest l = field_in l.rest l.number ≡ field_in l.fields l.number

abbrev pub decreases-loop-rest : goal.decreases-loop-rest
decreases-loop-rest l = length l.rest
