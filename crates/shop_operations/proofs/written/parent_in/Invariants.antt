use Rattle.std.proofs.Common.{◌≡◌, length}
use Rattle.shop_operations.specs.Parents.{parent_id}
use Rattle.shop_operations.proofs.written.parent_in.Given as goal

abbrev pub invariant-loop-rest : goal.invariant-loop-rest
invariant-loop-rest l = parent_id l.rest l.row ≡ parent_id l.table l.row

abbrev pub decreases-loop-rest : goal.decreases-loop-rest
decreases-loop-rest l = length l.rest
