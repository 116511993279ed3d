use Rattle.std.proofs.Common.{◌≡◌, find, length}
use Rattle.shop_operations.specs.Upserts.{owner_is_full, with_row}
use Rattle.shop_write.proofs.limit.full_limit.Given as goal

abbrev pub invariant-loop-rest : goal.invariant-loop-rest
invariant-loop-rest g l = find (owner_is_full (with_row (g.V.View.seen l.view).rows l.row) l.row) l.rest ≡ find (owner_is_full (with_row (g.V.View.seen l.view).rows l.row) l.row) l.limits

abbrev pub decreases-loop-rest : goal.decreases-loop-rest
decreases-loop-rest g l = length l.rest
