use Rattle.std.proofs.Common.{◌≡◌, ◌++◌, length}
use Rattle.shop_write.specs.Steps.{next_ids}
use Rattle.shop_write.proofs.depth.next_level.Given as goal

abbrev pub invariant-loop-rest : goal.invariant-loop-rest
invariant-loop-rest g l = l.next ++ next_ids (g.V.View.seen l.view).rows l.row l.rest ≡ next_ids (g.V.View.seen l.view).rows l.row l.level

abbrev pub decreases-loop-rest : goal.decreases-loop-rest
decreases-loop-rest g l = length l.rest
