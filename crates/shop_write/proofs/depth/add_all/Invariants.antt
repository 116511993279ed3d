use Rattle.std.proofs.Common.{◌≡◌, ◌++◌, length}
use Rattle.shop_write.proofs.depth.add_all.Given as goal

abbrev pub invariant-loop-rest : goal.invariant-loop-rest
invariant-loop-rest l = l.ids ++ l.rest ≡ l.initial.ids ++ l.level

abbrev pub decreases-loop-rest : goal.decreases-loop-rest
decreases-loop-rest l = length l.rest
