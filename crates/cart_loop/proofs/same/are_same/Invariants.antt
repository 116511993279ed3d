use Rattle.std.proofs.Common.{◌≡◌, ◌↔◌, length}
use Rattle.cart_loop.proofs.same.are_same.Given as goal

abbrev pub invariant-loop-at : goal.invariant-loop-at
invariant-loop-at g l = (l.at ≡ l.other) ↔ (l.ours ≡ l.theirs)

abbrev pub decreases-loop-at : goal.decreases-loop-at
decreases-loop-at g l = length l.at
