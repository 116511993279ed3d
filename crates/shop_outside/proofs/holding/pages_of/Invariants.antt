use Rattle.std.proofs.Common.{◌≡◌, [], length}
use Rattle.paged.specs.Paged.{all_pairs}
use Rattle.shop_outside.specs.Bodies.{all_put}
use Rattle.shop_outside.proofs.holding.pages_of.Given as goal

abbrev pub invariant-loop-rest : goal.invariant-loop-rest
invariant-loop-rest l = all_put (all_pairs l.pages) l.rest ≡ all_put [] l.rows

abbrev pub decreases-loop-rest : goal.decreases-loop-rest
decreases-loop-rest l = length l.rest
