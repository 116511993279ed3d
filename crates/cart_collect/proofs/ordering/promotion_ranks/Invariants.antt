use Rattle.std.proofs.Common.{◌≡◌, ◌++◌, map, length}
use Rattle.cart_price.specs.Lent.{lent_rows}
use Rattle.cart_collect.specs.Ranks.{promotion_rank}
use Rattle.cart_collect.proofs.ordering.promotion_ranks.Given as goal

abbrev pub invariant-loop-rest : goal.invariant-loop-rest
invariant-loop-rest l = l.ranks.items ++ map promotion_rank (lent_rows l.rest) ≡ map promotion_rank (lent_rows l.promotions)

abbrev pub decreases-loop-rest : goal.decreases-loop-rest
decreases-loop-rest l = length l.rest
