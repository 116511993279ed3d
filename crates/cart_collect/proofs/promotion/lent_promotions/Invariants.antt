use Rattle.std.proofs.Common.{◌≡◌, ◌++◌, map, length}
use Rattle.cart_price.specs.Lent.{lent_rows, promotion_rows}
use Rattle.cart_collect.specs.Collected.{promotion_of}
use Rattle.cart_collect.proofs.promotion.lent_promotions.Given as goal

abbrev pub invariant-loop-rest : goal.invariant-loop-rest
invariant-loop-rest l = map promotion_rows l.lent.items ++ map (promotion_of l.rows.list) (lent_rows l.rest) ≡ map (promotion_of l.rows.list) (lent_rows l.promotions)

abbrev pub decreases-loop-rest : goal.decreases-loop-rest
decreases-loop-rest l = length l.rest
