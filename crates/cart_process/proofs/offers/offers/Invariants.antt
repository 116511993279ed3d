use Rattle.std.proofs.Common.{◌≡◌, ◌++◌, map, length}
use Rattle.cart_price.specs.Lent.{lent_rows, promotion_rows}
use Rattle.cart_process.specs.Offers.{offers}
use Rattle.cart_process.proofs.offers.offers.Given as goal

abbrev pub invariant-loop-rest : goal.invariant-loop-rest
invariant-loop-rest l =
    l.found.items ++ offers l.moment (lent_rows l.lent.codes) l.rules l.scope (map promotion_rows l.rest) ≡ offers l.moment (lent_rows l.lent.codes) l.rules l.scope (map promotion_rows l.lent.promotions)

abbrev pub decreases-loop-rest : goal.decreases-loop-rest
decreases-loop-rest l = length l.rest
