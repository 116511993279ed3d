use Rattle.std.proofs.Common.{◌≡◌, ◌++◌, length}
use Rattle.cart_price.specs.Lent.{lent_rows}
use Rattle.cart_process.specs.Offers.{all_in}
use Rattle.cart_process.proofs.offers.with_discounts.Given as goal

abbrev pub invariant-loop-rest : goal.invariant-loop-rest
invariant-loop-rest l = l.after.items ++ all_in l.scope l.promotion (lent_rows l.rest) ≡ l.fn.found.items ++ all_in l.scope l.promotion (lent_rows l.discounts)

abbrev pub decreases-loop-rest : goal.decreases-loop-rest
decreases-loop-rest l = length l.rest
