use Rattle.std.proofs.Common.{◌≡◌, filter, length}
use Rattle.cart_price.specs.Lent.{lent_rows}
use Rattle.cart_process.specs.Deliveries.{is_usable, of_first}
use Rattle.cart_process.proofs.deliveries.shipping_price.Given as goal

abbrev pub invariant-loop-rest : goal.invariant-loop-rest
invariant-loop-rest l = of_first l.rest (filter (is_usable l.rules l.measures) (lent_rows l.prices)) ≡ of_first l.rules (filter (is_usable l.rules l.measures) (lent_rows l.prices))

abbrev pub decreases-loop-rest : goal.decreases-loop-rest
decreases-loop-rest l = length l.rest
