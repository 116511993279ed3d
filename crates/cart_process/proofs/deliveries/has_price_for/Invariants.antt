use Rattle.std.proofs.Common.{◌≡◌, filter, length}
use Rattle.std.specs.List.{list_any}
use Rattle.cart_price.specs.Lent.{lent_rows}
use Rattle.cart_process.specs.Deliveries.{is_for, is_usable}
use Rattle.cart_process.proofs.deliveries.has_price_for.Given as goal

abbrev pub invariant-loop-rest : goal.invariant-loop-rest
invariant-loop-rest l = list_any (is_for l.rule) (filter (is_usable l.rules l.measures) (lent_rows l.rest)) ≡ list_any (is_for l.rule) (filter (is_usable l.rules l.measures) (lent_rows l.prices))

abbrev pub decreases-loop-rest : goal.decreases-loop-rest
decreases-loop-rest l = length l.rest
