use Rattle.std.proofs.Common.{◌≡◌, map, length}
use Rattle.cart_price.specs.Lent.{promotion_rows}
use Rattle.cart_loop.specs.Labels.{name_in}
use Rattle.cart_loop.proofs.labels.name_in.Given as goal

abbrev pub invariant-loop-rest : goal.invariant-loop-rest
invariant-loop-rest l = name_in (map promotion_rows l.rest) l.id ≡ name_in (map promotion_rows l.promotions) l.id

abbrev pub decreases-loop-rest : goal.decreases-loop-rest
decreases-loop-rest l = length l.rest
