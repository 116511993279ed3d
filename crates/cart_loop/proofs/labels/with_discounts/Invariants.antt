use Rattle.std.proofs.Common.{◌≡◌, ◌++◌, map, length}
use Rattle.cart_price.specs.Lent.{promotion_rows}
use Rattle.cart_loop.specs.Labels.{discount_label}
use Rattle.cart_loop.proofs.labels.with_discounts.Given as goal

abbrev pub invariant-loop-rest : goal.invariant-loop-rest
invariant-loop-rest l =
    l.after ++ map (discount_label (map promotion_rows l.promotions)) l.rest ≡ l.fn.labels ++ map (discount_label (map promotion_rows l.promotions)) l.discounts

abbrev pub decreases-loop-rest : goal.decreases-loop-rest
decreases-loop-rest l = length l.rest
