use Rattle.std.proofs.Common.{◌≡◌, ◌≤◌, length}
use Rattle.cart_sums.specs.Discounts.{total_off}
use Rattle.cart_sums.specs.Fits.{AreSums}
use Rattle.cart_sums.specs.Sums.{IsNew, left_at, sum_at, take_delivery}
use Rattle.cart_sums.proofs.delivery.take_delivery.Given as goal

abbrev pub invariant-loop-rest : goal.invariant-loop-rest
invariant-loop-rest l = record {
  sums : AreSums l.after.list;
  new : IsNew l.after.list l.rate → IsNew l.fn.sums.list l.rate;
  within : total_off l.rest ≤ left_at (sum_at l.after.list l.rate);
  done : take_delivery l.state l.after.list l.rate l.rest ≡ take_delivery l.state l.fn.sums.list l.rate l.discounts;
}

abbrev pub decreases-loop-rest : goal.decreases-loop-rest
decreases-loop-rest l = length l.rest
