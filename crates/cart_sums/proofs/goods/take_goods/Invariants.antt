use Rattle.std.proofs.Common.{◌≡◌, ◌≤◌, length}
use Rattle.std.specs.Prelude.{sum_by}
use Rattle.cart_sums.specs.Discounts.{total_off}
use Rattle.cart_sums.specs.Fits.{AreSums}
use Rattle.cart_sums.specs.Sums.{left_at, take_goods}
use Rattle.cart_sums.proofs.goods.take_goods.Given as goal

abbrev pub invariant-loop-rest : goal.invariant-loop-rest
invariant-loop-rest l = record {
  within_discounts : length l.rest ≤ length l.discounts;
  rates : length l.after.list ≡ length l.fn.sums.list;
  sums : AreSums l.after.list;
  within : total_off l.rest ≤ sum_by left_at l.after.list;
  done : take_goods l.state l.after.list l.rest ≡ take_goods l.state l.fn.sums.list l.discounts;
}

abbrev pub decreases-loop-rest : goal.decreases-loop-rest
decreases-loop-rest l = length l.rest
