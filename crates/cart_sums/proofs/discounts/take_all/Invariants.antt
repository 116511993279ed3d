use Rattle.std.proofs.Common.{◌≡◌, ◌≤◌, length}
use Rattle.std.specs.List.{fold}
use Rattle.cart_sums.specs.Discounts.{take_off, take_all}
use Rattle.cart_sums.specs.Taxes.{most}
use Rattle.cart_sums.proofs.discounts.take_all.Given as goal

abbrev pub invariant-loop-rest : goal.invariant-loop-rest
invariant-loop-rest l = record {
  left : l.taken.left ≤ most;
  done : fold take_off l.taken l.rest ≡ take_all l.fn.left l.offers;
}

abbrev pub decreases-loop-rest : goal.decreases-loop-rest
decreases-loop-rest l = length l.rest
