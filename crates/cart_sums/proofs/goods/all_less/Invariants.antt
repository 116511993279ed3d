use Rattle.std.proofs.Common.{◌≡◌, ◌≤◌, ◌++◌, length}
use Rattle.std.specs.List.{AllByRecursion, AllZip}
use Rattle.cart_price.specs.LargestRemainder.{IsPartOf}
use Rattle.cart_sums.specs.Fits.{Fits}
use Rattle.cart_sums.specs.Sums.{bases, bear_less}
use Rattle.cart_sums.proofs.goods.all_less.Given as goal

abbrev pub invariant-loop-at : goal.invariant-loop-at
invariant-loop-at l = record {
  within : length l.at ≤ length l.sums;
  fit : AllByRecursion Fits l.at;
  parts : AllZip IsPartOf l.part (bases l.at);
  done : l.found.items ++ bear_less l.state l.at l.part ≡ bear_less l.state l.sums l.parts;
}

abbrev pub decreases-loop-at : goal.decreases-loop-at
decreases-loop-at l = length l.at
