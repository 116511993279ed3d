use Rattle.std.proofs.Common.{◌≡◌, ◌≤◌, ◌++◌, length}
use Rattle.std.specs.List.{AllByRecursion}
use Rattle.cart_sums.specs.Fits.{Fits}
use Rattle.cart_sums.specs.Sums.{bases}
use Rattle.cart_sums.proofs.goods.bases_of.Given as goal

abbrev pub invariant-loop-rest : goal.invariant-loop-rest
invariant-loop-rest l = record {
  within : length l.rest ≤ length l.sums;
  fit : AllByRecursion Fits l.rest;
  done : l.found.items ++ bases l.rest ≡ bases l.sums;
}

abbrev pub decreases-loop-rest : goal.decreases-loop-rest
decreases-loop-rest l = length l.rest
