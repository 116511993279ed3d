use Rattle.std.proofs.Common.{◌≡◌, ◌+◌, [], length}
use Rattle.std.specs.Prelude.{sum_by}
use Rattle.std.specs.List.{AllByRecursion}
use Rattle.cart_sums.specs.Fits.{AreSums}
use Rattle.cart_sums.specs.Sums.{left_at, plus_of}
use Rattle.cart_process.specs.LinePrices.{PriceFits}
use Rattle.cart_process.specs.Priced.{line_total}
use Rattle.cart_process.specs.Summing.{line_sums}
use Rattle.cart_process.proofs.taxing.line_sums.Given as goal

abbrev pub invariant-loop-rest : goal.invariant-loop-rest
invariant-loop-rest l = record {
  sums : AreSums l.sums.list;
  fit : AllByRecursion PriceFits l.rest;
  plus : sum_by plus_of l.sums.list + sum_by line_total l.rest ≡ sum_by line_total l.prices;
  left : sum_by left_at l.sums.list + sum_by line_total l.rest ≡ sum_by line_total l.prices;
  done : line_sums l.state l.sums.list l.rest ≡ line_sums l.state [] l.prices;
}

abbrev pub decreases-loop-rest : goal.decreases-loop-rest
decreases-loop-rest l = length l.rest
