use Rattle.std.proofs.Common.{◌≡◌, ◌++◌, map, length}
use Rattle.std.specs.List.{AllByRecursion}
use Rattle.cart_price.specs.Lent.{line_rows}
use Rattle.cart_process.specs.Kept.{IsLineKept}
use Rattle.cart_process.specs.LinePrices.{PriceFits}
use Rattle.cart_process.specs.Priced.{lines_by}
use Rattle.cart_process.proofs.blocks.lines_of.Given as goal

abbrev pub invariant-loop-at : goal.invariant-loop-at
invariant-loop-at l = record {
  kept : AllByRecursion IsLineKept (map line_rows l.at);
  fit : AllByRecursion PriceFits l.costs;
  done : l.found.items ++ lines_by (map line_rows l.at) l.costs ≡ lines_by (map line_rows l.lines) l.prices;
}

abbrev pub decreases-loop-at : goal.decreases-loop-at
decreases-loop-at l = length l.at
