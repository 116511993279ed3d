use Rattle.std.proofs.Common.{◌≡◌, ◌++◌, map, length}
use Rattle.std.specs.List.{AllByRecursion}
use Rattle.cart_price.specs.Lent.{line_rows}
use Rattle.cart_process.specs.Kept.{IsLineKept}
use Rattle.cart_process.specs.Priced.{line_prices}
use Rattle.cart_process.proofs.goods.prices_of.Given as goal

abbrev pub invariant-loop-rest : goal.invariant-loop-rest
invariant-loop-rest l = record {
  kept : AllByRecursion IsLineKept (map line_rows l.rest);
  done : l.prices.items ++ line_prices l.state l.rules (map line_rows l.rest) ≡ line_prices l.state l.rules (map line_rows l.lines);
}

abbrev pub decreases-loop-rest : goal.decreases-loop-rest
decreases-loop-rest l = length l.rest
