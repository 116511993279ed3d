use Rattle.std.proofs.Common.{◌≡◌, ◌+◌, ◌≤◌, ◌^◌, length}
use Rattle.std.specs.Prelude.{sum_by}
use Rattle.std.specs.List.{AllByRecursion}
use Rattle.cart_process.specs.LinePrices.{PriceFits}
use Rattle.cart_process.specs.Priced.{line_total}
use Rattle.cart_process.proofs.goods.measures_of.Given as goal

abbrev pub invariant-loop-rest : goal.invariant-loop-rest
invariant-loop-rest l = record {
  fit : AllByRecursion PriceFits l.rest;
  count : l.measures.count + sum_by (λ price. price.pieces) l.rest ≡ sum_by (λ price. price.pieces) l.prices;
  goods : l.measures.goods + sum_by line_total l.rest ≡ sum_by line_total l.prices;
  weight : l.measures.weight + sum_by (λ price. price.weight) l.rest ≡ sum_by (λ price. price.weight) l.prices;
  count_most : sum_by (λ price. price.pieces) l.prices ≤ 10 ^ 6;
  goods_most : sum_by line_total l.prices ≤ 10 ^ 18;
  weight_most : sum_by (λ price. price.weight) l.prices ≤ 10 ^ 15;
}

abbrev pub decreases-loop-rest : goal.decreases-loop-rest
decreases-loop-rest l = length l.rest
