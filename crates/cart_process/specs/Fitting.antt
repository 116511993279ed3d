-- The bounds of what a cart's goods and its delivery come to.
use Rattle.std.specs.Prelude.{◌≡◌, ◌≤◌, ◌^◌, sum_by, IfSome}
use Rattle.std.specs.List.{AllByRecursion}
use Rattle.cart_sums.specs.Discounts.{IsTakenOff}
use Rattle.cart_process.specs.declared.goods.Goods.{Goods}
use Rattle.cart_process.specs.declared.sending.Sending.{Sending}
use Rattle.cart_process.specs.Kept.{ShippedFits}
use Rattle.cart_process.specs.LinePrices.{PriceFits}
use Rattle.cart_process.specs.Priced.{cost_of, line_total}

-- a hundred lines of 10,000 pieces
pub record GoodsFit (goods : Goods) : Type 0 where
  pub fit : AllByRecursion PriceFits goods.prices
  pub total : goods.measures.goods ≡ sum_by line_total goods.prices
  pub count : goods.measures.count ≤ 10 ^ 6
  pub most : goods.measures.goods ≤ 10 ^ 18
  pub weight : goods.measures.weight ≤ 10 ^ 15
  pub taken : IsTakenOff goods.measures.goods goods.taken

pub record SendingFits (sending : Sending) : Type 0 where
  pub shipped : IfSome sending.shipped ShippedFits
  pub taken : IsTakenOff (cost_of sending.shipped) sending.taken
