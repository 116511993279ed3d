-- Whether what two rounds give is the same, as a test.
use Rattle.std.specs.Prelude.{ℕ, Bool, true, false, ◌==◌, ◌&&◌, Option, Some, None}
use Rattle.std.specs.Ordering.{int_eq}
use Rattle.std.specs.Str.{bytes_eq}
use lib.Pointwise.{pointwise}
use Rattle.cart_price.specs.declared.priced.Block.{Block}
use Rattle.cart_price.specs.declared.priced.Delivery.{Delivery}
use Rattle.cart_price.specs.declared.priced.Discount.{Discount}
use Rattle.cart_price.specs.declared.priced.PricedCart.{PricedCart}
use Rattle.cart_price.specs.declared.priced.PricedLine.{PricedLine}
use Rattle.cart_price.specs.declared.priced.TaxSum.{TaxSum}
use Rattle.cart_loop.specs.declared.state.State.{State}

abbrev pub same_line : PricedLine → PricedLine → Bool
same_line a b = (a.id == b.id) && (a.product == b.product) && (a.quantity == b.quantity) && (a.rate == b.rate) && int_eq a.total b.total && int_eq a.unit b.unit

abbrev pub same_discount : Discount → Discount → Bool
same_discount a b = int_eq a.amount b.amount && (a.discount == b.discount) && (a.promotion == b.promotion)

abbrev pub same_delivery : Option Delivery → Option Delivery → Bool
same_delivery None None = true
same_delivery (Some a) (Some b) = int_eq a.cost b.cost && (a.method == b.method) && (a.rate == b.rate)
same_delivery a b = false

abbrev pub same_sum : TaxSum → TaxSum → Bool
same_sum a b = int_eq a.amount b.amount && (a.rate == b.rate) && int_eq a.tax b.tax

abbrev pub same_block : Block → Block → Bool
same_block a b = bytes_eq a.cause b.cause && (a.line == b.line)

abbrev pub same_numbers : PricedCart → PricedCart → Bool
same_numbers a b = int_eq a.count b.count && int_eq a.goods b.goods && int_eq a.raw b.raw && int_eq a.tax b.tax && int_eq a.total b.total && int_eq a.weight b.weight

abbrev pub same_parts : PricedCart → PricedCart → Bool
same_parts a b =
    same_delivery a.delivery b.delivery && pointwise same_discount a.delivery_discounts b.delivery_discounts && pointwise same_discount a.discounts b.discounts
    && pointwise same_line a.lines b.lines && pointwise same_sum a.taxes b.taxes && pointwise same_block a.blocks b.blocks

-- the carts and the rules that hold of them are the same
unfoldable pub same_state : State → State → Bool
same_state a b = bytes_eq a.rules b.rules && same_numbers a.cart b.cart && same_parts a.cart b.cart
