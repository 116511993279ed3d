-- What the lines of an order say, made of a settled cart.
use Rattle.std.specs.Prelude.{◌≡◌, ℕ, ℤ, pos, ◌-ℤ◌, ◌<ℤ◌, List, [], ◌∷◌, ◌++◌, map, codes, Option, Some, None}
use Rattle.std.specs.List.{AllByRecursion}
use Rattle.cart_price.specs.declared.priced.Delivery.{Delivery}
use Rattle.cart_price.specs.declared.priced.Discount.{Discount}
use Rattle.cart_price.specs.declared.priced.PricedCart.{PricedCart}
use Rattle.cart_price.specs.declared.priced.PricedLine.{PricedLine}
use Rattle.shop_order.specs.declared.parts.LineKind.{LineKind}
use Rattle.shop_order.specs.declared.parts.LineKind.TheVariants as K
use Rattle.shop_order.specs.declared.parts.OrderPart.{OrderPart}
use Rattle.shop_order.specs.declared.wants.Want.{Want}

-- the word that a line's row has for what it is for
abbrev pub kind_text : LineKind → List ℕ
kind_text K.Product = codes "product"
kind_text K.Discount = codes "discount"
kind_text K.Delivery = codes "delivery"
kind_text K.DeliveryDiscount = codes "delivery_discount"

-- a line of the cart is one of its product, with its quantity, its prices and its rate
abbrev pub line_part : PricedLine → OrderPart
line_part line = record { kind = K.Product; product = Some line.product; quantity = line.quantity; unit = line.unit; total = line.total; rate = Some line.rate }

-- a discount is one piece of what it takes off, without a rate
abbrev pub discount_part : LineKind → Discount → OrderPart
discount_part kind discount = record { kind = kind; product = None; quantity = 1; unit = pos 0 -ℤ discount.amount; total = pos 0 -ℤ discount.amount; rate = None }

-- a delivery is one piece of what it costs, with its rate
abbrev pub delivery_parts : Option Delivery → List OrderPart
delivery_parts None = []
delivery_parts (Some delivery) = record { kind = K.Delivery; product = None; quantity = 1; unit = delivery.cost; total = delivery.cost; rate = Some delivery.rate } ∷ []

-- the cart's lines, the discounts, the delivery, and the discounts on it
abbrev pub parts : PricedCart → List OrderPart
parts cart = ((map line_part cart.lines ++ map (discount_part K.Discount) cart.discounts) ++ delivery_parts cart.delivery) ++ map (discount_part K.DeliveryDiscount) cart.delivery_discounts

-- the pieces that a line of the cart wants
abbrev pub line_want : PricedLine → Want
line_want line = record { product = line.product; quantity = line.quantity }

-- a discount takes something off
abbrev pub IsDiscount : Discount → Type 0
IsDiscount discount = pos 0 <ℤ discount.amount

abbrev pub AreDiscounts : List Discount → Type 0
AreDiscounts discounts = AllByRecursion IsDiscount discounts
