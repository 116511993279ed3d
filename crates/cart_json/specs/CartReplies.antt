-- What the reply says of a settled cart, as a JSON value.
use Rattle.std.specs.Prelude.{ℕ, List, [], ◌∷◌, map, codes, Option, Some, None}
use Rattle.serde_json.specs.Data.{Data, null, string, array, Items}
use Rattle.serde_json.specs.View.{items_of}
use Rattle.cart_price.specs.declared.priced.Block.{Block}
use Rattle.cart_price.specs.declared.priced.Delivery.{Delivery}
use Rattle.cart_price.specs.declared.priced.Discount.{Discount}
use Rattle.cart_price.specs.declared.priced.PricedCart.{PricedCart}
use Rattle.cart_price.specs.declared.priced.PricedLine.{PricedLine}
use Rattle.cart_price.specs.declared.priced.Settled.{Settled}
use Rattle.cart_price.specs.declared.priced.TaxSum.{TaxSum}
use Rattle.reply_json.specs.Objects.{object_of, count_data, number_data, id_data}

-- a line
abbrev pub line_data : PricedLine → Data
line_data line =
    object_of
    ((codes "id", id_data line.id) ∷ (codes "product", id_data line.product) ∷ (codes "quantity", count_data line.quantity)
    ∷ (codes "rate", count_data line.rate) ∷ (codes "total", number_data line.total) ∷ (codes "unit", number_data line.unit) ∷ [])

-- what a promotion takes off
abbrev pub discount_data : Discount → Data
discount_data discount =
    object_of
    ((codes "amount", number_data discount.amount) ∷ (codes "discount", id_data discount.discount)
    ∷ (codes "promotion", id_data discount.promotion) ∷ [])

-- the delivery, where there is one
abbrev pub delivery_data : Option Delivery → Data
delivery_data None = null
delivery_data (Some delivery) =
    object_of
    ((codes "cost", number_data delivery.cost) ∷ (codes "method", id_data delivery.method)
    ∷ (codes "rate", count_data delivery.rate) ∷ [])

-- what the cart comes to at one tax rate
abbrev pub tax_data : TaxSum → Data
tax_data sum =
    object_of
    ((codes "amount", number_data sum.amount) ∷ (codes "rate", count_data sum.rate) ∷ (codes "tax", number_data sum.tax) ∷ [])

-- what keeps the cart from being ordered
abbrev pub block_data : Block → Data
block_data block = object_of ((codes "cause", string block.cause) ∷ (codes "line", id_data block.line) ∷ [])

-- the elements of an array, each as it is shown
abbrev pub items_by : {A : Type 0} → (A → Data) → List A → Items
items_by show list = items_of (map show list)

-- the cart with its prices
abbrev pub cart_data : PricedCart → Data
cart_data cart =
    object_of
    ((codes "count", number_data cart.count) ∷ (codes "delivery", delivery_data cart.delivery)
    ∷ (codes "delivery_discounts", array (items_by discount_data cart.delivery_discounts))
    ∷ (codes "discounts", array (items_by discount_data cart.discounts)) ∷ (codes "goods", number_data cart.goods)
    ∷ (codes "lines", array (items_by line_data cart.lines)) ∷ (codes "raw", number_data cart.raw)
    ∷ (codes "tax", number_data cart.tax) ∷ (codes "taxes", array (items_by tax_data cart.taxes))
    ∷ (codes "total", number_data cart.total) ∷ (codes "weight", number_data cart.weight) ∷ [])

-- a settled cart, beside the number of entries that were accepted by then
abbrev pub settled_data : ℕ → Settled → Data
settled_data front settled =
    object_of
    ((codes "blocks", array (items_by block_data settled.cart.blocks)) ∷ (codes "cart", cart_data settled.cart)
    ∷ (codes "front", count_data front) ∷ (codes "labels", array (items_by string settled.labels))
    ∷ (codes "rounds", count_data settled.rounds) ∷ (codes "rules", array (items_by id_data settled.rules)) ∷ [])
