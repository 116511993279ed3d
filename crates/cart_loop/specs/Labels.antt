-- What the parts of a cart are called.
use Rattle.std.specs.Prelude.{ℕ, Bool, ◌==◌, List, [], ◌∷◌, ◌++◌, map, find, Option, Some, None, option_and_then, unwrap_or, codes}
use Rattle.std.specs.Str.Lossy.{utf8_lossy}
use Rattle.shop_defs.specs.declared.entity.Entity.TheVariants as E
use Rattle.shop_defs.specs.declared.row.Row.{Row}
use Rattle.shop_defs.specs.declared.words.FieldName.TheVariants as N
use Rattle.row_fields.specs.Fields.{number_of, text_at}
use Rattle.cart_price.specs.Lent.{CartRows, LineRows, PromotionRows}
use Rattle.cart_price.specs.declared.priced.Delivery.{Delivery}
use Rattle.cart_price.specs.declared.priced.Discount.{Discount}
use Rattle.cart_price.specs.declared.priced.PricedCart.{PricedCart}

-- a text, and where there is none a dash
abbrev pub or_dash : Option (List ℕ) → List ℕ
or_dash text = unwrap_or text (codes "-")

-- a line is called by its product's name, else by the product's number, else by a dash; names are UTF-8, and of those `utf8_lossy` is the name itself
abbrev pub label_by : Option (List ℕ) → Option Row → List ℕ
label_by (Some name) product = utf8_lossy name
label_by None product = or_dash (option_and_then (λ row. text_at row (number_of E.Product N.Number)) product)

abbrev pub line_label : LineRows → List ℕ
line_label line = label_by line.name line.product

-- a discount is called by its promotion's name
abbrev pub is_promotion : ℕ → PromotionRows → Bool
is_promotion id promotion = promotion.promotion.key.id == id

abbrev pub name_in : List PromotionRows → ℕ → Option (List ℕ)
name_in promotions id = option_and_then (λ found. text_at found.promotion (number_of E.Promotion N.Name)) (find (is_promotion id) promotions)

abbrev pub discount_label : List PromotionRows → Discount → List ℕ
discount_label promotions discount = or_dash (name_in promotions discount.promotion)

-- a delivery is called by its method's name
abbrev pub delivery_labels : Option Row → Option Delivery → List (List ℕ)
delivery_labels method None = []
delivery_labels method (Some delivery) = or_dash (option_and_then (λ row. text_at row (number_of E.ShippingMethod N.Name)) method) ∷ []

-- the lines, the discounts, the delivery, and the discounts on it
abbrev pub labels : CartRows → PricedCart → List (List ℕ)
labels rows cart =
    ((map line_label rows.lines
    ++ map (discount_label rows.promotions) cart.discounts)
    ++ delivery_labels rows.method cart.delivery)
    ++ map (discount_label rows.promotions) cart.delivery_discounts
