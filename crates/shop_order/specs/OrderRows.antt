-- The rows of a placed order.
use Rattle.std.specs.Prelude.{◌≡◌, ℕ, suc, ◌+◌, ℤ, pos, ◌-ℤ◌, List, [], ◌∷◌, ◌++◌, map, codes, Option, Some, None}
use Rattle.std.specs.Option.{option_map}
use Rattle.shop_defs.specs.declared.row.Row.{Row}
use Rattle.shop_defs.specs.declared.value.Value.{Value}
use Rattle.shop_defs.specs.declared.value.Value.TheVariants as V
use Rattle.shop_defs.specs.Joined.{Change}
use Rattle.shop_defs.specs.Rows.{field_of}
use Rattle.cart_price.specs.declared.priced.PricedCart.{PricedCart}
use Rattle.cart_price.specs.declared.priced.Settled.{Settled}
use Rattle.cart_price.specs.declared.priced.TaxSum.{TaxSum}
use Rattle.shop_order.specs.declared.numbers.TheConstants.{CART_TAX_STATE, ORDER_STATE, ORDER_PLACED, ORDER_TAX_STATE, ORDER_TOTAL, ORDER_TAX, ORDER_ROUNDING, LINE_KIND, LINE_PRODUCT, LINE_LABEL, LINE_QUANTITY, LINE_UNIT, LINE_TOTAL, LINE_RATE, TAX_AMOUNT, TAX_TAX}
use Rattle.shop_order.specs.declared.parts.OrderPart.{OrderPart}
use Rattle.shop_order.specs.Keys.{order_key, line_key, tax_key}
use Rattle.shop_order.specs.Parts.{kind_text, parts}

-- a field that may be empty
abbrev pub optional : ℕ → Option Value → List (ℕ × Value)
optional number None = []
optional number (Some value) = (number, value) ∷ []

-- ---- the order

abbrev pub word_or_gross : Option Value → List ℕ
word_or_gross (Some (V.Text word)) = word
word_or_gross value = codes "gross"

-- which prices a cart has
abbrev pub tax_state_in : Row → Option Value
tax_state_in cart_row = field_of cart_row CART_TAX_STATE

-- the order is open, has the cart's kind of prices, total and tax, and what rounding added
abbrev pub order_row_with : ℕ → Row → ℤ → PricedCart → Value → Row
order_row_with order cart_row moment cart rounding = record {
  key = order_key order;
  fields = (ORDER_STATE, V.Text (codes "open")) ∷ (ORDER_PLACED, V.Int moment) ∷ (ORDER_TAX_STATE, V.Text (word_or_gross (tax_state_in cart_row)))
      ∷ (ORDER_TOTAL, V.Int cart.total) ∷ (ORDER_TAX, V.Int cart.tax) ∷ (ORDER_ROUNDING, rounding) ∷ [];
  ops = [];
}

-- what rounding added to the total
abbrev pub rounding_of : PricedCart → ℤ
rounding_of cart = cart.total -ℤ cart.raw

abbrev pub order_row : ℕ → Row → ℤ → PricedCart → Row
order_row order cart_row moment cart = order_row_with order cart_row moment cart (V.Int (rounding_of cart))

-- ---- its lines

abbrev pub line_fields : OrderPart → List ℕ → List (ℕ × Value)
line_fields part label =
    ((((LINE_KIND, V.Text (kind_text part.kind)) ∷ []) ++ optional LINE_PRODUCT (option_map V.Ident part.product))
    ++ ((LINE_LABEL, V.Text label) ∷ (LINE_QUANTITY, V.Int (pos part.quantity)) ∷ (LINE_UNIT, V.Int part.unit) ∷ (LINE_TOTAL, V.Int part.total) ∷ []))
    ++ optional LINE_RATE (option_map (λ rate. V.Int (pos rate)) part.rate)

abbrev pub line_row : ℕ → ℕ → OrderPart → List ℕ → Row
line_row order position part label = record { key = line_key order position; fields = line_fields part label; ops = [] }

-- a row is put at its key
abbrev pub put_row : Row → Change
put_row row = (row.key, Some row)

-- the lines, from that position on, each with its label
abbrev pub lines_from : ℕ → ℕ → List OrderPart → List (List ℕ) → List Change
lines_from order position [] labels = []
lines_from order position (part ∷ parts) [] = []
lines_from order position (part ∷ parts) (label ∷ labels) = put_row (line_row order position part label) ∷ lines_from order (position + 1) parts labels

-- ---- what it bears at each tax rate

abbrev pub tax_row : ℕ → TaxSum → Row
tax_row order sum = record { key = tax_key order sum.rate; fields = (TAX_AMOUNT, V.Int sum.amount) ∷ (TAX_TAX, V.Int sum.tax) ∷ []; ops = [] }

abbrev pub tax_change : ℕ → TaxSum → Change
tax_change order sum = put_row (tax_row order sum)

-- ---- all of them: the order, its lines, and its taxes

abbrev pub order_changes : ℕ → Row → ℤ → Settled → List Change
order_changes order cart_row moment settled =
    ((put_row (order_row order cart_row moment settled.cart) ∷ [])
    ++ lines_from order 1 (parts settled.cart) settled.labels)
    ++ map (tax_change order) settled.cart.taxes
