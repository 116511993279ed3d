-- One round of a cart, step by step.
use Rattle.std.specs.Prelude.{ℕ, ◌+◌, ◌*◌, ℤ, pos, List, [], ◌∷◌, ◌++◌, map, sum_by, unsigned_abs, Option, Some, None, if◌then◌else◌, unwrap_or, codes}
use Rattle.std.specs.List.{flat_map}
use Rattle.shop_defs.specs.declared.entity.Entity.TheVariants as E
use Rattle.shop_defs.specs.declared.row.Row.{Row}
use Rattle.shop_defs.specs.declared.words.FieldName.TheVariants as N
use Rattle.row_fields.specs.Fields.{number_of, int_at, id_at}
use Rattle.cart_price.specs.declared.priced.Block.{Block}
use Rattle.cart_price.specs.declared.priced.Delivery.{Delivery}
use Rattle.cart_price.specs.declared.priced.Discount.{Discount}
use Rattle.cart_price.specs.declared.priced.PricedCart.{PricedCart}
use Rattle.cart_price.specs.declared.priced.PricedLine.{PricedLine}
use Rattle.cart_price.specs.declared.priced.TaxState.{TaxState}
use Rattle.cart_price.specs.declared.priced.TaxState.TheVariants as S
use Rattle.cart_price.specs.declared.priced.TaxSum.{TaxSum}
use Rattle.cart_price.specs.Lent.{CartRows, LineRows}
use Rattle.cart_price.specs.Nearest.{rounded}
use Rattle.cart_sums.specs.Discounts.{take_all}
use Rattle.cart_sums.specs.Positions.{Positions, goods_less, taken_at, tax_sums}
use Rattle.cart_process.specs.declared.deliveries.Measures.{Measures}
use Rattle.cart_process.specs.declared.deliveries.Shipped.{Shipped}
use Rattle.cart_process.specs.declared.goods.Goods.{Goods}
use Rattle.cart_process.specs.declared.sending.Sending.{Sending}
use Rattle.cart_process.specs.declared.line_price.Cause.{Cause}
use Rattle.cart_process.specs.declared.line_price.LinePrice.{LinePrice}
use Rattle.cart_process.specs.Causes.{cause_text}
use Rattle.cart_process.specs.Deliveries.{cause_of, shipped_of, shipping_price}
use Rattle.cart_process.specs.LinePrices.{has_price, line_price, quantity_of}
use Rattle.cart_process.specs.Offers.{offers}
use Rattle.cart_process.specs.Words.{mode_of, state_of}

-- ---- the lines, and what promotions take off them

abbrev pub line_total : LinePrice → ℕ
line_total price = price.unit * price.pieces

abbrev pub line_prices : TaxState → List ℕ → List LineRows → List LinePrice
line_prices state rules lines = map (line_price state rules) lines

-- how many pieces there are, what they cost and what they weigh
abbrev pub measures_of : List LinePrice → Measures
measures_of prices = record { count = sum_by (λ price. price.pieces) prices; goods = sum_by line_total prices; weight = sum_by (λ price. price.weight) prices }

abbrev pub with_price : Measures → LinePrice → Measures
with_price measures price = record { count = measures.count + price.pieces; goods = measures.goods + line_total price; weight = measures.weight + price.weight }

abbrev pub goods_of : TaxState → ℤ → List ℕ → CartRows → Goods
goods_of state moment rules rows =
    let prices = line_prices state rules rows.lines in
    record {
      prices = prices;
      measures = measures_of prices;
      taken = take_all (measures_of prices).goods (offers moment rows.codes rules (codes "cart") rows.promotions);
    }

-- ---- the delivery, and what promotions take off it

abbrev pub cost_of : Option Shipped → ℕ
cost_of None = 0
cost_of (Some shipped) = shipped.cost

abbrev pub sending_of : TaxState → ℤ → List ℕ → CartRows → Measures → Sending
sending_of state moment rules rows measures =
    let price = shipping_price rules measures rows.shipping in
    let cause = cause_of rules measures rows.method price in
    let shipped = shipped_of state rows.method_tax measures cause price in
    record {
      cause = cause;
      shipped = shipped;
      taken = take_all (cost_of shipped) (offers moment rows.codes rules (codes "delivery") rows.promotions);
    }

-- ---- the taxes

-- a line with a price is a position
abbrev pub line_position : LinePrice → Positions
line_position price = if has_price price.cause then (price.rate, pos (line_total price)) ∷ [] else []

abbrev pub line_positions : List LinePrice → Positions
line_positions prices = flat_map line_position prices

-- so is a delivery, and each discount on it
abbrev pub sent_positions : Option Shipped → List Discount → Positions
sent_positions None discounts = []
sent_positions (Some shipped) discounts = (shipped.rate, pos shipped.cost) ∷ taken_at shipped.rate discounts

abbrev pub positions_of : Goods → Sending → Positions
positions_of goods sending = goods_less (line_positions goods.prices) goods.taken.discounts ++ sent_positions sending.shipped sending.taken.discounts

-- ---- the cart

abbrev pub blocked_by : ℕ → Option Cause → List Block
blocked_by id None = []
blocked_by id (Some cause) = record { cause = cause_text cause; line = id } ∷ []

abbrev pub line_blocks : TaxState → List ℕ → LineRows → List Block
line_blocks state rules rows = blocked_by rows.line.key.id (line_price state rules rows).cause

abbrev pub priced_by : LineRows → LinePrice → PricedLine
priced_by rows price = record {
  id = rows.line.key.id;
  product = unwrap_or (id_at rows.line (number_of E.CartLine N.Product)) 0;
  quantity = quantity_of rows.line;
  rate = price.rate;
  total = pos (line_total price);
  unit = pos price.unit;
}

-- the lines beside their prices, and what keeps them from being ordered
abbrev pub lines_by : List LineRows → List LinePrice → List PricedLine
lines_by [] prices = []
lines_by (rows ∷ lines) [] = []
lines_by (rows ∷ lines) (price ∷ prices) = priced_by rows price ∷ lines_by lines prices

abbrev pub blocks_by : List LineRows → List LinePrice → List Block
blocks_by [] prices = []
blocks_by (rows ∷ lines) [] = []
blocks_by (rows ∷ lines) (price ∷ prices) = blocked_by rows.line.key.id price.cause ++ blocks_by lines prices

abbrev pub priced_line : TaxState → List ℕ → LineRows → PricedLine
priced_line state rules rows = priced_by rows (line_price state rules rows)

abbrev pub delivery_in : Option Row → Option Shipped → Option Delivery
delivery_in (Some method) (Some shipped) = Some (record { cost = pos shipped.cost; method = method.key.id; rate = shipped.rate })
delivery_in method shipped = None

abbrev pub tax_total : List TaxSum → ℕ
tax_total taxes = sum_by (λ sum. unsigned_abs sum.tax) taxes

abbrev pub amount_total : List TaxSum → ℕ
amount_total taxes = sum_by (λ sum. unsigned_abs sum.amount) taxes

-- what is to be paid before it is rounded: what is left of the goods and of the delivery, and in the net state the taxes
abbrev pub raw_of : TaxState → ℕ → ℕ → ℕ → ℕ
raw_of S.Net goods delivery taxes = goods + delivery + taxes
raw_of state goods delivery taxes = goods + delivery

abbrev pub interval_of : Row → ℤ
interval_of cart = unwrap_or (int_at cart (number_of E.Cart N.Interval)) (pos 1)

-- the cart, from its parts
abbrev pub cart_of : CartRows → TaxState → List PricedLine → List Block → Goods → Sending → List TaxSum → PricedCart
cart_of rows state lines blocks goods sending taxes =
    let raw = raw_of state goods.taken.left sending.taken.left (tax_total taxes) in
    record {
      count = pos goods.measures.count;
      delivery = delivery_in rows.method sending.shipped;
      delivery_discounts = sending.taken.discounts;
      discounts = goods.taken.discounts;
      goods = pos goods.measures.goods;
      lines = lines;
      raw = pos raw;
      tax = pos (tax_total taxes);
      taxes = taxes;
      total = rounded (pos raw) (interval_of rows.cart);
      weight = pos goods.measures.weight;
      blocks = blocks;
    }

-- a round's cart: lines, promotions on them, delivery, promotions on it, taxes, total
unfoldable pub priced : CartRows → ℤ → List ℕ → PricedCart
priced rows moment rules =
    let state = state_of rows.cart in
    let goods = goods_of state moment rules rows in
    let sending = sending_of state moment rules rows goods.measures in
    cart_of rows state
    (map (priced_line state rules) rows.lines)
    (flat_map (line_blocks state rules) rows.lines ++ blocked_by rows.cart.key.id sending.cause)
    goods sending
    (tax_sums state (mode_of rows.cart) (positions_of goods sending))
