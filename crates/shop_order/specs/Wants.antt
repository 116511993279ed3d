-- The pieces of products that the lines of an order hold, and how they are taken and given back.
use Rattle.std.specs.Prelude.{◌≡◌, ℕ, ◌+◌, ◌≤◌, pos, Bool, true, false, not, ◌&&◌, ◌==◌, nat_lt, List, [], ◌∷◌, map, filter, find, length, codes, Option, Some, None, if◌then◌else◌}
use Rattle.std.specs.List.{filter_map, AllByRecursion}
use Rattle.std.specs.Option.{option_map}
use Rattle.shop_defs.specs.declared.broken.Broken.{Broken}
use Rattle.shop_defs.specs.declared.broken.Broken.TheVariants as B
use Rattle.shop_defs.specs.declared.entity.Entity.TheVariants as E
use Rattle.shop_defs.specs.declared.key.Key.{Key}
use Rattle.shop_defs.specs.declared.row.Row.{Row}
use Rattle.shop_defs.specs.Joined.{Change}
use Rattle.shop_operations.specs.References.{is_entity}
use Rattle.row_fields.specs.Fields.{id_at, is_text_at}
use Rattle.shop_order.specs.declared.numbers.TheConstants.{LINE_KIND, LINE_PRODUCT, LINE_QUANTITY}
use Rattle.shop_order.specs.declared.stock.Move.{Move}
use Rattle.shop_order.specs.declared.stock.Move.TheVariants as M
use Rattle.shop_order.specs.declared.wants.Want.{Want}
use Rattle.shop_order.specs.Keys.{stock_key}
use Rattle.shop_order.specs.Stock.{available, adjusted, moved, size_at, stock_row}

-- ---- which pieces they are

-- the key is one of a line of the order
abbrev pub is_line_key : ℕ → Key → Bool
is_line_key order key = is_entity E.OrderLine key.entity && ((key.version == 0) && (key.id == order))

abbrev pub is_line_of : ℕ → Row → Bool
is_line_of order row = is_line_key order row.key

-- the lines of an order, by their positions
abbrev pub lines_of : List Row → ℕ → List Row
lines_of rows order = filter (is_line_of order) rows

-- the pieces of a product that a line holds, if it is one of a product
abbrev pub want_of : Row → Option Want
want_of row = if is_text_at row LINE_KIND (codes "product") then option_map (λ product. record { product = product; quantity = size_at row LINE_QUANTITY }) (id_at row LINE_PRODUCT) else None

-- what the lines of an order hold, line by line
abbrev pub wants_of : List Row → ℕ → List Want
wants_of rows order = filter_map want_of (lines_of rows order)

-- ---- how many they are

abbrev pub pieces : Want → ℕ → ℕ
pieces want product = if want.product == product then want.quantity else 0

-- how many pieces of a product are wanted, over all lines
abbrev pub wanted : List Want → ℕ → ℕ
wanted [] product = 0
wanted (want ∷ wants) product = pieces want product + wanted wants product

-- the lines are few, and so are the pieces of each
pub record AreFew (wants : List Want) : Type 0 where
  pub lines : length wants ≤ 201
  pub each : AllByRecursion (λ want. want.quantity ≤ 10000) wants

-- ---- how they are taken and given back

-- less is available of the line's product than all lines want
abbrev pub is_short : List Row → List Want → Want → Bool
is_short rows wants want = nat_lt (available rows want.product) (wanted wants want.product)

abbrev pub short_of : List Row → List Want → Want → Broken
short_of rows wants want = B.StockShort want.product (pos (available rows want.product)) (pos (wanted wants want.product))

-- the first line for whose product too little is available
abbrev pub falls_short : List Row → List Want → Option Broken
falls_short rows wants = option_map (short_of rows wants) (find (is_short rows wants) wants)

-- pieces are taken only where there are enough
abbrev pub short_for : Move → List Row → List Want → Option Broken
short_for M.Give rows wants = None
short_for M.Take rows wants = falls_short rows wants

-- the stock of a line's product, with what all lines want of it given back or taken
abbrev pub stock_moved : List Row → Move → List Want → Want → Change
stock_moved rows way wants want =
    (stock_key want.product, Some (stock_row want.product (moved way (available rows want.product) (wanted wants want.product)) (adjusted rows want.product)))

-- and so of the products of all lines
abbrev pub stocks_moved : List Row → Move → List Want → List Change
stocks_moved rows way wants = map (stock_moved rows way wants) wants
