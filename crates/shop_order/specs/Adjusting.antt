-- The stock of a product is adjusted.
use Rattle.std.specs.Prelude.{◌≡◌, ℕ, ℤ, pos, unsigned_abs, Bool, true, false, ◌&&◌, nat_lt, nat_le, List, [], ◌∷◌, codes, Option, Some, None, is_none, if◌then◌else◌, Result}
use Rattle.shop_defs.specs.declared.broken.Broken.{Broken}
use Rattle.shop_defs.specs.declared.broken.Broken.TheVariants as B
use Rattle.shop_defs.specs.declared.entity.Entity.TheVariants as E
use Rattle.shop_defs.specs.declared.row.Row.{Row}
use Rattle.shop_defs.specs.declared.table.TheConstants.{MOST_ROWS}
use Rattle.shop_defs.specs.Joined.{Change}
use Rattle.shop_defs.specs.Rows.{row_at, change_rows}
use Rattle.shop_operations.specs.Operations.{unless}
use Rattle.shop_rows.specs.Lookups.{count_rows}
use Rattle.shop_order.specs.declared.adjusting.TheConstants.{MOST_ADJUSTED, MOST_AVAILABLE}
use Rattle.shop_order.specs.declared.stock.Move.{Move}
use Rattle.shop_order.specs.declared.stock.Move.TheVariants as M
use Rattle.shop_order.specs.Keys.{product_key, stock_key}
use Rattle.shop_order.specs.Stock.{available, adjusted, moved, way_of, stock_row}

-- how many pieces are available after an adjustment, and how many were ever adjusted
abbrev pub available_after : List Row → ℕ → ℤ → ℕ
available_after rows product amount = moved (way_of amount) (available rows product) (unsigned_abs amount)

abbrev pub adjusted_after : List Row → ℕ → ℤ → ℕ
adjusted_after rows product amount = moved (way_of amount) (adjusted rows product) (unsigned_abs amount)

-- it changes the product's stock, which is made where there is none
abbrev pub adjusting_changes : List Row → ℕ → ℤ → List Change
adjusting_changes rows product amount = (stock_key product, Some (stock_row product (available_after rows product amount) (adjusted_after rows product amount))) ∷ []

abbrev pub is_more : ℤ → Bool
is_more (pos more) = nat_lt 0 more
is_more amount = false

abbrev pub is_less : ℤ → Bool
is_less (pos more) = false
is_less amount = true

-- the product has no stock, and there may be no row of stock more
abbrev pub is_full : List Row → ℕ → Bool
is_full rows product = is_none (row_at rows (stock_key product)) && nat_le MOST_ROWS (count_rows rows E.Stock)

-- the first rule that an adjustment breaks: on the amount; on what may be available after more pieces; the product is there;
-- there may be one row of stock more; as many pieces are available as are taken
unfoldable pub adjusting_breaks : List Row → ℕ → ℤ → Option Broken
adjusting_breaks rows product amount =
    if nat_lt MOST_ADJUSTED (unsigned_abs amount) then Some (B.OutOfRange (codes "amount") amount) else
    if is_more amount && nat_lt MOST_AVAILABLE (available_after rows product amount) then Some (B.OutOfRange (codes "available") (pos (available_after rows product amount))) else
    if is_none (row_at rows (product_key product)) then Some (B.NoSuchRow (product_key product)) else
    if is_full rows product then Some (B.TooMany E.Stock MOST_ROWS) else
    if is_less amount && nat_lt (available rows product) (unsigned_abs amount) then Some (B.StockShort product (pos (available rows product)) (pos (unsigned_abs amount))) else None

-- the rows once the stock of a product is adjusted by an amount, or the first rule that is broken
unfoldable pub adjust : List Row → ℕ → ℤ → Result (List Row) Broken
adjust rows product amount = unless (change_rows rows (adjusting_changes rows product amount)) (adjusting_breaks rows product amount)
