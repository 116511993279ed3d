-- The stock of products: how many pieces are available, and how many were ever adjusted.
use Rattle.std.specs.Prelude.{◌≡◌, ℕ, ◌+◌, ◌-◌, ℤ, pos, unsigned_abs, List, [], ◌∷◌, Option, Some, None, unwrap_or}
use Rattle.shop_defs.specs.declared.row.Row.{Row}
use Rattle.shop_defs.specs.declared.value.Value.TheVariants as V
use Rattle.shop_defs.specs.Rows.{row_at}
use Rattle.row_fields.specs.Fields.{int_at}
use Rattle.shop_order.specs.declared.stock.Move.{Move}
use Rattle.shop_order.specs.declared.stock.Move.TheVariants as M
use Rattle.shop_order.specs.declared.numbers.TheConstants.{STOCK_AVAILABLE, STOCK_ADJUSTED}
use Rattle.shop_order.specs.Keys.{stock_key}

-- the number that the row's field holds, without its sign: 0 where it holds none
abbrev pub size_at : Row → ℕ → ℕ
size_at row field = unsigned_abs (unwrap_or (int_at row field) (pos 0))

-- the same of a row, if there is one
abbrev pub size_in : Option Row → ℕ → ℕ
size_in None field = 0
size_in (Some row) field = size_at row field

-- how many pieces of a product are available: none where it has no stock
abbrev pub available : List Row → ℕ → ℕ
available rows product = size_in (row_at rows (stock_key product)) STOCK_AVAILABLE

-- how many were ever adjusted
abbrev pub adjusted : List Row → ℕ → ℕ
adjusted rows product = size_in (row_at rows (stock_key product)) STOCK_ADJUSTED

-- so many pieces more, or so many fewer
abbrev pub moved : Move → ℕ → ℕ → ℕ
moved M.Give have pieces = have + pieces
moved M.Take have pieces = have - pieces

-- an amount below 0 takes pieces, any other gives some
abbrev pub way_of : ℤ → Move
way_of (pos more) = M.Give
way_of amount = M.Take

-- the row of a product's stock
abbrev pub stock_row : ℕ → ℕ → ℕ → Row
stock_row product available adjusted = record {
  key = stock_key product;
  fields = (STOCK_AVAILABLE, V.Int (pos available)) ∷ (STOCK_ADJUSTED, V.Int (pos adjusted)) ∷ [];
  ops = [];
}
