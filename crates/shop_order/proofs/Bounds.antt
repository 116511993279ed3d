-- How many pieces checked rows may say.
use Rattle.std.proofs.Common.{◌≡◌, ℕ, ◌≤◌, ℤ, pos, negsuc, Option, Some, None, IfSome, List, refl, arith}
use Rattle.std.specs.Prelude.{unsigned_abs, unwrap_or}
use Rattle.std.proofs.lemmas.Int.{ints}
use Rattle.shop_defs.specs.declared.entity.Entity.{Entity}
use Rattle.shop_defs.specs.declared.entity.Entity.TheVariants as E
use Rattle.shop_defs.specs.declared.row.Row.{Row}
use Rattle.shop_defs.specs.Rows.{row_at}
use Rattle.shop_defs.specs.Tables.{fields_of}
use Rattle.row_fields.specs.Fields.{int_at}
use Rattle.row_fields.specs.Checked.{IsRowOf, HoldsNumbers, Lies}
use Rattle.row_fields.proofs.Ranges.{number_within}
use Rattle.shop_order.specs.declared.numbers.TheConstants.{STOCK_AVAILABLE, STOCK_ADJUSTED, LINE_QUANTITY}
use Rattle.shop_order.specs.Checked.{AreChecked}
use Rattle.shop_order.specs.Keys.{stock_key}
use Rattle.shop_order.specs.Stock.{size_at, size_in, available, adjusted}
use Rattle.shop_order.proofs.Found.{found_is}

stock_available : HoldsNumbers E.Stock STOCK_AVAILABLE (pos 0) (pos 2000000000000)
unfolding fields_of
stock_available = record { info = _; line = refl; bounds = (refl, refl) }

stock_adjusted : HoldsNumbers E.Stock STOCK_ADJUSTED (pos 0) (pos 2000000000000)
unfolding fields_of
stock_adjusted = record { info = _; line = refl; bounds = (refl, refl) }

line_quantity : HoldsNumbers E.OrderLine LINE_QUANTITY (pos 1) (pos 10000)
unfolding fields_of
line_quantity = record { info = _; line = refl; bounds = (refl, refl) }

size_within : (low most : ℕ) (number : Option ℤ) → IfSome number (Lies (pos low) (pos most)) → unsigned_abs (unwrap_or number (pos 0)) ≤ most
size_within low most None all = omega arith
size_within low most (Some (pos n)) all = omega (arith, ints, all.1)
size_within low most (Some (negsuc n)) all = absurd (omega (arith, ints, all.0))

size_few : (entity : Entity) (row : Row) (field low most : ℕ) → HoldsNumbers entity field (pos low) (pos most) → IsRowOf entity row → size_at row field ≤ most
size_few entity row field low most holds is = size_within low most (int_at row field) (number_within entity row field (pos low) (pos most) is holds)

pub quantity_few : (row : Row) → IsRowOf E.OrderLine row → size_at row LINE_QUANTITY ≤ 10000
quantity_few row is = size_few E.OrderLine row LINE_QUANTITY 1 10000 line_quantity is

stock_few : (rows : List Row) (product field : ℕ) → HoldsNumbers E.Stock field (pos 0) (pos 2000000000000) → AreChecked rows → size_in (row_at rows (stock_key product)) field ≤ 2000000000000
stock_few rows product field holds checked = by (row_at rows (stock_key product)) refl
  where
    by : (found : Option Row) → row_at rows (stock_key product) ≡ found → size_in found field ≤ 2000000000000
    by None e = omega arith
    by (Some row) e = size_few E.Stock row field 0 2000000000000 holds (found_is rows (stock_key product) row checked e)

pub available_few : (rows : List Row) (product : ℕ) → AreChecked rows → available rows product ≤ 2000000000000
available_few rows product checked = stock_few rows product STOCK_AVAILABLE stock_available checked

pub adjusted_few : (rows : List Row) (product : ℕ) → AreChecked rows → adjusted rows product ≤ 2000000000000
adjusted_few rows product checked = stock_few rows product STOCK_ADJUSTED stock_adjusted checked
