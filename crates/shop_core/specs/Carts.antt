-- How a cart is read, and what is relied on of the rows for it.
use Rattle.std.specs.Prelude.{◌≡◌, ℕ, ℤ, List, Some, Result, Ok, Err}
use Rattle.std.specs.List.{AllByRecursion}
use Rattle.std.specs.Str.Lossy.{utf8_lossy}
use Rattle.shop_defs.specs.declared.row.Row.{Row}
use Rattle.cart_price.specs.Lent.{CartRows, LineRows}
use Rattle.cart_price.specs.declared.priced.Settled.{Settled}
use Rattle.cart_collect.specs.Collected.{collected}
use Rattle.cart_loop.specs.declared.fault.CartRefused.{CartRefused}
use Rattle.cart_loop.specs.Answer.{settling, IsBroken}
use Rattle.cart_loop.specs.Checked.{AreCartRows}
use Rattle.shop_check.specs.Soundness.{AreSound}
use Rattle.shop_core.specs.Shops.{ShopView}

-- A cart is read as what it is settled at by the present rows, beside how many entries are accepted, or not because of the rule that
-- is broken, unless memory runs out.
abbrev pub ReadsCart : ShopView → ℕ → ℤ → Result (ℕ × Settled) CartRefused → Type 0
ReadsCart shop cart moment (Ok answer) = (answer.0 ≡ shop.number) × (settling shop.rows cart moment ≡ Ok answer.1)
ReadsCart shop cart moment (Err fault) = IsBroken cart fault (settling shop.rows cart moment)

-- sound rows are all that is relied on where a cart is settled
abbrev pub SoundRowsAreCartRows : Type 0
SoundRowsAreCartRows = (rows : List Row) → AreSound rows → AreCartRows rows

-- the name of a line's product is UTF-8, so the line is called by it byte by byte
abbrev pub IsNamedAsItIs : LineRows → Type 0
IsNamedAsItIs line = (name : List ℕ) → line.name ≡ Some name → utf8_lossy name ≡ name

-- of sound rows each line of a cart is called so
abbrev pub SoundNamesAreTexts : Type 0
SoundNamesAreTexts = (rows : List Row) (cart : ℕ) (lent : CartRows) → AreSound rows → collected rows cart ≡ Some lent → AllByRecursion IsNamedAsItIs lent.lines
