-- What is relied on of the rows of a shop where a cart is settled: rows that were checked are so.
use Rattle.std.specs.Prelude.{ℕ, ◌≤◌, List, length}
use Rattle.std.specs.List.{AllByRecursion}
use Rattle.shop_defs.specs.declared.entity.Entity.TheVariants as E
use Rattle.shop_defs.specs.declared.row.Row.{Row}
use Rattle.shop_defs.specs.declared.words.FieldName.TheVariants as N
use Rattle.row_fields.specs.Checked.{IsRowOf}
use Rattle.cart_collect.specs.Finding.{naming}

-- each row is as its entity has it, and no cart has more than 100 lines
pub record AreCartRows (rows : List Row) : Type 0 where
  pub each : AllByRecursion (λ row. IsRowOf row.key.entity row) rows
  pub few : (cart : ℕ) → length (naming rows E.CartLine N.Cart cart) ≤ 100
