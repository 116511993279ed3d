-- What is relied on of the rows of a shop: rows that were checked are so.
use Rattle.std.specs.Prelude.{◌≡◌, ℕ, ◌≤◌, true, List, length}
use Rattle.std.specs.List.{AllByRecursion, list_all}
use Rattle.shop_defs.specs.declared.row.Row.{Row}
use Rattle.shop_defs.specs.Fitting.{row_key_fits}
use Rattle.row_fields.specs.Checked.{IsRowOf}
use Rattle.shop_order.specs.Wants.{lines_of}

-- each row is as its entity has it
abbrev pub AreChecked : List Row → Type 0
AreChecked rows = AllByRecursion (λ row. IsRowOf row.key.entity row) rows

-- so each row is, each key is of its entity's form, and no order has more lines than it may
pub record AreOrderly (rows : List Row) : Type 0 where
  pub each : AreChecked rows
  pub formed : list_all (λ row. row_key_fits row.key) rows ≡ true
  pub few : (order : ℕ) → length (lines_of rows order) ≤ 201
