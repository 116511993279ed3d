-- Rows that fail no rule, and what is kept of rows.
use Rattle.std.specs.Prelude.{ℕ, IsTrue, List, map}
use Rattle.std.specs.List.{AllByRecursion}
use Rattle.shop_defs.specs.declared.key.Key.{Key}
use Rattle.shop_defs.specs.declared.row.Row.{Row}
use Rattle.shop_defs.specs.Fitting.{has_needed}
use Rattle.shop_defs.specs.Rows.{IsInKeyOrder}
use Rattle.shop_kept.specs.Spelling.{kept_row, IsKeptRow}
use Rattle.shop_operations.specs.Soundness.{IsCoherent}
use Rattle.shop_operations.specs.Views.{live_view}
use Rattle.shop_check.specs.Kinds.{passes_kind}

-- a key, and the bytes that are kept under it
abbrev pub Entry : Type 0
Entry = Key × List ℕ

-- the bytes of each row under its key
abbrev pub kept : List Row → List Entry
kept rows = map (λ row. (row.key, kept_row row)) rows

-- a row that fails no rule of its own: it has bytes, it is of its kind, and no field that it needs is empty
pub record IsSoundRow (row : Row) : Type 0 where
  pub encoding : IsKeptRow row
  pub kind : IsTrue (passes_kind row)
  pub required : IsTrue (has_needed row)

-- rows that fail no rule: neither one of their own, nor one on how they stand to one another
pub record AreSound (rows : List Row) : Type 0 where
  pub order : IsInKeyOrder rows
  pub each : AllByRecursion IsSoundRow rows
  pub coherent : IsCoherent (live_view rows)
