-- What contracts see of a copy, and what always holds of it.
use Rattle.std.specs.Prelude.{ℕ, List}
use Rattle.shop_defs.specs.declared.row.Row.{Row}
use Rattle.shop_check.specs.Soundness.{AreSound}
use Rattle.idx_copy.specs.declared.tables.Tables.{Tables}
use Rattle.idx_copy.specs.Answers.{AreTablesOf}

-- what is seen of a copy: its front, its rows and its tables
pub record CopyView : Type 0 where
  pub front : ℕ
  pub rows : List Row
  pub tables : Tables

-- what holds of every copy
pub record IsCopy (view : CopyView) : Type 0 where
  pub sound : AreSound view.rows  -- its rows keep all rules
  pub tables : AreTablesOf view.rows view.tables  -- and its tables are theirs
