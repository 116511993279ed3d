-- Rows after deltas that come one after the other.
use Rattle.std.specs.Prelude.{List, [], map}
use Rattle.std.specs.List.{fold, AllByRecursion}
use Rattle.std.specs.Arc.{arc_value}
use Rattle.std.specs.declared.sync.Arc.{Arc}
use Rattle.shop_defs.specs.declared.delta.Delta.{Delta}
use Rattle.shop_defs.specs.declared.row.Row.{Row}
use Rattle.shop_defs.specs.Joined.{Change, add_changes}
use Rattle.shop_defs.specs.Rows.{change_rows}
use Rattle.shop_rows.specs.Changing.{StandUnderTheirKeys}

-- the rows after changes that come one list after the other
abbrev pub rows_after : List Row → List (List Change) → List Row
rows_after rows changes = fold change_rows rows changes

-- each change that puts a row names the row's own key
abbrev pub EachFits : List (List Change) → Type 0
EachFits changes = AllByRecursion StandUnderTheirKeys changes

module _ {Z : Type 0} where
  -- the changes of a shared delta
  abbrev pub changes_of : Arc Delta Z → List Change
  changes_of shared = let delta : Delta = arc_value shared in delta.changes

  -- the changes of each of them
  abbrev pub changes_in : List (Arc Delta Z) → List (List Change)
  changes_in deltas = map changes_of deltas

  -- the changes of all deltas, each put at its key in turn
  abbrev pub joined_all : List (Arc Delta Z) → List Change
  joined_all deltas = fold (λ all delta. add_changes all (changes_of delta)) [] deltas
