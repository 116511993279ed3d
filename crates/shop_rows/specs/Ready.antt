-- Rows that are made ready aside. No public contract cites this.
use Rattle.std.specs.Prelude.{◌≡◌, List, map, Option, Some, None}
use Rattle.shop_defs.specs.declared.row.Row.{Row}
use Rattle.shop_defs.specs.Rows.{change_rows}
use Rattle.shop_rows.specs.declared.rows.Aside.{Aside}
use Rattle.shop_rows.specs.Paging.{rows_in, read_change, AreFound}

-- what is made aside, if it is, are the rows after the changes beside it
abbrev pub AreReady : List Row → Option Aside → Type 0
AreReady rows None = Unit {0}
AreReady rows (Some aside) = AreFound aside.next.rows aside.next.mentions aside.next.counts × (rows_in aside.next.rows ≡ change_rows rows (map read_change aside.changes.items))
