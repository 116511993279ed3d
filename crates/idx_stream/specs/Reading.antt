-- How the filters of a stream are read. No public contract cites this.
use Rattle.std.specs.Prelude.{List}
use Rattle.std.specs.List.{filter_map}
use Rattle.shop_defs.specs.declared.key.Key.{Key}
use Rattle.shop_defs.specs.declared.row.Row.{Row}
use Rattle.shop_defs.specs.Rows.{row_at}

-- the rows at the keys
abbrev pub rows_at : List Row → List Key → List Row
rows_at rows keys = filter_map (row_at rows) keys
