-- How the conditions of a rule are read. No public contract cites this.
use Rattle.std.specs.Prelude.{ℕ, List}
use Rattle.std.specs.List.{filter_map}
use Rattle.shop_defs.specs.declared.entity.Entity.TheVariants as E
use Rattle.shop_defs.specs.declared.key.Key.{Key}
use Rattle.shop_defs.specs.declared.row.Row.{Row}
use Rattle.shop_defs.specs.Rows.{row_at}

abbrev pub rule_key : ℕ → Key
rule_key id = record { entity = E.Rule; version = 0; id = id; second = 0 }

-- the rows at the keys
abbrev pub rows_at : List Row → List Key → List Row
rows_at rows keys = filter_map (row_at rows) keys
