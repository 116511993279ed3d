-- How the lines of an order are found. No public contract cites this.
use Rattle.std.specs.Prelude.{ℕ, ◌&&◌, List, filter, Option, Some, None, option_and_then, if◌then◌else◌}
use Rattle.std.specs.Ordering.{is_lt}
use Rattle.shop_defs.specs.declared.key.Key.{Key}
use Rattle.shop_defs.specs.declared.row.Row.{Row}
use Rattle.shop_defs.specs.Keys.{key_cmp}
use Rattle.shop_rows.specs.Lookups.{first_above}
use Rattle.shop_order.specs.Wants.{is_line_of}

-- the row, if it is a line of the order
abbrev pub if_line : ℕ → Row → Option Row
if_line order row = if is_line_of order row then Some row else None

-- the row after the key, if it is a line of the order
abbrev pub next_line : List Row → ℕ → Key → Option Row
next_line rows order key = option_and_then (if_line order) (first_above rows key)

-- the lines of the order behind a key
abbrev pub lines_behind : List Row → ℕ → Key → List Row
lines_behind rows order key = filter (λ row. is_line_of order row && is_lt (key_cmp key row.key)) rows
