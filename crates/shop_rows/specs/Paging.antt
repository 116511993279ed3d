-- Rows in pages, with what they are found by. No public contract cites this.
use Rattle.std.specs.Prelude.{◌≡◌, List, [], map, Option, Some, None}
use Rattle.std.specs.List.{AllByRecursion, fold}
use Rattle.std.specs.Option.{option_map}
use Rattle.std.specs.declared.sync.Arc.{Arc}
use Rattle.std.specs.Arc.{arc_value}
use Rattle.keyed.specs.Keyed.{put}
use Rattle.paged.specs.Pairs.{key_of, value_of}
use Rattle.paged.specs.Paged.{all_pairs}
use Rattle.shop_defs.specs.declared.key.Key.{Key}
use Rattle.shop_defs.specs.declared.row.Row.{Row}
use Rattle.shop_defs.specs.Keys.{key_cmp}
use Rattle.shop_defs.specs.Joined.{Change, change_key}
use Rattle.shop_rows.specs.declared.counts.Counts.{Counts}
use Rattle.shop_rows.specs.declared.topic.Mention.{Mention}
use Rattle.shop_rows.specs.Counting.{AreCounted}
use Rattle.shop_rows.specs.Mentions.{AreMentioned}

-- the rows in the pages
abbrev pub rows_in : List (List (Key × Row)) → List Row
rows_in pages = map value_of (all_pairs pages)

-- the mentions in the pages
abbrev pub mentions_in : {V : Type 0} → List (List (Mention × V)) → List Mention
mentions_in pages = map key_of (all_pairs pages)

-- the row stands under its own key
abbrev pub IsUnderItsKey : Key × Row → Type 0
IsUnderItsKey pair = pair.1.key ≡ pair.0

-- each row stands under its key, the mentions are those of the rows, and so many rows there are
pub record AreFound {V : Type 0} (rows : List (List (Key × Row))) (mentions : List (List (Mention × V))) (counts : Counts) : Type 0 where
  pub stand : AllByRecursion IsUnderItsKey (all_pairs rows)
  pub mentioned : AreMentioned (rows_in rows) (mentions_in mentions)
  pub counted : AreCounted (rows_in rows) counts.all counts.of

-- a change whose row is shared, as it is read
abbrev pub read_change : {Z : Type 0} → Key × Option (Arc Row Z) → Change
read_change change = (change.0, option_map arc_value change.1)

-- the change under the key of the row that it puts
abbrev pub own_change : Change → Change
own_change (key, None) = (key, None)
own_change (key, Some row) = (row.key, Some row)

-- the last change of each key, under the key of the row that it puts, in the order of the keys
abbrev pub settled : List Change → List Change
settled changes = fold (put key_cmp change_key) [] (map own_change changes)

-- a row as a change that puts it
abbrev pub put_in : Row → Change
put_in row = (row.key, Some row)
