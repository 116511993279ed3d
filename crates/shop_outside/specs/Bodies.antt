-- The bodies that a keeper in memory holds, in a list or in pages.
use Rattle.std.specs.Prelude.{◌≡◌, ℕ, true, false, List, [], Option, Some}
use Rattle.std.specs.List.{fold}
use Rattle.std.specs.Option.{option_map}
use Rattle.std.specs.declared.sync.Arc.{Arc}
use Rattle.std.specs.Arc.{arc_value}
use Rattle.paged.specs.Paged.{all_pairs}
use Rattle.shop_defs.specs.declared.key.Key.{Key}
use Rattle.shop_outside.specs.declared.holding.Holding.{Holding}
use Rattle.shop_outside.specs.declared.holding.Holding.TheVariants as H
use Rattle.shop_outside.specs.Keeping.{Bodies, body_change}
use Rattle.shop_outside.specs.Scanning.{keys_ascend}

-- the bodies that are held
abbrev pub bodies_of : Holding → Bodies
bodies_of (H.Listed rows) = rows.items
bodies_of (H.InPages pages) = all_pairs pages

-- those of them that are in pages
abbrev pub bodies_in_pages : Holding → Bodies
bodies_in_pages (H.Listed rows) = []
bodies_in_pages (H.InPages pages) = all_pairs pages

-- those stand in the order of their keys
abbrev pub IsInOrder : Holding → Type 0
IsInOrder holding = keys_ascend (bodies_in_pages holding) ≡ true

-- and in a list are just those whose keys don't ascend
abbrev pub IsSettled : Holding → Type 0
IsSettled (H.Listed rows) = keys_ascend rows.items ≡ false
IsSettled (H.InPages pages) = keys_ascend (all_pairs pages) ≡ true

-- the bodies with these put one after the other
abbrev pub all_put : Bodies → Bodies → Bodies
all_put held rows = fold (λ before row. body_change before row.0 (Some row.1)) held rows

-- a change whose body is shared, as it is read
abbrev pub read_body : {Z : Type 0} → Key × Option (Arc (List ℕ) Z) → Key × Option (List ℕ)
read_body change = (change.0, option_map arc_value change.1)
