-- What a draft shows while a batch changes it. No public contract cites this.
use Rattle.std.specs.Prelude.{◌≡◌, ◌≢◌, ◌&&◌, ℕ, Bool, false, if◌then◌else◌, List, [], ◌∷◌, filter, Option, Some, None}
use Rattle.std.specs.List.{fold, flat_map}
use Rattle.std.specs.Option.{option_map_or, option_to_list}
use Rattle.std.specs.Ordering.{match_ordering}
use Rattle.keyed.specs.Keyed.{put}
use Rattle.shop_defs.specs.declared.key.Key.{Key}
use Rattle.shop_defs.specs.declared.row.Row.{Row}
use Rattle.shop_defs.specs.Rows.{row_at, IsInKeyOrder}
use Rattle.shop_operations.specs.References.{is_live, live, of_version}
use Rattle.shop_defs.specs.declared.table.OwnerLimit.{OwnerLimit}
use Rattle.shop_rows.specs.Owners.{belongs}
use Rattle.shop_rows.specs.Changing.{StandsUnderItsKey}
use Rattle.shop_defs.specs.Joined.{Change}
use Rattle.shop_operations.specs.Upserts.{place_cmp, row_in, with_row}
use Rattle.shop_operations.specs.Views.{View}
use Rattle.shop_drafts.specs.Drafts.{is_open, count_unshown}
use Rattle.shop_drafts.specs.declared.aggregate.Root.{Root}

-- all rows as they were found, and of those of the version how they were found and how they are
pub record Layer : Type 0 where
  pub rows : List Row
  pub version : ℕ
  pub root : Root
  pub before : List Row
  pub own : List Row

-- the live rows that show: those that the draft shadowed as it was found stay shadowed
abbrev pub open_rows : Layer → List Row
open_rows layer = filter (is_open layer.root layer.before) (live layer.rows)

-- the rows that show
unfoldable pub layer_rows : Layer → List Row
layer_rows layer = fold with_row (open_rows layer) layer.own

abbrev pub layer_view : Layer → View
layer_view layer = record { version = layer.version; rows = layer_rows layer; hidden = count_unshown layer.rows layer.version layer.root }

pub record IsLayer (layer : Layer) : Type 0 where
  pub order : IsInKeyOrder layer.rows
  pub before_is : layer.before ≡ of_version layer.version layer.rows
  pub before_order : IsInKeyOrder layer.before
  pub own_order : IsInKeyOrder layer.own
  pub own_is : of_version layer.version layer.own ≡ layer.own
  pub is_draft : layer.version ≢ 0
  -- where an own row stands no live row shows
  pub free : (key : Key) (row : Row) → row_in layer.own key ≡ Some row → row_in (open_rows layer) key ≡ None

-- a live row shows that has the key
abbrev pub is_open_at : Layer → Key → Bool
is_open_at layer key = option_map_or (is_open layer.root layer.before) (row_at layer.rows key) false

-- two lists of keys in the order of places, made one
abbrev pub joined_places : List Key → List Key → List Key
joined_places keys others = fold (put place_cmp (λ key. key)) keys others

-- of keys, those before the first whose place isn't below the given one's
abbrev pub places_below : List Key → Key → List Key
places_below [] key = []
places_below (first ∷ rest) key = match_ordering (place_cmp first key) (first ∷ places_below rest key) [] []

-- and the others, without one at the given place
abbrev pub places_above : List Key → Key → List Key
places_above [] key = []
places_above (first ∷ rest) key = match_ordering (place_cmp first key) (places_above rest key) rest (first ∷ rest)

-- the key of a version at the key's place
abbrev pub at_version_key : ℕ → Key → Key
at_version_key version key = record key { version = version }

-- what is found, if it passes the test
abbrev pub guarded : (Row → Bool) → Option Row → Option Row
guarded p None = None
guarded p (Some row) = if p row then Some row else None

-- the row is a live one that shows, and belongs to the owner
abbrev pub is_open_owned : Layer → OwnerLimit → ℕ → Row → Bool
is_open_owned layer limit owner row = is_live row && (is_open layer.root layer.before row && belongs limit owner row)

-- a change of the draft's own rows: at its version, of a row under its own key, and where no live row shows
pub record IsOwnChange (number : ℕ) (opens : List Row) (change : Change) : Type 0 where
  pub version : change.0.version ≡ number
  pub stands : StandsUnderItsKey change
  pub closed : row_in opens change.0 ≡ None

-- the rows at the keys, where there are any
abbrev pub rows_at : List Row → List Key → List Row
rows_at rows keys = flat_map (λ key. option_to_list (row_at rows key)) keys

-- what a draft shows as it is found
abbrev pub found_layer : List Row → ℕ → Root → Layer
found_layer rows version root = record { rows = rows; version = version; root = root; before = of_version version rows; own = of_version version rows }
