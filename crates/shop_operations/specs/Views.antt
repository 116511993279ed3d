-- The rows that an operation sees.
use Rattle.std.specs.Prelude.{ℕ, List, not, filter, count_by, ◌&&◌, Some, None}
use Rattle.std.specs.List.{fold}
use Rattle.keyed.specs.Keyed.{Ascends, put, without}
use Rattle.shop_defs.specs.declared.entity.Entity.{Entity}
use Rattle.shop_defs.specs.declared.row.Row.{Row}
use Rattle.shop_defs.specs.Joined.{Change}
use Rattle.shop_defs.specs.Rows.{row_key}
use Rattle.shop_operations.specs.References.{is_entity, is_live, live}
use Rattle.shop_operations.specs.Upserts.{place_cmp}

-- the rows that a version shows, in the order of their places, and of each entity how many rows of all versions it
-- doesn't show
pub record View : Type 0 where
  pub version : ℕ
  pub rows : List Row
  pub hidden : Entity → ℕ

-- each place stands once, in the order of places
abbrev pub IsInPlaceOrder : List Row → Type 0
IsInPlaceOrder rows = Ascends place_cmp row_key rows

-- the rows of the entity that aren't live
abbrev pub count_hidden : List Row → Entity → ℕ
count_hidden rows entity = count_by (λ row. is_entity entity row.key.entity && not (is_live row)) rows

-- the live rows, as an operation sees them
abbrev pub live_view : List Row → View
live_view rows = record { version = 0; rows = live rows; hidden = count_hidden rows }

-- the rows of drafts
abbrev pub drafted : List Row → List Row
drafted rows = filter (λ row. not (is_live row)) rows

-- one change of a view's rows, by place
abbrev pub change_place : List Row → Change → List Row
change_place rows (key, None) = without place_cmp row_key rows key
change_place rows (key, Some row) = put place_cmp row_key rows row

-- a list of changes of a view's rows
abbrev pub change_places : List Row → List Change → List Row
change_places rows changes = fold change_place rows changes
