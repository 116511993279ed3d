-- Rows below rows: the parents of a row, and how deep it stands.
use Rattle.std.specs.Prelude.{ℕ, zero, suc, Bool, ◌&&◌, nat_le, List, [], ◌∷◌, find, map, filter, length, Option, Some, None}
use Rattle.std.specs.List.{list_any}
use Rattle.std.specs.Option.{option_and_then}
use Rattle.closure.specs.Closure.{reached}
use Rattle.shop_defs.specs.declared.entity.Entity.{Entity}
use Rattle.shop_defs.specs.declared.row.Row.{Row}
use Rattle.shop_defs.specs.declared.table.LevelLimit.{LevelLimit}
use Rattle.shop_defs.specs.declared.table.Reference.{Reference}
use Rattle.shop_operations.specs.References.{is_entity, is_id, named, is_one}

-- rows of an entity have parents where they refer to rows of their own entity
abbrev pub is_parental : Entity → Reference → Bool
is_parental entity reference = is_entity reference.entity entity && is_entity reference.of entity

-- the id of the row's parent
unfoldable pub parent_id : List Reference → Row → Option ℕ
parent_id table row = option_and_then (λ reference. named reference row) (find (is_parental row.key.entity) table)

-- the row's parent
abbrev pub parent_row : List Reference → List Row → Row → Option Row
parent_row table rows row = option_and_then (λ id. find (is_one row.key.entity id) rows) (parent_id table row)

-- the rows on the way up from a row, itself the first, and at most so many
abbrev pub walk : List Reference → List Row → ℕ → Option Row → List Row
walk table rows zero at = []
walk table rows (suc n) None = []
walk table rows (suc n) (Some row) = row ∷ walk table rows n (parent_row table rows row)

-- the other is the row's parent
unfoldable pub is_child : List Reference → Row → Row → Bool
is_child table row other = is_entity row.key.entity other.key.entity && is_id (parent_id table row) other.key.id

-- the ids of the rows of the entity whose parent has that id
abbrev pub children : List Reference → List Row → Entity → ℕ → List ℕ
children table rows entity parent = map (λ row. row.key.id) (filter (λ row. is_entity entity row.key.entity && is_id (parent_id table row) parent) rows)

-- the row is below the other: a child of it, or of one that is below it
abbrev pub is_below : List Reference → List Row → Row → Row → Bool
is_below table rows other row = reached (is_child table) rows (λ child. is_child table child other) row

-- the row stands lower than that level: it has so many ancestors or more, or the way up doesn't end
abbrev pub is_past : List Reference → List Row → ℕ → Row → Bool
is_past table rows level row = nat_le level (length (walk table rows level (parent_row table rows row)))

-- the row stands lower than the rows of its entity may
unfoldable pub is_deep : List Reference → List LevelLimit → List Row → Row → Bool
is_deep table limits rows row = list_any (λ limit. is_entity limit.entity row.key.entity && is_past table rows limit.most row) limits
