-- What is looked up in rows, beside the row at a key.
use Rattle.std.specs.Prelude.{◌≡◌, ℕ, ◌&&◌, List, length, map, filter, find, Option, count_by}
use Rattle.std.specs.Ordering.{is_lt}
use Rattle.paged.specs.declared.shape.Shape.{Shape}
use Rattle.paged.specs.Pairs.{value_of}
use Rattle.paged.specs.Paged.{all_pairs, IsPaged}
use Rattle.paged.specs.Sizes.{Tells}
use Rattle.shop_defs.specs.declared.entity.Entity.{Entity}
use Rattle.shop_defs.specs.declared.key.Key.{Key}
use Rattle.shop_defs.specs.declared.row.Row.{Row}
use Rattle.shop_defs.specs.declared.table.TheConstants.{REFERENCES}
use Rattle.shop_defs.specs.Keys.{key_cmp}
use Rattle.shop_operations.specs.Parents.{parent_id}
use Rattle.shop_operations.specs.References.{is_entity, is_id, of_version, refers_at}
use Rattle.shop_operations.specs.Upserts.{is_twin}

-- the keys of the rows of the entity whose parent has that id
abbrev pub child_keys : List Row → Entity → ℕ → List Key
child_keys rows entity parent = map (λ row. row.key) (filter (λ row. is_entity entity row.key.entity && is_id (parent_id REFERENCES row) parent) rows)

-- the first row with a greater key
abbrev pub first_above : List Row → Key → Option Row
first_above rows key = find (λ row. is_lt (key_cmp key row.key)) rows

-- how many rows of the entity there are, in all versions
abbrev pub count_rows : List Row → Entity → ℕ
count_rows rows entity = count_by (λ row. is_entity entity row.key.entity) rows

-- the keys of the rows of the entity
abbrev pub keys_of : List Row → Entity → List Key
keys_of rows entity = map (λ row. row.key) (filter (λ row. is_entity entity row.key.entity) rows)

-- how many rows of the entity have a parent with that id
abbrev pub count_children : List Row → Entity → ℕ → ℕ
count_children rows entity parent = count_by (λ row. is_entity entity row.key.entity && is_id (parent_id REFERENCES row) parent) rows

-- the keys of the rows of the entity that refer to the row of the other entity with that id, by a reference that a delete looks at
abbrev pub referrers_by : Entity → List Row → ℕ → ℕ → List Key
referrers_by entity rows of id = map (λ row. row.key) (filter (λ row. is_entity entity row.key.entity && refers_at REFERENCES row of id) rows)

-- the first row of a version that has the row's unique fields
abbrev pub first_twin_in : ℕ → List Row → Row → Option Row
first_twin_in version rows row = find (is_twin row) (of_version version rows)

-- the same in the row's own version
abbrev pub first_twin : List Row → Row → Option Row
first_twin rows row = first_twin_in row.key.version rows row

-- the keys of the rows of a version that have the row's unique fields
abbrev pub twins_in : ℕ → List Row → Row → List Key
twins_in version rows row = map (λ other. other.key) (filter (is_twin row) (of_version version rows))

-- the same in the row's own version
abbrev pub twins : List Row → Row → List Key
twins rows row = twins_in row.key.version rows row

-- the rows stand in pages of the sizes that the shape tells, under their keys; where there are several
-- pages each has 16 to 64 rows, and a single one has 1 to 64
pub record IsShapeOf (rows : List Row) (shape : Shape) : Type 0 where
  pub pages : List (List (Key × Row))
  pub are : map value_of (all_pairs pages) ≡ rows
  pub sized : IsPaged key_cmp pages
  pub tells : Tells shape (map length pages)
