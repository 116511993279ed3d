-- What is found among the rows of a shop.
use Rattle.std.specs.Prelude.{ℕ, ◌&&◌, List, filter, Option, option_and_then}
use Rattle.shop_defs.specs.declared.entity.Entity.{Entity}
use Rattle.shop_defs.specs.declared.key.Key.{Key}
use Rattle.shop_defs.specs.declared.row.Row.{Row}
use Rattle.shop_defs.specs.declared.words.FieldName.{FieldName}
use Rattle.shop_defs.specs.Rows.{row_at}
use Rattle.shop_operations.specs.References.{is_entity, is_id, live}
use Rattle.row_fields.specs.Fields.{number_of, id_at}

-- the key of a live row of an entity whose keys have one part
abbrev pub live_key : Entity → ℕ → Key
live_key entity id = record { entity = entity; version = 0; id = id; second = 0 }

-- the live row of the entity with that id, if an id is given
abbrev pub live_at : List Row → Entity → Option ℕ → Option Row
live_at rows entity id = option_and_then (λ id. row_at rows (live_key entity id)) id

-- the live rows of an entity, in the order of their keys
abbrev pub live_of : List Row → Entity → List Row
live_of rows entity = filter (λ row. is_entity row.key.entity entity) (live rows)

-- the live rows of an entity that name that id in the field, in the order of their keys
abbrev pub naming : List Row → Entity → FieldName → ℕ → List Row
naming rows entity field id = filter (λ row. is_entity row.key.entity entity && is_id (id_at row (number_of entity field)) id) (live rows)
