-- The live rows of an entity.
use Rattle.std.specs.Prelude.{ℕ, ◌&&◌, List, filter, Option}
use Rattle.shop_defs.specs.declared.entity.Entity.{Entity}
use Rattle.shop_defs.specs.declared.key.Key.{Key}
use Rattle.shop_defs.specs.declared.row.Row.{Row}
use Rattle.shop_defs.specs.Rows.{row_at, IsInKeyOrder}
use Rattle.shop_operations.specs.References.{is_entity, is_live}
use Rattle.shop_operations.specs.Soundness.{IsCoherent}
use Rattle.shop_operations.specs.Views.{live_view}

-- the key of a live row whose key has one part
abbrev pub live_key : Entity → ℕ → Key
live_key entity id = record { entity = entity; version = 0; id = id; second = 0 }

-- the live row of the entity with that id
abbrev pub live_row : List Row → Entity → ℕ → Option Row
live_row rows entity id = row_at rows (live_key entity id)

-- the live rows of the entity
abbrev pub live_rows : List Row → Entity → List Row
live_rows rows entity = filter (λ row. is_live row && is_entity entity row.key.entity) rows

-- rows as they are asked about: each key once, in the order of keys, and the live ones fit one another
pub record AreOrderly (rows : List Row) : Type 0 where
  pub order : IsInKeyOrder rows
  pub coherent : IsCoherent (live_view rows)
