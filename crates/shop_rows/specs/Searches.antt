-- What searches look for: places in the order of rows and of mentions, and tests. No public contract cites this.
use Rattle.std.specs.Prelude.{ℕ, Bool, true, false, ◌==◌, ◌&&◌, Option, Some, None}
use Rattle.std.specs.declared.cmp.Ordering.{Ordering}
use Rattle.std.specs.Ordering.{nat_cmp, ordering_then}
use Rattle.shop_defs.specs.declared.entity.Entity.{Entity}
use Rattle.shop_defs.specs.declared.key.Key.{Key}
use Rattle.shop_defs.specs.declared.row.Row.{Row}
use Rattle.shop_defs.specs.Entities.{entity_number}
use Rattle.shop_defs.specs.Keys.{key_cmp}
use Rattle.shop_defs.specs.declared.table.OwnerLimit.{OwnerLimit}
use Rattle.shop_defs.specs.declared.table.Part.{Part}
use Rattle.shop_defs.specs.declared.table.Part.TheVariants as P
use Rattle.shop_defs.specs.declared.table.Reference.{Reference}
use Rattle.shop_defs.specs.References.{acts_on_delete}
use Rattle.shop_operations.specs.References.{is_entity}
use Rattle.shop_operations.specs.Upserts.{is_twin}
use Rattle.shop_rows.specs.Owners.{belongs}
use Rattle.shop_rows.specs.declared.topic.Topic.{Topic}
use Rattle.shop_rows.specs.declared.topic.Mention.{Mention}
use Rattle.shop_rows.specs.Topics.{topic_cmp}

-- where the row stands, seen from a key
abbrev pub from_key : Key → Row → Ordering
from_key key row = key_cmp row.key key

-- where the row stands, seen from the rows of an entity
abbrev pub from_entity : Entity → Row → Ordering
from_entity entity row = nat_cmp (entity_number row.key.entity) (entity_number entity)

-- where a key stands, seen from those of an entity and a version
abbrev pub from_entity_of : Entity → ℕ → Key → Ordering
from_entity_of entity version key = ordering_then (nat_cmp (entity_number key.entity) (entity_number entity)) (nat_cmp key.version version)

-- where a key stands, seen from those of the live rows of an entity with an id
abbrev pub from_live_id : Entity → ℕ → Key → Ordering
from_live_id entity id key = ordering_then (nat_cmp (entity_number key.entity) (entity_number entity)) (ordering_then (nat_cmp key.version 0) (nat_cmp key.id id))

-- the lowest mention of a topic by a row of the entity
abbrev pub lowest : Topic → Entity → Mention
lowest topic entity = record { topic = topic; key = record { entity = entity; version = 0; id = 0; second = 0 } }

-- where the mention stands, seen from those of a topic
abbrev pub from_topic : Topic → Mention → Ordering
from_topic topic mention = topic_cmp mention.topic topic

-- where the mention stands, seen from those of a topic by rows of an entity
abbrev pub from_topic_of : Topic → Entity → Mention → Ordering
from_topic_of topic entity mention = ordering_then (topic_cmp mention.topic topic) (nat_cmp (entity_number mention.key.entity) (entity_number entity))

-- the two are the same part of a row
abbrev pub same_part : Part → Part → Bool
same_part P.Id P.Id = true
same_part P.Second P.Second = true
same_part (P.Field a) (P.Field b) = a == b
same_part a b = false

-- a reference that a delete looks at, from that part of the entity's rows
abbrev pub is_from : Entity → Part → Reference → Bool
is_from entity part reference = is_entity reference.entity entity && (same_part reference.part part && acts_on_delete reference)

-- the row that is found, if one is, passes the test
abbrev pub passes : (Row → Bool) → Option Row → Bool
passes test None = false
passes test (Some row) = test row

-- the other is of the version, and has the row's unique fields
abbrev pub is_version_twin : ℕ → Row → Row → Bool
is_version_twin version row other = (other.key.version == version) && is_twin row other

-- the row is live and belongs to the owner
abbrev pub is_live_of : OwnerLimit → ℕ → Row → Bool
is_live_of limit owner row = (row.key.version == 0) && belongs limit owner row
