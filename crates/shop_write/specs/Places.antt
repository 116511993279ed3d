-- Places of rows, in order.
use Rattle.std.specs.Prelude.{◌≡◌, ℕ, Bool, true, false, ◌==◌, ◌&&◌, List}
use Rattle.std.specs.List.{list_any}
use Rattle.std.specs.declared.cmp.Ordering.{Ordering}
use Rattle.std.specs.Ordering.{nat_cmp, ordering_then}
use Rattle.keyed.specs.Keyed.{Ascends, put}
use Rattle.shop_defs.specs.declared.entity.Entity.{Entity}
use Rattle.shop_defs.specs.declared.key.Key.{Key}
use Rattle.shop_defs.specs.declared.row.Row.{Row}
use Rattle.shop_defs.specs.Entities.{entity_number}
use Rattle.shop_operations.specs.References.{is_entity}
use Rattle.shop_write.specs.declared.place.Place.{Place}

-- the place of a key
abbrev pub place_of : Key → Place
place_of key = record { entity = key.entity; id = key.id; second = key.second }

-- where a row stands
abbrev pub row_place : Row → Place
row_place row = place_of row.key

-- the key at a place that has that version
abbrev pub key_at : ℕ → Place → Key
key_at version place = record { entity = place.entity; version = version; id = place.id; second = place.second }

-- by entity number, id and second part
abbrev pub order : Place → Place → Ordering
order a b = ordering_then (nat_cmp (entity_number a.entity) (entity_number b.entity)) (ordering_then (nat_cmp a.id b.id) (nat_cmp a.second b.second))

-- how the place's entity and id stand to these
abbrev pub order_by_id : Entity → ℕ → Place → Ordering
order_by_id entity id place = ordering_then (nat_cmp (entity_number place.entity) (entity_number entity)) (nat_cmp place.id id)

abbrev pub itself : Place → Place
itself place = place

-- each place once, in order
abbrev pub Rise : List Place → Type 0
Rise places = Ascends order itself places

-- the row stands at the place
abbrev pub is_at : Row → Place → Bool
is_at row place = is_entity place.entity row.key.entity && (place.id == row.key.id) && (place.second == row.key.second)

-- the row stands at one of the places
unfoldable pub stands_among : List Place → Row → Bool
stands_among places row = list_any (is_at row) places

-- the row's place was put where it wasn't there yet, and where it was all is as before
abbrev pub IsAdded : Row → List Place → List Place → Bool → Type 0
IsAdded row before after true = (stands_among before row ≡ false) × (after ≡ put order itself before (row_place row))
IsAdded row before after false = (stands_among before row ≡ true) × (after ≡ before)

-- the place is of the entity and has the id
abbrev pub is_of_id : Entity → ℕ → Place → Bool
is_of_id entity id place = is_entity place.entity entity && (place.id == id)

-- one of the places is of the entity and has the id
unfoldable pub has_id : List Place → Entity → ℕ → Bool
has_id places entity id = list_any (is_of_id entity id) places
