-- How rows refer to one another, by a table of references.
use Rattle.std.specs.Prelude.{ℕ, Bool, true, false, ◌==◌, ◌&&◌, List, map, filter, Option, Some, None, if◌then◌else◌}
use Rattle.std.specs.List.{list_any, list_all}
use Rattle.shop_defs.specs.declared.entity.Entity.{Entity}
use Rattle.shop_defs.specs.declared.key.Key.{Key}
use Rattle.shop_defs.specs.declared.row.Row.{Row}
use Rattle.shop_defs.specs.declared.value.Value.{Value}
use Rattle.shop_defs.specs.declared.value.Value.TheVariants as V
use Rattle.shop_defs.specs.declared.table.Reference.{Reference}
use Rattle.shop_defs.specs.declared.table.Part.{Part}
use Rattle.shop_defs.specs.declared.table.Part.TheVariants as P
use Rattle.shop_defs.specs.declared.table.OnDelete.{OnDelete}
use Rattle.shop_defs.specs.declared.table.OnDelete.TheVariants as O
use Rattle.shop_defs.specs.Entities.{entity_number}
use Rattle.shop_defs.specs.References.{acts_on_delete}
use Rattle.shop_defs.specs.Rows.{field_of}

-- the two are the same entity
abbrev pub is_entity : Entity → Entity → Bool
is_entity a b = entity_number a == entity_number b

-- the row is live: of no draft
abbrev pub is_live : Row → Bool
is_live row = row.key.version == 0

-- the rows of that version
abbrev pub of_version : ℕ → List Row → List Row
of_version version rows = filter (λ row. row.key.version == version) rows

-- the live rows
abbrev pub live : List Row → List Row
live rows = filter is_live rows

-- the id that a value holds
abbrev pub ident : Option Value → Option ℕ
ident (Some (V.Ident id)) = Some id
ident value = None

-- that id is named
abbrev pub is_id : Option ℕ → ℕ → Bool
is_id None other = false
is_id (Some id) other = id == other

-- the id in a part of the row
abbrev pub part_of : Part → Row → Option ℕ
part_of P.Id row = Some row.key.id
part_of P.Second row = Some row.key.second
part_of (P.Field number) row = ident (field_of row number)

-- the id that the row names by the reference
abbrev pub named : Reference → Row → Option ℕ
named reference row = if is_entity reference.entity row.key.entity then part_of reference.part row else None

-- the row is the one of that entity with that id
abbrev pub is_one : Entity → ℕ → Row → Bool
is_one entity id row = is_entity entity row.key.entity && (id == row.key.id)

-- the row names the other by the reference
abbrev pub ties : Reference → Row → Row → Bool
ties reference row other = is_entity reference.of other.key.entity && is_id (named reference row) other.key.id

-- what a delete of the row referred to does to the row that refers: it goes too
abbrev pub cascades : OnDelete → Bool
cascades O.Cascade = true
cascades other = false

-- it holds the delete back
abbrev pub restricts : OnDelete → Bool
restricts O.Restrict = true
restricts other = false

-- its field is emptied
abbrev pub sets_null : OnDelete → Bool
sets_null O.SetNull = true
sets_null other = false

-- the row goes where the one with that id goes, of the entity with that number
unfoldable pub falls_at : List Reference → Row → ℕ → ℕ → Bool
falls_at table row number id = list_any (λ reference. cascades reference.on_delete && ((entity_number reference.of == number) && is_id (named reference row) id)) table

-- the row goes where the other goes
abbrev pub falls_with : List Reference → Row → Row → Bool
falls_with table row other = falls_at table row (entity_number other.key.entity) other.key.id

-- the row refers to the one with that id, of the entity with that number, by a reference that a delete looks at
unfoldable pub refers_at : List Reference → Row → ℕ → ℕ → Bool
refers_at table row number id = list_any (λ reference. acts_on_delete reference && ((entity_number reference.of == number) && is_id (named reference row) id)) table

-- the keys of the rows that refer to the one with that id, of the entity with that number
abbrev pub referrers : List Reference → List Row → ℕ → ℕ → List Key
referrers table rows number id = map (λ row. row.key) (filter (λ row. refers_at table row number id) rows)

-- the row holds the other back
unfoldable pub holds_back : List Reference → Row → Row → Bool
holds_back table row other = list_any (λ reference. restricts reference.on_delete && ties reference row other) table

-- there is a row of that entity with the id, if one is named
abbrev pub is_there : List Row → Entity → Option ℕ → Bool
is_there rows entity None = true
is_there rows entity (Some id) = list_any (is_one entity id) rows

-- what the row names by the reference is there
abbrev pub is_met : Reference → List Row → Row → Bool
is_met reference rows row = is_there rows reference.of (named reference row)

-- all that the row names is there
unfoldable pub is_grounded : List Reference → List Row → Row → Bool
is_grounded table rows row = list_all (λ reference. is_met reference rows row) table

-- all that the rows name is there
unfoldable pub are_grounded : List Reference → List Row → Bool
are_grounded table rows = list_all (is_grounded table rows) rows
