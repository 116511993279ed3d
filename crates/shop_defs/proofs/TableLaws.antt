-- Rules that the tables keep, each computed over all of them.
use Rattle.std.proofs.Common.{◌≡◌, ℕ, ◌+◌, true, false, Bool, List, [], ◌∷◌, Option, Some, None, refl}
use Rattle.std.specs.Prelude.{◌&&◌, ◌||◌, ◌==◌, not, count_by, is_none, is_some, if◌then◌else◌}
use Rattle.std.specs.List.{list_all, list_any}
use Rattle.shop_defs.specs.declared.entity.Entity.{Entity}
use Rattle.shop_defs.specs.declared.entity.Entity.TheVariants as E
use Rattle.shop_defs.specs.Entities.{entity_number}
use Rattle.shop_defs.specs.declared.table.EntityInfo.{EntityInfo}
use Rattle.shop_defs.specs.declared.table.FieldInfo.{FieldInfo}
use Rattle.shop_defs.specs.declared.table.FieldKind.{FieldKind}
use Rattle.shop_defs.specs.declared.table.FieldKind.TheVariants as K
use Rattle.shop_defs.specs.declared.table.KeyForm.{KeyForm}
use Rattle.shop_defs.specs.declared.table.KeyForm.TheVariants.{OnePart, TwoParts}
use Rattle.shop_defs.specs.declared.table.Part.{Part}
use Rattle.shop_defs.specs.declared.table.Part.TheVariants as P
use Rattle.shop_defs.specs.declared.table.Reference.{Reference}
use Rattle.shop_defs.specs.declared.table.TheConstants.{ENTITIES, REFERENCES, LEVEL_LIMITS, OWNER_LIMITS}
use Rattle.shop_defs.specs.Texts.{entity_text, field_text}
use Rattle.shop_defs.specs.Checks.{null_or_fits}
use Rattle.shop_defs.specs.Presets.{is_there, preset_of}
use Rattle.shop_defs.specs.Fitting.{is_writable}
use Rattle.shop_defs.specs.References.{part_name, acts_on_delete}
use Rattle.shop_defs.specs.Tables.{fields_of, info_of, info_named, field_named, entity_named}

-- a rule holds of every field of every entity
abbrev pub of_all_fields : (Entity → FieldInfo → Bool) → Bool
of_all_fields rule = list_all (λ info. list_all (rule info.entity) (fields_of info.entity)) ENTITIES

abbrev pub is_entity : Entity → Entity → Bool
is_entity a b = entity_number a == entity_number b

abbrev pub is_of : Option Entity → Entity → Bool
is_of (Some of) entity = is_entity of entity
is_of None entity = false

-- the elements have the numbers from a first one on
abbrev pub counts_up : {X : Type 0} → (X → ℕ) → ℕ → List X → Bool
counts_up number first [] = true
counts_up number first (x ∷ rest) = (number x == first) && counts_up number (first + 1) rest

-- the entities are numbered 1, 2 and so on
pub entities_numbered : counts_up (λ (info : EntityInfo). entity_number info.entity) 1 ENTITIES ≡ true
entities_numbered = refl

-- the fields have the numbers from a first one on
abbrev pub counts_from : ℕ → List FieldInfo → Bool
counts_from first fields = counts_up (λ (field : FieldInfo). field.number) first fields

-- the fields of each entity are numbered 1, 2 and so on
pub fields_numbered : list_all (λ info. counts_from 1 (fields_of info.entity)) ENTITIES ≡ true
unfolding fields_of
fields_numbered = refl

abbrev pub is_number : ℕ → Option ℕ → Bool
is_number number (Some other) = number == other
is_number number None = false

-- no two fields of an entity have the same name
pub field_names_differ : of_all_fields (λ entity field. is_number field.number (field_named entity (field_text field.name))) ≡ true
unfolding fields_of
field_names_differ = refl

-- each entity is found by its name, so no two have the same
pub entity_names_differ : list_all (λ info. is_of (entity_named (entity_text info.entity)) info.entity) ENTITIES ≡ true
unfolding info_named
entity_names_differ = refl

-- what a field holds where it would be null fits its kind
pub presets_fit : of_all_fields (λ entity field. null_or_fits field.kind (preset_of field)) ≡ true
unfolding fields_of
presets_fit = refl

-- and it is a value exactly where the field has a preset
pub presets_are_values : of_all_fields (λ entity field. if is_there field.preset then is_some (preset_of field) else is_none (preset_of field)) ≡ true
unfolding fields_of
presets_are_values = refl

-- a required field has no preset
pub required_without_preset : of_all_fields (λ entity field. not field.marks.required || not (is_there field.preset)) ≡ true
unfolding fields_of
required_without_preset = refl

abbrev pub id_of_entity : FieldKind → Option Entity
id_of_entity (K.Id of) = Some of
id_of_entity kind = None

-- a fixed field is a reference
pub fixed_are_references : of_all_fields (λ entity field. not field.marks.fixed || is_some (id_of_entity field.kind)) ≡ true
unfolding fields_of
fixed_are_references = refl

-- only fields of products are inherited, and those are not required
pub inherited_of_products : of_all_fields (λ entity field. not field.marks.inherited || (is_entity entity E.Product && not field.marks.required)) ≡ true
unfolding fields_of
inherited_of_products = refl

abbrev pub is_part : Part → Part → Bool
is_part P.Id P.Id = true
is_part P.Second P.Second = true
is_part (P.Field a) (P.Field b) = a == b
is_part a b = false

-- how many references stand in a part of an entity's rows
abbrev pub references_in : Entity → Part → ℕ
references_in entity part = count_by (λ reference. is_entity reference.entity entity && is_part reference.part part) REFERENCES

-- a reference in a field is to the entity whose ids the field holds
abbrev pub agrees : Reference → Part → Bool
agrees reference (P.Field number) = list_any (λ field. (field.number == number) && is_of (id_of_entity field.kind) reference.of) (fields_of reference.entity)
agrees reference part = true

abbrev pub one_if : Bool → ℕ
one_if true = 1
one_if false = 0

-- each field that holds an entity's ids is one reference, and every other field is none
pub each_id_is_one_reference : of_all_fields (λ entity field. references_in entity (P.Field field.number) == one_if (is_some (id_of_entity field.kind))) ≡ true
unfolding fields_of
each_id_is_one_reference = refl

-- references in fields are to the entity of the field's kind
pub references_agree : list_all (λ reference. agrees reference reference.part) REFERENCES ≡ true
unfolding fields_of
references_agree = refl

-- each part in which a reference or an owner stands has a name
pub references_named : list_all (λ reference. is_some (part_name reference.entity reference.part)) REFERENCES ≡ true
unfolding fields_of
references_named = refl

pub owners_named : list_all (λ limit. is_some (part_name limit.entity limit.owner)) OWNER_LIMITS ≡ true
unfolding fields_of
owners_named = refl

-- a reference that a delete doesn't look at is to rows that operations may not write, and so not delete
pub kept_are_not_written : list_all (λ reference. acts_on_delete reference || not (is_writable reference.of)) REFERENCES ≡ true
unfolding info_of
kept_are_not_written = refl

abbrev pub parts_are_references : EntityInfo → KeyForm → Bool
parts_are_references info TwoParts = not info.is_writable || ((references_in info.entity P.Id == 1) && (references_in info.entity P.Second == 1))
parts_are_references info OnePart = references_in info.entity P.Second == 0

-- both parts of a key of two that operations may write are references
pub parts_of_keys : list_all (λ info. parts_are_references info info.key) ENTITIES ≡ true
parts_of_keys = refl

-- the entities with a limit of levels are those that refer to themselves
pub levels_of_trees : list_all (λ info. count_by (λ level. is_entity level.entity info.entity) LEVEL_LIMITS == count_by (λ reference. is_entity reference.entity info.entity && is_entity reference.of info.entity) REFERENCES) ENTITIES ≡ true
levels_of_trees = refl

-- entities with versions are written by operations
pub versions_are_written : list_all (λ info. not info.has_versions || info.is_writable) ENTITIES ≡ true
versions_are_written = refl
