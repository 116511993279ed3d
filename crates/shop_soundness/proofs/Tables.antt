-- What the tables of references and limits keep, each computed over all lines.
use Rattle.std.proofs.Common.{◌≡◌, ℕ, Bool, true, false, Option, Some, None, refl}
use Rattle.std.specs.Prelude.{◌&&◌, ◌||◌, ◌==◌, not, nat_le}
use Rattle.std.specs.List.{list_all, list_any}
use Rattle.shop_defs.specs.declared.entity.Entity.{Entity}
use Rattle.shop_defs.specs.declared.table.EntityInfo.{EntityInfo}
use Rattle.shop_defs.specs.declared.table.KeyForm.{KeyForm}
use Rattle.shop_defs.specs.declared.table.KeyForm.TheVariants.{OnePart, TwoParts}
use Rattle.shop_defs.specs.declared.table.Part.{Part}
use Rattle.shop_defs.specs.declared.table.Part.TheVariants as P
use Rattle.shop_defs.specs.declared.table.Reference.{Reference}
use Rattle.shop_defs.specs.declared.table.TheConstants.{REFERENCES, LEVEL_LIMITS}
use Rattle.shop_defs.specs.Fitting.{is_writable}
use Rattle.shop_defs.specs.Presets.{is_needed}
use Rattle.shop_defs.specs.Tables.{fields_of, info_of}
use Rattle.shop_defs.proofs.TableLaws.{of_all_fields}
use Rattle.shop_operations.specs.Deletes.{is_field}
use Rattle.shop_operations.specs.References.{is_entity, cascades, sets_null}

-- ---- references

-- a reference stands in a field
abbrev pub is_in_field : Part → Bool
is_in_field (P.Field number) = true
is_in_field part = false

-- what is emptied by a delete stands in a field
pub emptied_are_fields : list_all (λ reference. not (sets_null reference.on_delete) || is_in_field reference.part) REFERENCES ≡ true
emptied_are_fields = refl

-- what goes with a row that is deleted is of an entity that operations may write
pub cascades_are_written : list_all (λ reference. not (cascades reference.on_delete) || is_writable reference.entity) REFERENCES ≡ true
unfolding info_of
cascades_are_written = refl

abbrev form_is_one : KeyForm → Bool
form_is_one OnePart = true
form_is_one TwoParts = false

abbrev pub line_has_one_part : Option EntityInfo → Bool
line_has_one_part (Some info) = form_is_one info.key
line_has_one_part None = false

-- the keys of the entity have one part
abbrev pub has_one_part : Entity → Bool
has_one_part entity = line_has_one_part (info_of entity)

-- rows that are referred to have keys of one part
pub named_have_one_part : list_all (λ reference. has_one_part reference.of) REFERENCES ≡ true
unfolding info_of
named_have_one_part = refl

-- no delete empties the field of the entity with that number
abbrev pub is_never_emptied : Entity → ℕ → Bool
is_never_emptied entity number = list_all (λ reference. not (sets_null reference.on_delete && is_entity reference.entity entity && is_field reference.part number)) REFERENCES

-- the field of the entity with that number is fixed
abbrev pub is_fixed : Entity → ℕ → Bool
is_fixed entity number = list_any (λ field. field.marks.fixed && (field.number == number)) (fields_of entity)

abbrev pub tree_is_fixed : Reference → Option ℕ → Bool
tree_is_fixed reference None = true
tree_is_fixed reference (Some number) = is_entity reference.entity reference.of && is_fixed reference.of number && is_never_emptied reference.of number

-- a tree is named in a field of both its nodes, which is fixed, and which no delete empties
pub trees_are_fixed : list_all (λ reference. tree_is_fixed reference reference.within) REFERENCES ≡ true
unfolding fields_of
trees_are_fixed = refl

-- ---- levels

-- each level limit lets rows without a parent be
pub levels_have_room : list_all (λ limit. nat_le 1 limit.most) LEVEL_LIMITS ≡ true
levels_have_room = refl

-- ---- fields

-- a field that is never null is one that no delete empties
pub needed_are_never_emptied : of_all_fields (λ entity field. not (is_needed field) || is_never_emptied entity field.number) ≡ true
unfolding fields_of
needed_are_never_emptied = refl

-- rows that lose a field by a delete are of entities that operations may write
pub emptied_are_written : list_all (λ reference. not (sets_null reference.on_delete) || is_writable reference.entity) REFERENCES ≡ true
unfolding info_of
emptied_are_written = refl
