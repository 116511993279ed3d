-- Rows that a delete leaves, and what they name.
use Rattle.std.proofs.Common.{◌≡◌, ℕ, Bool, true, false, ◌&&◌, List, refl, sym, ap, subst, ◌∙◌, Option, Some, None}
use Rattle.std.specs.Prelude.{not, if◌then◌else◌}
use Rattle.std.specs.List.{list_any}
use Rattle.std.proofs.lemmas.Bool.{eq-eqb, false_from_ne_true, and_from, and_parts, both_ways, not-true, eqb-true}
use Rattle.shop_defs.specs.declared.entity.Entity.{Entity}
use Rattle.shop_defs.specs.declared.table.TheConstants.{REFERENCES}
use Rattle.shop_defs.specs.Entities.{entity_number}
use Rattle.shop_defs.specs.declared.key.Key.{Key}
use Rattle.shop_defs.specs.declared.row.Row.{Row}
use Rattle.shop_defs.specs.declared.value.Value.{Value}
use Rattle.shop_defs.specs.declared.table.Reference.{Reference}
use Rattle.shop_defs.specs.declared.table.Part.{Part}
use Rattle.shop_defs.specs.declared.table.Part.TheVariants as P
use Rattle.shop_defs.specs.Rows.{field_in, field_of}
use Rattle.shop_defs.proofs.EachLine.{same_entity}
use Rattle.shop_operations.specs.References.{sets_null, is_entity, ident, is_id, part_of, named, ties}
use Rattle.shop_soundness.proofs.Tables.{is_never_emptied}
use Rattle.shop_operations.specs.Deletes.{is_field, goes, gone, kept, is_emptied, emptied, deleted}
use Rattle.shop_soundness.proofs.Fields.{field_filter}
use Rattle.shop_soundness.proofs.Lists.{no_some}
use Rattle.closure.specs.Closure.{IsIn}
use Rattle.closure.proofs.Members.{Found, any_of, all_at, of_filter, of_map}

module _ (table : List Reference) (lost : List Row) (row : Row) where
  -- a value that is there stayed
  pub record IsKeptValue (number : ℕ) (value : Value) : Type 0 where
    pub stays : is_emptied table lost row number ≡ false
    pub before : field_of row number ≡ Some value

  pub value_kept : (number : ℕ) (value : Value) → field_of (emptied table lost row) number ≡ Some value → IsKeptValue number value
  value_kept number value e = by (is_emptied table lost row number) refl (sym (field_filter (λ n. not (is_emptied table lost row n)) row.fields number) ∙ e)
    where
      by : (b : Bool) → is_emptied table lost row number ≡ b → (if not b then field_in row.fields number else None) ≡ Some value → IsKeptValue number value
      by true f g = absurd (no_some value g)
      by false f g = record { stays = f; before = g }

  -- a field that no delete empties is as it was
  pub never_emptied : (number : ℕ) → is_emptied table lost row number ≡ false → field_of (emptied table lost row) number ≡ field_of row number
  never_emptied number e = field_filter (λ n. not (is_emptied table lost row n)) row.fields number ∙ rw e refl

  pub record IsKeptId (number id : ℕ) : Type 0 where
    pub stays : is_emptied table lost row number ≡ false
    pub before : ident (field_of row number) ≡ Some id

  pub ident_kept : (number id : ℕ) → ident (field_of (emptied table lost row) number) ≡ Some id → IsKeptId number id
  ident_kept number id e = by (field_of (emptied table lost row) number) refl e
    where
      by : (value : Option Value) → field_of (emptied table lost row) number ≡ value → ident value ≡ Some id → IsKeptId number id
      by None f g = absurd (no_some id g)
      by (Some value) f g = let k = value_kept number value f in record { stays = k.stays; before = ap ident k.before ∙ g }

  pub part_then : (at : Part) (id : ℕ) → part_of at (emptied table lost row) ≡ Some id → part_of at row ≡ Some id
  part_then P.Id id e = e
  part_then P.Second id e = e
  part_then (P.Field number) id e = (ident_kept number id e).before

pub record IsNamedPart (reference : Reference) (row : Row) (id : ℕ) : Type 0 where
  pub entity : is_entity reference.entity row.key.entity ≡ true
  pub part : part_of reference.part row ≡ Some id

pub named_part : (reference : Reference) (row : Row) (id : ℕ) → named reference row ≡ Some id → IsNamedPart reference row id
named_part reference row id e = by (is_entity reference.entity row.key.entity) refl e
  where
    by : (b : Bool) → is_entity reference.entity row.key.entity ≡ b → (if b then part_of reference.part row else None) ≡ Some id → IsNamedPart reference row id
    by true f g = record { entity = f; part = g }
    by false f g = absurd (no_some id g)

pub part_named : (reference : Reference) (row : Row) (id : ℕ) → is_entity reference.entity row.key.entity ≡ true → part_of reference.part row ≡ Some id → named reference row ≡ Some id
part_named reference row id k p = rw k p

-- an emptied row names what it named, or nothing
pub named_then : (table : List Reference) (lost : List Row) (row : Row) (reference : Reference) (id : ℕ) → named reference (emptied table lost row) ≡ Some id → named reference row ≡ Some id
named_then table lost row reference id e =
    let n = named_part reference (emptied table lost row) id e in
    part_named reference row id n.entity (part_then table lost row reference.part id n.part)

-- the id that a row names where it names the other
pub id_of_tie : (name : Option ℕ) (id : ℕ) → is_id name id ≡ true → name ≡ Some id
id_of_tie None id e = cc
id_of_tie (Some other) id e = ap (λ n. Some n) (eqb-true other id e)

-- an emptied row that names another named it before
pub ties_then : (table : List Reference) (lost : List Row) (row other : Row) (reference : Reference) → ties reference (emptied table lost row) other ≡ true → ties reference row other ≡ true
ties_then table lost row other reference e =
    let parts = and_parts (is_entity reference.of other.key.entity) (is_id (named reference (emptied table lost row)) other.key.id) e in
    let name = id_of_tie (named reference (emptied table lost row)) other.key.id parts.1 in
    and_from _ _ parts.0 (subst (λ n. is_id n other.key.id ≡ true) (name ∙ sym (named_then table lost row reference other.key.id name)) parts.1)

-- the entities of two rows of which one names the other
pub record AreTied (reference : Reference) (row other : Row) : Type 0 where
  pub of : reference.of ≡ other.key.entity
  pub name : named reference row ≡ Some other.key.id
  pub entity : reference.entity ≡ row.key.entity

pub are_tied : (reference : Reference) (row other : Row) → ties reference row other ≡ true → AreTied reference row other
are_tied reference row other tie =
    let parts = and_parts (is_entity reference.of other.key.entity) (is_id (named reference row) other.key.id) tie in
    let name = id_of_tie (named reference row) other.key.id parts.1 in
    record {
      of = same_entity reference.of other.key.entity (eqb-true _ _ parts.0);
      name = name;
      entity = same_entity reference.entity row.key.entity (eqb-true _ _ (named_part reference row other.key.id name).entity);
    }

-- a field that no delete empties
pub stays_whole : (lost : List Row) (row : Row) (number : ℕ) → is_never_emptied row.key.entity number ≡ true → is_emptied REFERENCES lost row number ≡ false
unfolding is_emptied
stays_whole lost row number never = false_from_ne_true _ (λ e. by (any_of (λ reference. sets_null reference.on_delete && is_field reference.part number && list_any (ties reference row) lost) REFERENCES e))
  where
    by : Found (λ reference. sets_null reference.on_delete && is_field reference.part number && list_any (ties reference row) lost) REFERENCES → ⊥
    by f =
        let parts = and_parts (sets_null f.one.on_delete && is_field f.one.part number) (list_any (ties f.one row) lost) f.passes in
        let front = and_parts (sets_null f.one.on_delete) (is_field f.one.part number) parts.0 in
        let tied = any_of (ties f.one row) lost parts.1 in
        let are = are_tied f.one row tied.one tied.passes in
        let is : is_entity f.one.entity row.key.entity ≡ true = eq-eqb _ _ (ap (λ (entity : Entity). entity_number entity) are.entity) in
        let rule : not (sets_null f.one.on_delete && is_entity f.one.entity row.key.entity && is_field f.one.part number) ≡ true = all_at (λ reference. not (sets_null reference.on_delete && is_entity reference.entity row.key.entity && is_field reference.part number)) REFERENCES f.one never f.is_in in
        both_ways (sets_null f.one.on_delete && is_entity f.one.entity row.key.entity && is_field f.one.part number) (not-true _ rule) (and_from _ _ (and_from _ _ front.0 is) front.1)

-- a row that a delete leaves: one of those that stay, emptied
pub record IsLeft (table : List Reference) (rows : List Row) (key : Key) (row : Row) : Type 0 where
  pub one : Row
  pub is_in : IsIn one rows
  pub stays : goes table rows key one ≡ false
  pub is_kept : IsIn one (kept table rows key)
  pub image : emptied table (gone table rows key) one ≡ row

pub of_deleted : (table : List Reference) (rows : List Row) (key : Key) (row : Row) → IsIn row (deleted table rows key) → IsLeft table rows key row
of_deleted table rows key row i =
    let m = of_map (emptied table (gone table rows key)) (kept table rows key) row i in
    let f = of_filter (λ r. not (goes table rows key r)) rows m.one m.is_in in
    record { one = m.one; is_in = f.is_in; stays = not-true (goes table rows key m.one) f.passes; is_kept = m.is_in; image = m.image }
