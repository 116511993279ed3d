-- Rows stay as their entities have them after an accepted operation.
use Rattle.std.proofs.Common.{◌≡◌, ℕ, ◌<◌, ◌≤◌, ◌+◌, true, false, ◌&&◌, ◌||◌, ◌⊎◌, inl, inr, List, [], ◌∷◌, refl, sym, ap, subst, ◌∙◌, Option, Some, None, arith}
use Rattle.std.specs.Prelude.{◌==◌, not, is_some, is_none, filter, unwrap_or, if◌then◌else◌}
use Rattle.std.specs.List.{fold, list_all}
use Rattle.std.specs.Ordering.{nat_cmp}
use Rattle.std.proofs.lemmas.Bool.{eqb-true, and_parts, or_cases}
use Rattle.closure.specs.Closure.{IsIn}
use Rattle.closure.proofs.Members.{all_at, all_from, of_filter}
use Rattle.shop_defs.specs.declared.entity.Entity.{Entity}
use Rattle.shop_defs.specs.declared.key.Key.{Key}
use Rattle.shop_defs.specs.declared.op.Op.{Op}
use Rattle.shop_defs.specs.declared.row.Row.{Row}
use Rattle.shop_defs.specs.declared.table.FieldInfo.{FieldInfo}
use Rattle.shop_defs.specs.declared.table.TheConstants.{REFERENCES}
use Rattle.shop_defs.specs.declared.value.Value.{Value}
use Rattle.shop_defs.specs.Checks.{fits, null_or_fits}
use Rattle.shop_defs.specs.Fitting.{field_fits, given_fits, is_writable, line_fits, line_given_fits, row_key_fits}
use Rattle.shop_defs.specs.Presets.{is_needed, is_there, preset_of}
use Rattle.shop_defs.specs.Rows.{field_of}
use Rattle.shop_defs.specs.Tables.{field_at, fields_of}
use Rattle.shop_defs.proofs.EachLine.{IsLineOf, each_line, of_fields, numbered, preset_fits, same_entity}
use Rattle.shop_defs.proofs.TableLaws.{counts_from, presets_are_values}
use Rattle.shop_operations.specs.Deletes.{is_emptied, emptied}
use Rattle.shop_operations.specs.Outcomes.{HasFieldsOnce}
use Rattle.shop_operations.specs.Upserts.{field_number, field_name, give, fill, row_in, left, bare_row, missing_required}
use Rattle.shop_operations.proofs.Fields.{given_rise, filled_rise}
use Rattle.shop_soundness.specs.WellFormed.{IsWellFormed, AreWellFormed}
use Rattle.shop_soundness.proofs.Accepted.{map_none, none_least}
use Rattle.shop_soundness.proofs.Emptied.{never_emptied, stays_whole}
use Rattle.shop_soundness.proofs.Gives.{as_given, given_of, IsPresetOf, filled_of, filled_make}
use Rattle.shop_soundness.proofs.InOrder.{ascends_filter}
use Rattle.shop_soundness.proofs.Lefts.{row_before, was_there}
use Rattle.shop_soundness.proofs.Lists.{each_of, of_each, find_of}
use Rattle.shop_soundness.proofs.Tables.{is_never_emptied, needed_are_never_emptied}

-- ---- fields that fit

-- the lines of a table that counts from a number have that number or greater ones
counted : (first : ℕ) (table : List FieldInfo) (info : FieldInfo) → counts_from first table ≡ true → IsIn info table → first ≤ info.number
counted first [] info counts i = absurd i
counted first (line ∷ rest) info counts i =
    let parts = and_parts (line.number == first) (counts_from (first + 1) rest) counts in
    by (eqb-true line.number first parts.0) (counted (first + 1) rest info parts.1) i
  where
    by : line.number ≡ first → (IsIn info rest → first + 1 ≤ info.number) → (line ≡ info) ⊎ IsIn info rest → first ≤ info.number
    by is more (inl e) = let same : line.number ≡ info.number = ap (λ (l : FieldInfo). l.number) e in omega (arith, is, same)
    by is more (inr j) = let over = more j in omega (arith, over)

-- a field that fits has a number from 1 on
from_one : (entity : Entity) (field : ℕ × Value) → field_fits entity field ≡ true → 0 < field_number field
from_one entity field fit = by (field_at entity field.0) refl fit
  where
    by : (line : Option FieldInfo) → field_at entity field.0 ≡ line → line_fits line field.1 ≡ true → 0 < field_number field
    by None e f = cc
    by (Some info) e f =
        let found = find_of (λ line. line.number == field.0) (fields_of entity) info e in
        let first = counted 1 (fields_of entity) info (numbered entity) found.is_in in
        let same = eqb-true info.number field.0 found.passes in
        omega (arith, first, same)

-- what is given fits, where it isn't null
given_fit : (entity : Entity) (field : ℕ × Value) → given_fits entity (as_given field) ≡ true → field_fits entity field ≡ true
given_fit entity field fit = by (field_at entity field.0) fit
  where
    by : (line : Option FieldInfo) → line_given_fits line (Some field.1) ≡ true → line_fits line field.1 ≡ true
    by None e = cc
    by (Some info) e = e

-- a preset fits
preset_fit : (entity : Entity) (field : ℕ × Value) → IsPresetOf (fields_of entity) field → field_fits entity field ≡ true
preset_fit entity field p =
    let line = (of_each (IsLineOf entity) (fields_of entity) p.info (each_line entity) p.is_in).by_number in
    let at : field_at entity field.0 ≡ Some p.info = subst (λ n. field_at entity n ≡ Some p.info) p.number line in
    let fit : null_or_fits p.info.kind (preset_of p.info) ≡ true = preset_fits entity field.0 p.info at in
    let value : fits p.info.kind field.1 ≡ true = subst (λ v. null_or_fits p.info.kind v ≡ true) p.value fit in
    subst (λ line. line_fits line field.1 ≡ true) (sym at) value

-- ---- upserts

-- a row as its entity has it, but for what it lacks
record IsOfKind (row : Row) : Type 0 where
  key : row_key_fits row.key ≡ true
  rising : HasFieldsOnce row
  fields : list_all (field_fits row.key.entity) row.fields ≡ true
  ops : row.ops ≡ []

module _ (rows : List Row) (key : Key) (op : Op) (formed : AreWellFormed rows) (writable : is_writable key.entity ≡ true) (fit : row_key_fits key ≡ true) where
  -- so was the row before, or a row without fields
  before_of_kind : IsOfKind (row_before rows key)
  before_of_kind = by (row_in rows key) refl
    where
      by : (row : Option Row) → row_in rows key ≡ row → IsOfKind (unwrap_or row (bare_row key))
      by None e = record { key = fit; rising = tt; fields = refl; ops = refl }
      by (Some row) e =
          let was = was_there rows key row e in
          let entity = same_entity row.key.entity key.entity was.place.entity in
          let is = formed row was.is_in (subst (λ (e : Entity). is_writable e ≡ true) (sym entity) writable) in
          record { key = is.key; rising = is.rising; fields = is.fields; ops = is.ops }

  abbrev of : Entity
  of = (row_before rows key).key.entity

  module _ (given : list_all (given_fits (row_before rows key).key.entity) op.fields ≡ true) where
    left_field_fits : (field : ℕ × Value) → IsIn field (fold fill (fold give (row_before rows key).fields op.fields) (fields_of (row_before rows key).key.entity)) → field_fits (row_before rows key).key.entity field ≡ true
    left_field_fits field i = by (filled_of (fields_of of) (fold give (row_before rows key).fields op.fields) field i)
      where
        by_given : IsIn field (row_before rows key).fields ⊎ IsIn (as_given field) op.fields → field_fits of field ≡ true
        by_given (inl j) = all_at (field_fits of) (row_before rows key).fields field before_of_kind.fields j
        by_given (inr j) = given_fit of field (all_at (given_fits of) op.fields (as_given field) given j)

        by : IsIn field (fold give (row_before rows key).fields op.fields) ⊎ IsPresetOf (fields_of of) field → field_fits of field ≡ true
        by (inl j) = by_given (given_of op.fields (row_before rows key).fields field j)
        by (inr p) = preset_fit of field p

    left_is_there : missing_required (left rows key op) ≡ None → (info : FieldInfo) → IsIn info (fields_of (row_before rows key).key.entity) → is_needed info ≡ true → is_some (field_of (left rows key op) info.number) ≡ true
    unfolding left
    left_is_there checked info i needed = by (or_cases info.marks.required (is_there info.preset) needed)
      where
        some_of : (value : Option Value) → is_none value ≡ false → is_some value ≡ true
        some_of None e = cc
        some_of (Some value) e = refl

        by_required : info.marks.required ≡ true → is_some (field_of (left rows key op) info.number) ≡ true
        by_required r =
            let none : (info.marks.required && is_none (field_of (left rows key op) info.number)) ≡ false = none_least field_name (λ field. field.marks.required && is_none (field_of (left rows key op) field.number)) (fields_of of) info (map_none _ _ checked) i in
            some_of (field_of (left rows key op) info.number) (rw r at none)

        by_preset : is_there info.preset ≡ true → is_some (field_of (left rows key op) info.number) ≡ true
        by_preset p =
            let rule : (if is_there info.preset then is_some (preset_of info) else is_none (preset_of info)) ≡ true = all_at (λ field. if is_there field.preset then is_some (preset_of field) else is_none (preset_of field)) (fields_of of) info (of_fields (λ entity field. if is_there field.preset then is_some (preset_of field) else is_none (preset_of field)) presets_are_values of) i in
            filled_make (fields_of of) (fold give (row_before rows key).fields op.fields) info i (rw p at rule)

        by : (info.marks.required ≡ true) ⊎ (is_there info.preset ≡ true) → is_some (field_of (left rows key op) info.number) ≡ true
        by (inl r) = by_required r
        by (inr p) = by_preset p

    -- the row that an accepted upsert leaves
    pub left_well_formed : missing_required (left rows key op) ≡ None → IsWellFormed (left rows key op)
    unfolding left
    left_well_formed checked =
        let before = before_of_kind in
        let fields = fold fill (fold give (row_before rows key).fields op.fields) (fields_of of) in
        record {
          key = before.key;
          rising = filled_rise (fields_of of) (fold give (row_before rows key).fields op.fields) (given_rise op.fields (row_before rows key).fields before.rising);
          from_one = each_of (λ field. 0 < field_number field) fields (λ field i. from_one of field (left_field_fits field i));
          fields = all_from (field_fits of) fields left_field_fits;
          needed = all_from (λ field. is_some (field_of (left rows key op) field.number)) (filter is_needed (fields_of of)) (λ info i. let f = of_filter is_needed (fields_of of) info i in left_is_there checked info f.is_in f.passes);
          ops = before.ops;
        }

-- ---- deletes

-- an emptied row
pub emptied_well_formed : (lost : List Row) (row : Row) → IsWellFormed row → IsWellFormed (emptied REFERENCES lost row)
emptied_well_formed lost row is = record {
  key = is.key;
  rising = ascends_filter nat_cmp field_number (λ entry. not (is_emptied REFERENCES lost row entry.0)) row.fields is.rising;
  from_one = each_of (λ field. 0 < field_number field) (emptied REFERENCES lost row).fields (λ field i. of_each (λ f. 0 < field_number f) row.fields field is.from_one (had field i));
  fields = all_from (field_fits row.key.entity) (emptied REFERENCES lost row).fields (λ field i. all_at (field_fits row.key.entity) row.fields field is.fields (had field i));
  needed = all_from (λ field. is_some (field_of (emptied REFERENCES lost row) field.number)) (filter is_needed (fields_of row.key.entity)) there;
  ops = is.ops;
}
  where
    had : (field : ℕ × Value) → IsIn field (emptied REFERENCES lost row).fields → IsIn field row.fields
    had field i = (of_filter (λ entry. not (is_emptied REFERENCES lost row entry.0)) row.fields field i).is_in

    there : (info : FieldInfo) → IsIn info (filter is_needed (fields_of row.key.entity)) → is_some (field_of (emptied REFERENCES lost row) info.number) ≡ true
    there info i =
        let f = of_filter is_needed (fields_of row.key.entity) info i in
        let rule : (not (is_needed info) || is_never_emptied row.key.entity info.number) ≡ true = all_at (λ field. not (is_needed field) || is_never_emptied row.key.entity field.number) (fields_of row.key.entity) info (of_fields (λ entity field. not (is_needed field) || is_never_emptied entity field.number) needed_are_never_emptied row.key.entity) f.is_in in
        let never : is_never_emptied row.key.entity info.number ≡ true = rw f.passes at rule in
        ap is_some (never_emptied REFERENCES lost row info.number (stays_whole lost row info.number never)) ∙ all_at (λ field. is_some (field_of row field.number)) (filter is_needed (fields_of row.key.entity)) info is.needed i
