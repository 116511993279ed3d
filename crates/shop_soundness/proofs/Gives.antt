-- The fields that an operation gives, and the presets: what they leave, and where it comes from.
use Rattle.std.proofs.Common.{◌≡◌, ℕ, Bool, true, false, ◌⊎◌, inl, inr, List, [], ◌∷◌, refl, sym, ap, subst, ◌∙◌, Option, Some, None}
use Rattle.std.specs.Prelude.{nat_eq, is_some, if◌then◌else◌}
use Rattle.std.specs.List.{fold}
use Rattle.std.specs.Ordering.{nat_cmp, is_eq}
use Rattle.std.proofs.lemmas.Bool.{eqb-true, both_ways}
use Rattle.keyed.specs.Keyed.{without}
use Rattle.closure.specs.Closure.{IsIn}
use Rattle.shop_defs.specs.declared.table.FieldInfo.{FieldInfo}
use Rattle.shop_defs.specs.declared.value.Value.{Value}
use Rattle.shop_defs.specs.Presets.{preset_of}
use Rattle.shop_defs.specs.Rows.{field_in}
use Rattle.shop_operations.specs.Upserts.{field_number, give, fill}
use Rattle.shop_operations.proofs.Fields.{put_same, give_other}
use Rattle.shop_soundness.proofs.Lists.{put_of}

-- ---- where a field comes from

-- a field as an operation gives it
abbrev pub as_given : ℕ × Value → ℕ × Option Value
as_given field = (field.0, Some field.1)

-- a preset as an operation would give it
abbrev of_preset : FieldInfo → ℕ × Option Value
of_preset info = (info.number, preset_of info)

-- what is left was there
without_of : (fields : List (ℕ × Value)) (number : ℕ) (field : ℕ × Value) → IsIn field (without nat_cmp field_number fields number) → IsIn field fields
without_of [] number field i = i
without_of (x ∷ xs) number field i = by (is_eq (nat_cmp x.0 number)) (without_of xs number field) i
  where
    by : (b : Bool) → (IsIn field (without nat_cmp field_number xs number) → IsIn field xs) → IsIn field (if b then xs else x ∷ without nat_cmp field_number xs number) → (x ≡ field) ⊎ IsIn field xs
    by true more j = inr j
    by false more (inl e) = inl e
    by false more (inr j) = inr (more j)

give_of : (fields : List (ℕ × Value)) (entry : ℕ × Option Value) (field : ℕ × Value) → IsIn field (give fields entry) → IsIn field fields ⊎ (entry ≡ as_given field)
give_of fields (number, None) field i = inl (without_of fields number field i)
give_of fields (number, Some value) field i = by (put_of nat_cmp field_number fields (number, value) field i)
  where
    by : ((number, value) ≡ field) ⊎ IsIn field fields → IsIn field fields ⊎ (as_given (number, value) ≡ as_given field)
    by (inl e) = inr (ap as_given e)
    by (inr j) = inl j

-- a field was there, or it is given
pub given_of : (entries : List (ℕ × Option Value)) (fields : List (ℕ × Value)) (field : ℕ × Value) → IsIn field (fold give fields entries) → IsIn field fields ⊎ IsIn (as_given field) entries
given_of [] fields field i = inl i
given_of (entry ∷ rest) fields field i = by (given_of rest (give fields entry) field i)
  where
    at : IsIn field fields ⊎ (entry ≡ as_given field) → IsIn field fields ⊎ ((entry ≡ as_given field) ⊎ IsIn (as_given field) rest)
    at (inl j) = inl j
    at (inr e) = inr (inl e)

    by : IsIn field (give fields entry) ⊎ IsIn (as_given field) rest → IsIn field fields ⊎ ((entry ≡ as_given field) ⊎ IsIn (as_given field) rest)
    by (inl j) = at (give_of fields entry field j)
    by (inr j) = inr (inr j)

-- the preset of one of the fields of a table
pub record IsPresetOf (table : List FieldInfo) (field : ℕ × Value) : Type 0 where
  pub info : FieldInfo
  pub is_in : IsIn info table
  pub number : info.number ≡ field.0
  pub value : preset_of info ≡ Some field.1

fill_of : (fields : List (ℕ × Value)) (info : FieldInfo) (field : ℕ × Value) → IsIn field (fill fields info) → IsIn field fields ⊎ (of_preset info ≡ as_given field)
fill_of fields info field i = by (is_some (field_in fields info.number)) i
  where
    by : (b : Bool) → IsIn field (if b then fields else give fields (info.number, preset_of info)) → IsIn field fields ⊎ (of_preset info ≡ as_given field)
    by true j = inl j
    by false j = give_of fields (info.number, preset_of info) field j

-- a field was there, or it is a preset
pub filled_of : (table : List FieldInfo) (fields : List (ℕ × Value)) (field : ℕ × Value) → IsIn field (fold fill fields table) → IsIn field fields ⊎ IsPresetOf table field
filled_of [] fields field i = inl i
filled_of (info ∷ rest) fields field i = by (filled_of rest (fill fields info) field i)
  where
    at : IsIn field fields ⊎ (of_preset info ≡ as_given field) → IsIn field fields ⊎ IsPresetOf (info ∷ rest) field
    at (inl j) = inl j
    at (inr e) = inr (record { info = info; is_in = inl refl; number = ap (λ (f : ℕ × Option Value). f.0) e; value = ap (λ (f : ℕ × Option Value). f.1) e })

    by : IsIn field (fill fields info) ⊎ IsPresetOf rest field → IsIn field fields ⊎ IsPresetOf (info ∷ rest) field
    by (inl j) = at (fill_of fields info field j)
    by (inr p) = inr (record { info = p.info; is_in = inr p.is_in; number = p.number; value = p.value })

-- ---- presets fill what is null

-- a field that is there stays there
fill_keeps : (fields : List (ℕ × Value)) (info : FieldInfo) (number : ℕ) → is_some (field_in fields number) ≡ true → is_some (field_in (fill fields info) number) ≡ true
fill_keeps fields info number there = by (is_some (field_in fields info.number)) refl
  where
    other : is_some (field_in fields info.number) ≡ false → (b : Bool) → nat_eq info.number number ≡ b → is_some (field_in (give fields (info.number, preset_of info)) number) ≡ true
    other none true e = absurd (both_ways (is_some (field_in fields number)) (subst (λ n. is_some (field_in fields n) ≡ false) (eqb-true info.number number e) none) there)
    other none false e = ap is_some (give_other fields number info.number (preset_of info) e) ∙ there

    by : (b : Bool) → is_some (field_in fields info.number) ≡ b → is_some (field_in (if b then fields else give fields (info.number, preset_of info)) number) ≡ true
    by true e = there
    by false e = other e (nat_eq info.number number) refl

pub filled_keep : (table : List FieldInfo) (fields : List (ℕ × Value)) (number : ℕ) → is_some (field_in fields number) ≡ true → is_some (field_in (fold fill fields table) number) ≡ true
filled_keep [] fields number there = there
filled_keep (info ∷ rest) fields number there = filled_keep rest (fill fields info) number (fill_keeps fields info number there)

-- a field with a preset is there
fill_makes : (fields : List (ℕ × Value)) (info : FieldInfo) → is_some (preset_of info) ≡ true → is_some (field_in (fill fields info) info.number) ≡ true
fill_makes fields info some = by (is_some (field_in fields info.number)) refl
  where
    put : (value : Option Value) → is_some value ≡ true → is_some (field_in (give fields (info.number, value)) info.number) ≡ true
    put None s = cc
    put (Some value) s = ap is_some (put_same fields info.number value)

    by : (b : Bool) → is_some (field_in fields info.number) ≡ b → is_some (field_in (if b then fields else give fields (info.number, preset_of info)) info.number) ≡ true
    by true e = e
    by false e = put (preset_of info) some

pub filled_make : (table : List FieldInfo) (fields : List (ℕ × Value)) (info : FieldInfo) → IsIn info table → is_some (preset_of info) ≡ true → is_some (field_in (fold fill fields table) info.number) ≡ true
filled_make [] fields info i some = absurd i
filled_make (first ∷ rest) fields info (inl e) some = filled_keep rest (fill fields first) info.number (subst (λ (f : FieldInfo). is_some (field_in (fill fields first) f.number) ≡ true) e (fill_makes fields first (subst (λ (f : FieldInfo). is_some (preset_of f) ≡ true) (sym e) some)))
filled_make (first ∷ rest) fields info (inr j) some = filled_make rest (fill fields first) info j some
