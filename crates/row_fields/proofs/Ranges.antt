-- What a field of a checked row holds is in the bounds of its kind.
use Rattle.std.proofs.Common.{◌≡◌, ℕ, ℤ, pos, Bool, true, false, ◌&&◌, List, [], ◌∷◌, Option, Some, None, refl, subst, nat_eq, arith}
use Rattle.std.specs.Prelude.{option_and_then, IfSome}
use Rattle.std.specs.List.{list_all}
use Rattle.std.proofs.lemmas.Bool.{eqb-true, leb-true}
use Rattle.std.proofs.lemmas.Int.{ints}
use lib.Signed.{le_z}
use Rattle.shop_defs.specs.declared.day.TheConstants.{LAST_DAY}
use Rattle.shop_defs.specs.declared.entity.Entity.{Entity}
use Rattle.shop_defs.specs.declared.row.Row.{Row}
use Rattle.shop_defs.specs.declared.table.FieldInfo.{FieldInfo}
use Rattle.shop_defs.specs.declared.table.FieldKind.{FieldKind}
use Rattle.shop_defs.specs.declared.table.FieldKind.TheVariants as K
use Rattle.shop_defs.specs.declared.value.Value.{Value}
use Rattle.shop_defs.specs.declared.value.Value.TheVariants as V
use Rattle.shop_defs.specs.Checks.{fits, is_interval}
use Rattle.shop_defs.specs.Fitting.{field_fits, line_fits}
use Rattle.shop_defs.specs.Rows.{field_in, field_of}
use Rattle.shop_defs.specs.Tables.{field_at}
use Rattle.row_fields.specs.Fields.{int_in, text_in, int_at, text_at}
use Rattle.row_fields.specs.Checked.{IsRowOf, HoldsNumbers, HoldsTexts, HasNumbers, HasTexts, Lies, HasLength}

both : (a b : Bool) → (a && b) ≡ true → (a ≡ true) × (b ≡ true)
both true b e = (refl, e)
both false b e = absurd (cc)

-- a value that is found among fields that fit, fits
found_fits : (entity : Entity) (fields : List (ℕ × Value)) (number : ℕ) (value : Value) → list_all (field_fits entity) fields ≡ true → field_in fields number ≡ Some value → line_fits (field_at entity number) value ≡ true
found_fits entity [] number value all found = absurd (cc)
found_fits entity (field ∷ rest) number value all found = by (both _ _ all) (nat_eq field.0 number) refl (found_fits entity rest number value)
  where
    by : (field_fits entity field ≡ true) × (list_all (field_fits entity) rest ≡ true) → (same : Bool) → nat_eq field.0 number ≡ same
        → (list_all (field_fits entity) rest ≡ true → field_in rest number ≡ Some value → line_fits (field_at entity number) value ≡ true) → line_fits (field_at entity number) value ≡ true
    by split true is more =
        let here : field.1 ≡ value = let e = rw is at found in cc in
        rw (← eqb-true field.0 number is, ← here) split.0
    by split false is more = more split.1 (rw is at found)

-- what a checked row holds fits the kind of the field
pub held_fits : (entity : Entity) (row : Row) (number : ℕ) (info : FieldInfo) (value : Value) → IsRowOf entity row → field_at entity number ≡ Some info → field_of row number ≡ Some value → fits info.kind value ≡ true
held_fits entity row number info value is line found =
    let all : list_all (field_fits entity) row.fields ≡ true = subst (λ (e : Entity). list_all (field_fits e) row.fields ≡ true) is.of is.fits in
    let fact = found_fits entity row.fields number value all found in rw line at fact

-- ---- bounds

within : (low high n : ℤ) → (le_z low n && le_z n high) ≡ true → Lies low high n
within low high n e =
    let split = both _ _ e in
    let first : le_z low n ≡ true = split.0 in
    let second : le_z n high ≡ true = split.1 in
    (grind (arith, ints), grind (arith, ints))

of_interval : (n : ℤ) → is_interval n ≡ true → Lies (pos 1) (pos 100) n
of_interval n e = (grind (arith, ints), grind (arith, ints))

-- a number that fits its kind lies within its bounds
number_fits : (kind : FieldKind) (value : Value) (low high n : ℤ) → fits kind value ≡ true → HasNumbers kind low high → int_in value ≡ Some n → Lies low high n
number_fits (K.Int a b) (V.Int m) low high n ok f e = let is : m ≡ n = cc in rw (← is, ← f.0, ← f.1) (within a b m ok)
number_fits K.Interval (V.Int m) low high n ok f e = let is : m ≡ n = cc in rw (← is, ← f.0, ← f.1) (of_interval m ok)
number_fits K.Day (V.Int m) low high n ok f e = let is : m ≡ n = cc in rw (← is, ← f.0, ← f.1) (within (pos 0) LAST_DAY m ok)
number_fits kind value low high n ok f e = absurd (first_of (cc, search f))

text_fits : (kind : FieldKind) (value : Value) (low high : ℕ) (text : List ℕ) → fits kind value ≡ true → HasTexts kind low high → text_in value ≡ Some text → HasLength low high text
text_fits (K.Text a b) (V.Text held) low high text ok f e =
    let is : held ≡ text = cc in
    let split = both _ _ ok in
    rw (← is, ← f.0, ← f.1) (leb-true _ _ split.0, leb-true _ _ split.1)
text_fits kind value low high text ok f e = absurd (first_of (cc, search f))

pub number_within : (entity : Entity) (row : Row) (number : ℕ) (low high : ℤ) → IsRowOf entity row → HoldsNumbers entity number low high → IfSome (int_at row number) (Lies low high)
number_within entity row number low high is holds = by (field_of row number) refl
  where
    at : (value : Value) → field_of row number ≡ Some value → (n : Option ℤ) → int_in value ≡ n → IfSome n (Lies low high)
    at value held None e = tt
    at value held (Some n) e = number_fits holds.info.kind value low high n (held_fits entity row number holds.info value is holds.line held) holds.bounds e

    by : (value : Option Value) → field_of row number ≡ value → IfSome (option_and_then int_in value) (Lies low high)
    by None held = tt
    by (Some value) held = at value held (int_in value) refl

pub text_within : (entity : Entity) (row : Row) (number low high : ℕ) → IsRowOf entity row → HoldsTexts entity number low high → IfSome (text_at row number) (HasLength low high)
text_within entity row number low high is holds = by (field_of row number) refl
  where
    at : (value : Value) → field_of row number ≡ Some value → (text : Option (List ℕ)) → text_in value ≡ text → IfSome text (HasLength low high)
    at value held None e = tt
    at value held (Some text) e = text_fits holds.info.kind value low high text (held_fits entity row number holds.info value is holds.line held) holds.bounds e

    by : (value : Option Value) → field_of row number ≡ value → IfSome (option_and_then text_in value) (HasLength low high)
    by None held = tt
    by (Some value) held = at value held (text_in value) refl
