-- What is of its kind has a place in the kept format.
use Rattle.std.proofs.Common.{◌≡◌, ℕ, ◌+◌, ◌<◌, ◌≤◌, ◌^◌, Bool, true, false, cond, List, [], ◌∷◌, length, Option, Some, None, nat_eq, refl, ap, subst, arith}
use Rattle.std.specs.Prelude.{◌&&◌, ◌||◌, nat_le, nat_lt}
use Rattle.std.specs.List.{list_all, list_any, AllByRecursion}
use Rattle.std.specs.Str.{bytes_eq}
use Rattle.std.proofs.lemmas.Bool.{leb-true, ltb-true, eqb-true}
use Rattle.std.proofs.lemmas.Slice.Eq.{bytes_eq-Decides}
use Rattle.shop_defs.specs.declared.entity.Entity.{Entity}
use Rattle.shop_defs.specs.declared.entity.Entity.TheVariants as E
use Rattle.shop_defs.specs.declared.op.Op.{Op}
use Rattle.shop_defs.specs.declared.row.Row.{Row}
use Rattle.shop_defs.specs.declared.table.FieldInfo.{FieldInfo}
use Rattle.shop_defs.specs.declared.table.FieldKind.{FieldKind}
use Rattle.shop_defs.specs.declared.table.FieldKind.TheVariants as K
use Rattle.shop_defs.specs.declared.value.Value.{Value}
use Rattle.shop_defs.specs.declared.value.Value.TheVariants as V
use Rattle.shop_defs.specs.Checks.{fits, null_or_fits}
use Rattle.shop_defs.specs.Entities.{entity_number}
use Rattle.shop_defs.specs.Fitting.{field_fits, given_fits, line_fits, line_given_fits, op_fits, parts_fit, row_key_fits}
use Rattle.shop_defs.specs.Tables.{fields_of, number_in}
use Rattle.shop_defs.specs.Texts.{choice_texts}
use Rattle.shop_defs.proofs.EachLine.{of_fields}
use Rattle.shop_kept.specs.Spelling.{rises, FitsValue, FitsGiven, FitsField, FitFields, FitsOp}
use Rattle.shop_check.specs.Kinds.{is_change, has_versions, has_changes, ops_fit, KindsAreKept}

-- ---- the tables

-- texts that a field of the kind may hold are shorter than 2^32 bytes
abbrev holds_short : FieldKind → Bool
holds_short (K.Text low high) = nat_le high 4294967295
holds_short (K.Choice choice) = list_all (λ word. nat_le (length word) 4294967295) (choice_texts choice)
holds_short kind = true

-- the number of the field is a byte, and its texts are short
abbrev is_narrow : FieldInfo → Bool
is_narrow field = nat_le field.number 255 && holds_short field.kind

all_narrow : (entity : Entity) → list_all is_narrow (fields_of entity) ≡ true
unfolding fields_of
all_narrow = of_fields (λ entity field. is_narrow field) refl

both : (a b : Bool) → (a && b) ≡ true → (a ≡ true) × (b ≡ true)
both true true e = (refl, refl)
both true false e = absurd cc
both false b e = absurd cc

-- what holds of each line holds of the one that is found, which has the number
found_line : (rule : FieldInfo → Bool) (table : List FieldInfo) (number : ℕ) (field : FieldInfo) → list_all rule table ≡ true → number_in table number ≡ Some field
    → (rule field ≡ true) × (field.number ≡ number)
found_line rule [] number field all found = absurd cc
found_line rule (first ∷ rest) number field all found = by (found_line rule rest number field) (nat_eq first.number number) refl (both (rule first) (list_all rule rest) all) found
  where
    by : (list_all rule rest ≡ true → number_in rest number ≡ Some field → (rule field ≡ true) × (field.number ≡ number)) → (same : Bool) → nat_eq first.number number ≡ same → (rule first ≡ true) × (list_all rule rest ≡ true) → cond same (Some first) (number_in rest number) ≡ Some field → (rule field ≡ true) × (field.number ≡ number)
    by more true same halves found = let is : first ≡ field = cc in subst (λ (line : FieldInfo). (rule line ≡ true) × (line.number ≡ number)) is (halves.0, eqb-true first.number number same)
    by more false same halves found = more halves.1 found

-- ---- values

short_word : (words : List (List ℕ)) (text : List ℕ) → list_all (λ word. nat_le (length word) 4294967295) words ≡ true → list_any (λ word. bytes_eq word text) words ≡ true → length text < 2 ^ 32
short_word [] text short found = absurd cc
short_word (word ∷ words) text short found = by (short_word words text) (bytes_eq word text) refl (both (nat_le (length word) 4294967295) (list_all (λ word. nat_le (length word) 4294967295) words) short) found
  where
    by : (list_all (λ word. nat_le (length word) 4294967295) words ≡ true → list_any (λ word. bytes_eq word text) words ≡ true → length text < 2 ^ 32) → (same : Bool) → bytes_eq word text ≡ same → (nat_le (length word) 4294967295 ≡ true) × (list_all (λ word. nat_le (length word) 4294967295) words ≡ true)
        → (same || list_any (λ word. bytes_eq word text) words) ≡ true → length text < 2 ^ 32
    by more true same halves found =
        let is : word ≡ text = (bytes_eq-Decides word text).0 same in
        let bound : length word ≤ 4294967295 = leb-true (length word) 4294967295 halves.0 in
        let equal : length word ≡ length text = ap length is in
        omega arith
    by more false same halves found = more halves.1 found

text_is_short : (kind : FieldKind) (text : List ℕ) → holds_short kind ≡ true → fits kind (V.Text text) ≡ true → length text < 2 ^ 32
text_is_short K.Flag text short holds = absurd cc
text_is_short (K.Int low high) text short holds = absurd cc
text_is_short K.Interval text short holds = absurd cc
text_is_short (K.Text low high) text short holds =
    let most : high ≤ 4294967295 = leb-true high 4294967295 short in
    let length : length text ≤ high = leb-true (length text) high (both (nat_le low (length text)) (nat_le (length text) high) holds).1 in
    omega arith
text_is_short (K.Choice choice) text short holds = short_word (choice_texts choice) text short holds
text_is_short (K.Id entity) text short holds = absurd cc
text_is_short K.Loose text short holds = absurd cc
text_is_short K.Day text short holds = absurd cc

value_is_short : (kind : FieldKind) (value : Value) → holds_short kind ≡ true → fits kind value ≡ true → FitsValue value
value_is_short kind (V.Flag flag) short holds = tt
value_is_short kind (V.Int number) short holds = tt
value_is_short kind (V.Text text) short holds = text_is_short kind text short holds
value_is_short kind (V.Ident id) short holds = tt

given_is_short : (kind : FieldKind) (value : Option Value) → holds_short kind ≡ true → null_or_fits kind value ≡ true → FitsGiven value
given_is_short kind None short holds = tt
given_is_short kind (Some value) short holds = value_is_short kind value short holds

-- ---- fields

-- the number is a byte, and what stands beside it fits
abbrev IsNarrow : {X : Type 0} → (X → Type 0) → ℕ × X → Type 0
IsNarrow Fits field = (field.0 ≤ 255) × Fits field.1

narrow_number : (field : FieldInfo) (number : ℕ) → is_narrow field ≡ true → field.number ≡ number → (number ≤ 255) × (holds_short field.kind ≡ true)
narrow_number field number narrow same =
    let halves = both (nat_le field.number 255) (holds_short field.kind) narrow in
    let bound : field.number ≤ 255 = leb-true field.number 255 halves.0 in
    (omega arith, halves.1)

field_is_narrow : (entity : Entity) (field : ℕ × Value) → field_fits entity field ≡ true → IsNarrow FitsValue field
field_is_narrow entity field holds = by (number_in (fields_of entity) field.0) refl holds
  where
    by : (line : Option FieldInfo) → number_in (fields_of entity) field.0 ≡ line → line_fits line field.1 ≡ true → IsNarrow FitsValue field
    by None found holds = absurd cc
    by (Some info) found holds =
        let line = found_line is_narrow (fields_of entity) field.0 info (all_narrow entity) found in
        let narrow = narrow_number info field.0 line.0 line.1 in
        (narrow.0, value_is_short info.kind field.1 narrow.1 holds)

given_is_narrow : (entity : Entity) (field : ℕ × Option Value) → given_fits entity field ≡ true → IsNarrow FitsGiven field
given_is_narrow entity field holds = by (number_in (fields_of entity) field.0) refl holds
  where
    by : (line : Option FieldInfo) → number_in (fields_of entity) field.0 ≡ line → line_given_fits line field.1 ≡ true → IsNarrow FitsGiven field
    by None found holds = absurd cc
    by (Some info) found holds =
        let line = found_line is_narrow (fields_of entity) field.0 info (all_narrow entity) found in
        let narrow = narrow_number info field.0 line.0 line.1 in
        (narrow.0, given_is_short info.kind field.1 narrow.1 holds)

-- what each test says holds of each
each : {X : Type 0} (test : X → Bool) (P : X → Type 0) (xs : List X) → ((x : X) → test x ≡ true → P x) → list_all test xs ≡ true → AllByRecursion P xs
each test P [] says all = tt
each test P (x ∷ xs) says all = let halves = both (test x) (list_all test xs) all in (says x halves.0, each test P xs says halves.1)

all_fit : {X : Type 0} (Fits : X → Type 0) (fields : List (ℕ × X)) → AllByRecursion (IsNarrow Fits) fields → AllByRecursion (FitsField Fits) fields
all_fit Fits [] all = tt
all_fit Fits (field ∷ fields) all = (all.0.1, all_fit Fits fields all.1)

rises_on : {X : Type 0} (above : ℕ) (field : ℕ × X) (fields : List (ℕ × X)) → rises above (field ∷ fields) ≡ true → (above < field.0) × (rises field.0 fields ≡ true)
rises_on above field fields rising = by (nat_lt above field.0) refl rising
  where
    by : (is : Bool) → nat_lt above field.0 ≡ is → cond is (rises field.0 fields) false ≡ true → (above < field.0) × (rises field.0 fields ≡ true)
    by true is rising = (ltb-true above field.0 is, rising)
    by false is rising = absurd cc

-- numbers of a byte that rise are not many
length_of_rising : {X : Type 0} (Fits : X → Type 0) (above : ℕ) (fields : List (ℕ × X)) → above ≤ 255 → rises above fields ≡ true → AllByRecursion (IsNarrow Fits) fields → length fields + above ≤ 255
length_of_rising Fits above [] bound rising all = omega arith
length_of_rising Fits above (field ∷ fields) bound rising all =
    let next = rises_on above field fields rising in
    let more : length fields + field.0 ≤ 255 = length_of_rising Fits field.0 fields all.0.0 next.1 all.1 in
    let less : above < field.0 = next.0 in
    omega arith

fit_fields : {X : Type 0} (Fits : X → Type 0) (fields : List (ℕ × X)) → rises 0 fields ≡ true → AllByRecursion (IsNarrow Fits) fields → FitFields Fits fields
fit_fields Fits fields rising all =
    let few : length fields + 0 ≤ 255 = length_of_rising Fits 0 fields (omega arith) rising all in
    (omega arith, all_fit Fits fields all, rising)

-- ---- operations

fits_op : (op : Op) → rises 0 op.fields ≡ true → is_change op ≡ true → FitsOp op
fits_op op rising change =
    let fitting = (both (has_versions op.entity) (op_fits op) change).1 in
    let given = (both (parts_fit op.entity op.id op.second) (list_all (given_fits op.entity) op.fields) fitting).1 in
    fit_fields FitsGiven op.fields rising (each (given_fits op.entity) (IsNarrow FitsGiven) op.fields (given_is_narrow op.entity) given)

fit_each : (ops : List Op) → AllByRecursion (λ op. rises 0 op.fields ≡ true) ops → list_all is_change ops ≡ true → AllByRecursion FitsOp ops
fit_each [] rising all = tt
fit_each (op ∷ ops) rising all = let halves = both (is_change op) (list_all is_change ops) all in (fits_op op rising.0 halves.0, fit_each ops rising.1 halves.1)

none_fit : (ops : List Op) → nat_eq (length ops) 0 ≡ true → AllByRecursion FitsOp ops
none_fit [] none = tt
none_fit (op ∷ ops) none = let zero : length (op ∷ ops) ≡ 0 = eqb-true (length (op ∷ ops)) 0 none in absurd (omega arith)

all_ops_fit : (row : Row) (is_commit : Bool) → AllByRecursion (λ op. rises 0 op.fields ≡ true) row.ops → cond is_commit (has_changes row) (nat_eq (length row.ops) 0) ≡ true → AllByRecursion FitsOp row.ops
all_ops_fit row true rising holds = fit_each row.ops rising (both _ _ holds).1
all_ops_fit row false rising holds = none_fit row.ops holds

pub kinds_are_kept : KindsAreKept
kinds_are_kept row rising few kind =
    let parts = both (row_key_fits row.key) (list_all (field_fits row.key.entity) row.fields && ops_fit row) kind in
    let halves = both (list_all (field_fits row.key.entity) row.fields) (ops_fit row) parts.1 in (
      fit_fields FitsValue row.fields rising.fields (each (field_fits row.key.entity) (IsNarrow FitsValue) row.fields (field_is_narrow row.key.entity) halves.0),
      (few, all_ops_fit row (nat_eq (entity_number row.key.entity) (entity_number E.DraftCommit)) rising.ops halves.1),
    )
