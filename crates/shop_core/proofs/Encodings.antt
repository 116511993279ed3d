-- The rows that a batch leaves have a spelling where its parts are in the ranges of their types.
use Rattle.std.proofs.Common.{◌≡◌, ℕ, zero, suc, ℤ, pos, negsuc, ◌<◌, ◌≤◌, ◌^◌, ◌⊎◌, inl, inr, Bool, true, false, cond, List, [], ◌∷◌, Option, Some, None, if◌then◌else◌, Ok, refl, sym, ap, subst, ◌∙◌, arith}
use Rattle.std.specs.Prelude.{◌&&◌, nat_eq, nat_le, nat_lt}
use Rattle.std.specs.Int.{w64}
use Rattle.std.specs.Int.RustNames.{FitsSigned}
use Rattle.std.specs.List.{fold, list_all, AllByRecursion}
use Rattle.std.specs.Option.{option_map}
use Rattle.std.specs.Str.{is_utf8, bytes_eq, IsAscii}
use Rattle.std.proofs.lemmas.Bool.{and_parts, leb-true, ltb-true, eqb-true}
use Rattle.std.proofs.lemmas.Int.{ints}
use Rattle.std.proofs.lemmas.Str.{is_utf8-from_IsUtf8, IsUtf8-from_ascii}
use lib.Signed.{le_z}
use Rattle.closure.specs.Closure.{IsIn}
use Rattle.closure.proofs.Members.{all_at}
use Rattle.shop_defs.specs.declared.broken.Broken.{Broken}
use Rattle.shop_defs.specs.declared.entity.Entity.{Entity}
use Rattle.shop_defs.specs.declared.op.Op.{Op}
use Rattle.shop_requests.specs.declared.raw.RawOp.{RawOp}
use Rattle.shop_defs.specs.declared.row.Row.{Row}
use Rattle.shop_defs.specs.declared.table.EntityInfo.{EntityInfo}
use Rattle.shop_defs.specs.declared.table.FieldInfo.{FieldInfo}
use Rattle.shop_defs.specs.declared.table.FieldKind.{FieldKind}
use Rattle.shop_defs.specs.declared.table.FieldKind.TheVariants as K
use Rattle.shop_requests.specs.declared.raw.Raw.{Raw}
use Rattle.shop_requests.specs.declared.raw.Raw.TheVariants as R
use Rattle.shop_defs.specs.declared.value.Value.{Value}
use Rattle.shop_defs.specs.declared.value.Value.TheVariants as V
use Rattle.shop_requests.specs.Checks.{kept}
use Rattle.shop_defs.specs.Checks.{fits}
use Rattle.shop_defs.specs.Fitting.{field_fits, line_fits}
use Rattle.shop_requests.specs.Ids.{id_of}
use Rattle.shop_requests.specs.Days.{day_of}
use Rattle.shop_requests.specs.Operations.{Given, given, read_in, read, refusal, unless_refused, if_writable, reading_as, reading}
use Rattle.shop_defs.specs.Presets.{preset_of}
use Rattle.shop_defs.specs.Tables.{fields_of, number_in, info_named}
use Rattle.shop_defs.specs.Texts.{field_text}
use Rattle.shop_defs.proofs.EachLine.{of_fields}
use Rattle.shop_requests.proofs.IdTexts.{id_fits}
use Rattle.shop_kept.specs.Spelling.{FitsValue, FitsField, IsValue, IsField, IsKeptRow, AreOps}
use Rattle.shop_soundness.specs.Batches.{live_batch}
use Rattle.shop_operations.specs.References.{live}
use Rattle.shop_operations.specs.Views.{live_view}
use Rattle.shop_soundness.specs.Origins.{HadField, IsGivenIn, IsPreset}
use Rattle.shop_soundness.proofs.Made.{batches_make_up_nothing}
use Rattle.shop_soundness.proofs.Lists.{no_some, of_each, each_of}
use Rattle.shop_check.specs.Soundness.{AreSound}
use Rattle.shop_core.specs.Ranges.{IsRaw, IsRawOp}
use Rattle.shop_core.proofs.RowForms.{formed_fits}
use Rattle.shop_core.proofs.Batches.{AreLeft, live_sound}

-- ---- the tables

-- numbers that a field of the kind may hold are of 64 bits
abbrev holds_numbers : FieldKind → Bool
holds_numbers (K.Int low high) = le_z (negsuc 9223372036854775807) low && le_z high (pos 9223372036854775807)
holds_numbers kind = true

abbrev is_ascii : List ℕ → Bool
is_ascii text = list_all (λ byte. nat_lt byte 128) text

-- it is a plain text, or no text and no id
abbrev is_plain : Option Value → Bool
is_plain (Some (V.Text text)) = is_ascii text
is_plain (Some (V.Ident id)) = false
is_plain value = true

-- the number of the field is a byte, its numbers are of 64 bits, and its preset is plain
abbrev is_ranged : FieldInfo → Bool
is_ranged field = nat_le field.number 255 && (holds_numbers field.kind && is_plain (preset_of field))

all_ranged : (entity : Entity) → list_all is_ranged (fields_of entity) ≡ true
unfolding fields_of
all_ranged = of_fields (λ entity field. is_ranged field) refl

-- what holds of each line holds of the one that is found, which has the number
found_line : (rule : FieldInfo → Bool) (table : List FieldInfo) (number : ℕ) (field : FieldInfo) → list_all rule table ≡ true → number_in table number ≡ Some field → (rule field ≡ true) × (field.number ≡ number)
found_line rule [] number field all found = absurd cc
found_line rule (first ∷ rest) number field all found = by (found_line rule rest number field) (nat_eq first.number number) refl (and_parts (rule first) (list_all rule rest) all) found
  where
    by : (list_all rule rest ≡ true → number_in rest number ≡ Some field → (rule field ≡ true) × (field.number ≡ number)) → (same : Bool) → nat_eq first.number number ≡ same → (rule first ≡ true) × (list_all rule rest ≡ true) → cond same (Some first) (number_in rest number) ≡ Some field → (rule field ≡ true) × (field.number ≡ number)
    by more true same halves found = let is : first ≡ field = cc in subst (λ (line : FieldInfo). (rule line ≡ true) × (line.number ≡ number)) is (halves.0, eqb-true first.number number same)
    by more false same halves found = more halves.1 found

-- ---- values

-- a text is one, and an id is of 128 bits
abbrev IsSpelled : Value → Type 0
IsSpelled (V.Flag flag) = Unit {0}
IsSpelled (V.Int number) = Unit {0}
IsSpelled (V.Text text) = is_utf8 text ≡ true
IsSpelled (V.Ident id) = id < 2 ^ 128

number_is_ranged : (kind : FieldKind) (number : ℤ) → holds_numbers kind ≡ true → fits kind (V.Int number) ≡ true → FitsSigned w64 number
number_is_ranged K.Flag number wide holds = absurd cc
number_is_ranged (K.Int low high) number wide holds = grind (arith, ints)
number_is_ranged K.Interval number wide holds = grind (arith, ints)
number_is_ranged (K.Text low high) number wide holds = absurd cc
number_is_ranged (K.Choice choice) number wide holds = absurd cc
number_is_ranged (K.Id entity) number wide holds = absurd cc
number_is_ranged K.Loose number wide holds = absurd cc
number_is_ranged K.Day number wide holds = grind (arith, ints)

value_is_ranged : (kind : FieldKind) (value : Value) → holds_numbers kind ≡ true → fits kind value ≡ true → FitsValue value → IsSpelled value → IsValue value
value_is_ranged kind (V.Flag flag) wide holds short spelled = tt
value_is_ranged kind (V.Int number) wide holds short spelled = number_is_ranged kind number wide holds
value_is_ranged kind (V.Text text) wide holds short spelled = (short, spelled)
value_is_ranged kind (V.Ident id) wide holds short spelled = spelled

field_is_ranged : (entity : Entity) (field : ℕ × Value) → field_fits entity field ≡ true → FitsValue field.1 → IsSpelled field.1 → IsField IsValue field
field_is_ranged entity field holds short spelled = by (number_in (fields_of entity) field.0) refl holds
  where
    by : (line : Option FieldInfo) → number_in (fields_of entity) field.0 ≡ line → line_fits line field.1 ≡ true → IsField IsValue field
    by None found holds = absurd cc
    by (Some info) found holds =
        let line = found_line is_ranged (fields_of entity) field.0 info (all_ranged entity) found in
        let parts = and_parts (nat_le info.number 255) (holds_numbers info.kind && is_plain (preset_of info)) line.0 in
        let bound : info.number ≤ 255 = leb-true info.number 255 parts.0 in
        let same : info.number ≡ field.0 = line.1 in
        (omega arith, value_is_ranged info.kind field.1 (and_parts (holds_numbers info.kind) (is_plain (preset_of info)) parts.1).0 holds short spelled)

-- ---- where values come from

-- a preset
ascii_at : (text : List ℕ) → is_ascii text ≡ true → IsAscii text
ascii_at [] plain i = omega arith
ascii_at (byte ∷ text) plain zero = ltb-true byte 128 (and_parts (nat_lt byte 128) (is_ascii text) plain).0
ascii_at (byte ∷ text) plain (suc i) = ascii_at text (and_parts (nat_lt byte 128) (is_ascii text) plain).1 i

preset_is_spelled : (value : Value) → is_plain (Some value) ≡ true → IsSpelled value
preset_is_spelled (V.Flag flag) holds = tt
preset_is_spelled (V.Int number) holds = tt
preset_is_spelled (V.Text text) holds = is_utf8-from_IsUtf8 text (IsUtf8-from_ascii text (ascii_at text holds))
preset_is_spelled (V.Ident id) holds = absurd cc

of_preset : (row : Row) (field : ℕ × Value) → IsPreset row.key field → IsSpelled field.1
of_preset row field preset =
    let line = all_at is_ranged (fields_of row.key.entity) preset.info (all_ranged row.key.entity) preset.is_in in
    let parts = and_parts (nat_le preset.info.number 255) (holds_numbers preset.info.kind && is_plain (preset_of preset.info)) line in
    let holds : is_plain (preset_of preset.info) ≡ true = (and_parts (holds_numbers preset.info.kind) (is_plain (preset_of preset.info)) parts.1).1 in
    preset_is_spelled field.1 (subst (λ (value : Option Value). is_plain value ≡ true) preset.value holds)

-- what is kept of what a request gives
id_is_spelled : (text : List ℕ) (found : Option ℕ) (value : Value) → id_of text ≡ found → option_map V.Ident found ≡ Some value → IsSpelled value
id_is_spelled text None value read kept = absurd cc
id_is_spelled text (Some id) value read kept = let is : V.Ident id ≡ value = cc in subst IsSpelled is (id_fits text id read)

day_is_spelled : (found : Option ℤ) (value : Value) → option_map V.Int found ≡ Some value → IsSpelled value
day_is_spelled None value kept = absurd cc
day_is_spelled (Some day) value kept = let is : V.Int day ≡ value = cc in subst IsSpelled is tt

text_is_spelled : (text : List ℕ) (value : Value) → is_utf8 text ≡ true → Some (V.Text text) ≡ Some value → IsSpelled value
text_is_spelled text value right kept = let is : V.Text text ≡ value = cc in subst IsSpelled is right

-- nothing is kept of null, of a number past 64 bits, or of what is no value of a field
kept_null : (kind : FieldKind) → kept kind R.Null ≡ None
kept_null K.Flag = refl
kept_null (K.Int low high) = refl
kept_null K.Interval = refl
kept_null (K.Text low high) = refl
kept_null (K.Choice choice) = refl
kept_null (K.Id entity) = refl
kept_null K.Loose = refl
kept_null K.Day = refl

kept_big : (kind : FieldKind) (number : ℕ) → kept kind (R.Big number) ≡ None
kept_big K.Flag number = refl
kept_big (K.Int low high) number = refl
kept_big K.Interval number = refl
kept_big (K.Text low high) number = refl
kept_big (K.Choice choice) number = refl
kept_big (K.Id entity) number = refl
kept_big K.Loose number = refl
kept_big K.Day number = refl

kept_other : (kind : FieldKind) → kept kind R.Other ≡ None
kept_other K.Flag = refl
kept_other (K.Int low high) = refl
kept_other K.Interval = refl
kept_other (K.Text low high) = refl
kept_other (K.Choice choice) = refl
kept_other (K.Id entity) = refl
kept_other K.Loose = refl
kept_other K.Day = refl

kept_int : (kind : FieldKind) (number : ℤ) → kept kind (R.Int number) ≡ Some (V.Int number)
kept_int K.Flag number = refl
kept_int (K.Int low high) number = refl
kept_int K.Interval number = refl
kept_int (K.Text low high) number = refl
kept_int (K.Choice choice) number = refl
kept_int (K.Id entity) number = refl
kept_int K.Loose number = refl
kept_int K.Day number = refl

kept_flag : (kind : FieldKind) (flag : Bool) → kept kind (R.Flag flag) ≡ Some (V.Flag flag)
kept_flag K.Flag flag = refl
kept_flag (K.Int low high) flag = refl
kept_flag K.Interval flag = refl
kept_flag (K.Text low high) flag = refl
kept_flag (K.Choice choice) flag = refl
kept_flag (K.Id entity) flag = refl
kept_flag K.Loose flag = refl
kept_flag K.Day flag = refl

raw_is_spelled : (kind : FieldKind) (raw : Raw) (value : Value) → IsRaw raw → kept kind raw ≡ Some value → IsSpelled value
raw_is_spelled (K.Id entity) (R.Text text) value right is = id_is_spelled text (id_of text) value refl is
raw_is_spelled K.Loose (R.Text text) value right is = id_is_spelled text (id_of text) value refl is
raw_is_spelled K.Day (R.Text text) value right is = day_is_spelled (day_of text) value is
raw_is_spelled K.Flag (R.Text text) value right is = text_is_spelled text value right is
raw_is_spelled (K.Int low high) (R.Text text) value right is = text_is_spelled text value right is
raw_is_spelled K.Interval (R.Text text) value right is = text_is_spelled text value right is
raw_is_spelled (K.Text low high) (R.Text text) value right is = text_is_spelled text value right is
raw_is_spelled (K.Choice choice) (R.Text text) value right is = text_is_spelled text value right is
raw_is_spelled kind (R.Int number) value right is = let same : V.Int number ≡ value = cc (kept_int kind number) in subst IsSpelled same tt
raw_is_spelled kind (R.Flag flag) value right is = let same : V.Flag flag ≡ value = cc (kept_flag kind flag) in subst IsSpelled same tt
raw_is_spelled kind R.Null value right is = absurd (no_some value (sym (kept_null kind) ∙ is))
raw_is_spelled kind (R.Big number) value right is = absurd (no_some value (sym (kept_big kind number) ∙ is))
raw_is_spelled kind R.Other value right is = absurd (no_some value (sym (kept_other kind) ∙ is))

-- what is given for a name is one of the fields that are given
given_is_raw : (fields : List Given) (name : List ℕ) (found : Option Raw) (raw : Raw) → AllByRecursion (λ field. IsRaw field.1) fields → ((other : Raw) → found ≡ Some other → IsRaw other)
    → fold (λ found field. if bytes_eq field.0 name then Some field.1 else found) found fields ≡ Some raw → IsRaw raw
given_is_raw [] name found raw all start is = start raw is
given_is_raw (field ∷ rest) name found raw all start is = given_is_raw rest name (if bytes_eq field.0 name then Some field.1 else found) raw all.1 (by (bytes_eq field.0 name)) is
  where
    by : (same : Bool) → (other : Raw) → (if same then Some field.1 else found) ≡ Some other → IsRaw other
    by true other chosen = let is : field.1 ≡ other = cc in subst IsRaw is all.0
    by false other chosen = start other chosen

read_is_spelled : (table : List FieldInfo) (fields : List Given) (number : ℕ) (value : Value) → AllByRecursion (λ field. IsRaw field.1) fields → IsIn (number, Some value) (read_in table fields) → IsSpelled value
read_is_spelled [] fields number value all i = absurd i
read_is_spelled (info ∷ rest) fields number value all i = by (read_is_spelled rest fields number value all) (given fields (field_text info.name)) refl i
  where
    first : (raw : Raw) → given fields (field_text info.name) ≡ Some raw → (let entry : ℕ × Option Value = (info.number, kept info.kind raw) in entry) ≡ (number, Some value) → IsSpelled value
    first raw found e =
        raw_is_spelled info.kind raw value (given_is_raw fields (field_text info.name) None raw all (λ other none. absurd cc) found) (ap (λ (entry : ℕ × Option Value). entry.1) e)

    by : (IsIn (number, Some value) (read_in rest fields) → IsSpelled value) → (raw : Option Raw) → given fields (field_text info.name) ≡ raw → IsIn (number, Some value) (read_in (info ∷ rest) fields) → IsSpelled value
    by more None found i = more (rw found at i)
    by more (Some raw) found i = ends (rw found at i)
      where
        ends : ((let entry : ℕ × Option Value = (info.number, kept info.kind raw) in entry) ≡ (number, Some value)) ⊎ IsIn (number, Some value) (read_in rest fields) → IsSpelled value
        ends (inl e) = first raw found e
        ends (inr j) = more j

op_is_spelled : (raw : RawOp) (op : Op) (number : ℕ) (value : Value) → IsRawOp raw → reading raw ≡ Ok op → IsIn (number, Some value) op.fields → IsSpelled value
unfolding reading read
op_is_spelled raw op number value right is i = by (if_writable (info_named raw.entity)) is
  where
    read_as : (info : EntityInfo) (rule : Option Broken) → unless_refused rule (read info raw) ≡ Ok op → IsSpelled value
    read_as info None is =
        let same : read info raw ≡ op = cc in
        read_is_spelled (fields_of info.entity) raw.fields number value right.fields (subst (λ (o : Op). IsIn (number, Some value) o.fields) (sym same) i)
    read_as info (Some broken) is = absurd cc

    by : (line : Option EntityInfo) → reading_as line raw ≡ Ok op → IsSpelled value
    by None is = absurd cc
    by (Some info) is = read_as info (refusal info raw) is

-- ---- rows

module _ (rows now : List Row) (ops : List RawOp) (sound : AreSound rows) (ranged : AllByRecursion IsRawOp ops) (done : live_batch rows ops ≡ Ok now) (left : AreLeft rows now) where
  had_field : (row : Row) (field : ℕ × Value) → HadField (live rows) row.key field → IsField IsValue field
  had_field row field had = of_each (IsField IsValue) had.row.fields field (live_sound rows sound had.row had.is_in).encoding.0.1 had.has

  given_field : (row : Row) (field : ℕ × Value) → IsGivenIn ops row.key field → IsSpelled field.1
  given_field row field from = op_is_spelled from.raw from.op field.0 field.1 (of_each IsRawOp ops from.raw ranged from.is_in) from.read from.given.gives

  left_field : (row : Row) (field : ℕ × Value) → IsIn row now → IsIn field row.fields → IsField IsValue field
  left_field row field i j = by ((batches_make_up_nothing (live_view rows) 1 ops now done).fields row field i j)
    where
      ranged_field : IsSpelled field.1 → IsField IsValue field
      ranged_field spelled =
          field_is_ranged row.key.entity field (all_at (field_fits row.key.entity) row.fields field (left.formed row i).fields j)
          (of_each (FitsField FitsValue) row.fields field (formed_fits row (left.formed row i) (left.written row i)).0.1 j) spelled

      by : HadField (live rows) row.key field ⊎ (IsGivenIn ops row.key field ⊎ IsPreset row.key field) → IsField IsValue field
      by (inl had) = had_field row field had
      by (inr (inl from)) = ranged_field (given_field row field from)
      by (inr (inr preset)) = ranged_field (of_preset row field preset)

  -- each of the rows has a spelling
  pub left_is_kept : (row : Row) → IsIn row now → IsKeptRow row
  left_is_kept row i =
      let placed = formed_fits row (left.formed row i) (left.written row i) in
      let none : row.ops ≡ [] = (left.formed row i).ops in
      ((placed.0.0, each_of (IsField IsValue) row.fields (λ field j. left_field row field i j), placed.0.2), subst AreOps (sym none) (omega arith, tt))
