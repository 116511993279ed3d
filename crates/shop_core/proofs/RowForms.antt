-- Sound rows that operations may write are well formed; and live ones that are well formed and kept are sound.
use Rattle.std.proofs.Common.{◌≡◌, ℕ, ◌<◌, ◌^◌, Bool, true, false, cond, List, [], ◌∷◌, length, refl, sym, subst, arith}
use Rattle.std.specs.Prelude.{◌&&◌, not, nat_eq, nat_lt}
use Rattle.std.specs.List.{list_all, AllByRecursion}
use Rattle.std.specs.Ordering.{nat_cmp}
use Rattle.std.specs.declared.cmp.Ordering.TheVariants.{Less}
use Rattle.std.proofs.lemmas.Bool.{and_parts, ltb-true, lt-ltb, eqb-true}
use Rattle.keyed.specs.Keyed.{Ascends}
use Rattle.shop_defs.specs.declared.entity.Entity.{Entity}
use Rattle.shop_defs.specs.declared.entity.Entity.TheVariants as E
use Rattle.shop_defs.specs.declared.op.Op.{Op}
use Rattle.shop_defs.specs.declared.row.Row.{Row}
use Rattle.shop_defs.specs.declared.value.Value.{Value}
use Rattle.shop_defs.specs.Entities.{entity_number}
use Rattle.shop_defs.specs.Fitting.{field_fits, is_writable, row_key_fits}
use Rattle.shop_defs.specs.Tables.{info_of}
use Rattle.shop_defs.proofs.EachLine.{each_entity}
use Rattle.shop_kept.specs.Spelling.{rises, FitsRow, IsKeptRow}
use Rattle.shop_kept.proofs.Fitting.{rises_ascending}
use Rattle.shop_operations.specs.References.{is_live}
use Rattle.shop_operations.specs.Upserts.{field_number}
use Rattle.shop_soundness.specs.WellFormed.{IsWellFormed}
use Rattle.shop_check.specs.Kinds.{has_changes, ops_fit, is_of_its_kind, is_served}
use Rattle.shop_check.specs.Soundness.{IsSoundRow}
use Rattle.shop_check.proofs.KeptKinds.{kinds_are_kept}

both : (a b : Bool) → a ≡ true → b ≡ true → (a && b) ≡ true
both a b e f = rw e f

-- ---- numbers that rise

rises_on : (above : ℕ) (field : ℕ × Value) (fields : List (ℕ × Value)) → rises above (field ∷ fields) ≡ true → (above < field.0) × (rises field.0 fields ≡ true)
rises_on above field fields rising = by (nat_lt above field.0) refl rising
  where
    by : (is : Bool) → nat_lt above field.0 ≡ is → cond is (rises field.0 fields) false ≡ true → (above < field.0) × (rises field.0 fields ≡ true)
    by true is rising = (ltb-true above field.0 is, rising)
    by false is rising = absurd cc

-- numbers that rise from above one are above each lower one
all_above : (low above : ℕ) (fields : List (ℕ × Value)) → low < above → rises above fields ≡ true → AllByRecursion (λ field. low < field_number field) fields
all_above low above [] less rising = tt
all_above low above (field ∷ fields) less rising =
    let next = rises_on above field fields rising in
    let first : above < field.0 = next.0 in
    (omega arith, all_above low field.0 fields (omega arith) next.1)

less_cmp : (a b : ℕ) → a < b → nat_cmp a b ≡ Less
less_cmp a b less = rw (lt-ltb a b less) refl

-- numbers that rise from a number on are each above it, and ascend
above_rising : (above : ℕ) (fields : List (ℕ × Value)) → rises above fields ≡ true → AllByRecursion (λ field. above < field_number field) fields
above_rising above [] rising = tt
above_rising above (field ∷ fields) rising = let next = rises_on above field fields rising in (next.0, all_above above field.0 fields next.0 next.1)

cmp_all : (low : ℕ) (fields : List (ℕ × Value)) → AllByRecursion (λ field. low < field_number field) fields → AllByRecursion (λ field. nat_cmp low (field_number field) ≡ Less) fields
cmp_all low [] all = tt
cmp_all low (field ∷ fields) all = (less_cmp low field.0 all.0, cmp_all low fields all.1)

ascending_rising : (above : ℕ) (fields : List (ℕ × Value)) → rises above fields ≡ true → Ascends nat_cmp field_number fields
ascending_rising above [] rising = tt
ascending_rising above (field ∷ fields) rising =
    let next = rises_on above field fields rising in
    (cmp_all field.0 fields (above_rising field.0 fields next.1), ascending_rising field.0 fields next.1)

-- ---- operations

-- commits of drafts aren't written by operations
no_commit : (entity : Entity) → is_writable entity ≡ true → nat_eq (entity_number entity) (entity_number E.DraftCommit) ≡ false
unfolding info_of
no_commit entity writable = by (is_writable entity) (nat_eq (entity_number entity) (entity_number E.DraftCommit)) writable (each_entity (λ of. not (is_writable of && nat_eq (entity_number of) (entity_number E.DraftCommit))) refl entity)
  where
    by : (writable commit : Bool) → writable ≡ true → not (writable && commit) ≡ true → commit ≡ false
    by true true e f = absurd cc
    by true false e f = refl
    by false commit e f = absurd cc

no_ops : (ops : List Op) → nat_eq (length ops) 0 ≡ true → ops ≡ []
no_ops [] none = refl
no_ops (op ∷ ops) none = let zero : length (op ∷ ops) ≡ 0 = eqb-true (length (op ∷ ops)) 0 none in absurd (omega arith)

has_no_ops : (row : Row) → is_writable row.key.entity ≡ true → ops_fit row ≡ true → row.ops ≡ []
has_no_ops row writable fits = no_ops row.ops (subst (λ (b : Bool). cond b (has_changes row) (nat_eq (length row.ops) 0) ≡ true) (no_commit row.key.entity writable) fits)

fits_no_ops : (row : Row) → is_writable row.key.entity ≡ true → row.ops ≡ [] → ops_fit row ≡ true
fits_no_ops row writable none = rw (no_commit row.key.entity writable, none) refl

-- ---- rows

-- a sound row is live, and operations may write it
pub sound_is_live : (row : Row) → IsSoundRow row → is_live row ≡ true
sound_is_live row sound = (and_parts (is_live row) (is_writable row.key.entity) (and_parts (is_of_its_kind row) (is_served row) sound.kind).1).0

pub sound_is_written : (row : Row) → IsSoundRow row → is_writable row.key.entity ≡ true
sound_is_written row sound = (and_parts (is_live row) (is_writable row.key.entity) (and_parts (is_of_its_kind row) (is_served row) sound.kind).1).1

pub sound_is_formed : (row : Row) → IsSoundRow row → IsWellFormed row
sound_is_formed row sound =
    let kind = and_parts (row_key_fits row.key) (list_all (field_fits row.key.entity) row.fields && ops_fit row) (and_parts (is_of_its_kind row) (is_served row) sound.kind).0 in
    let parts = and_parts (list_all (field_fits row.key.entity) row.fields) (ops_fit row) kind.1 in
    record {
      key = kind.0;
      rising = ascending_rising 0 row.fields sound.encoding.0.2;
      from_one = above_rising 0 row.fields sound.encoding.0.2;
      fields = parts.0;
      needed = sound.required;
      ops = has_no_ops row (sound_is_written row sound) parts.1;
    }

-- a well-formed row that operations may write is of its kind, and so has a place in the kept format
pub formed_is_of_its_kind : (row : Row) → IsWellFormed row → is_writable row.key.entity ≡ true → is_of_its_kind row ≡ true
formed_is_of_its_kind row formed writable =
    both (row_key_fits row.key) (list_all (field_fits row.key.entity) row.fields && ops_fit row) formed.key
    (both (list_all (field_fits row.key.entity) row.fields) (ops_fit row) formed.fields (fits_no_ops row writable formed.ops))

pub formed_rises : (row : Row) → IsWellFormed row → rises 0 row.fields ≡ true
formed_rises row formed = rises_ascending 0 row.fields formed.from_one formed.rising

pub formed_fits : (row : Row) → IsWellFormed row → is_writable row.key.entity ≡ true → FitsRow row
formed_fits row formed writable =
    kinds_are_kept row
    (record {
      fields = formed_rises row formed;
      ops = subst (λ (ops : List Op). AllByRecursion (λ op. rises 0 op.fields ≡ true) ops) (sym formed.ops) tt;
    })
    (subst (λ (ops : List Op). length ops < 2 ^ 32) (sym formed.ops) (omega arith))
    (formed_is_of_its_kind row formed writable)

-- where it is live and has bytes, it is sound
pub formed_is_sound : (row : Row) → IsWellFormed row → is_writable row.key.entity ≡ true → is_live row ≡ true → IsKeptRow row → IsSoundRow row
formed_is_sound row formed writable lives encoding = record {
  encoding = encoding;
  kind = both (is_of_its_kind row) (is_served row) (formed_is_of_its_kind row formed writable) (both (is_live row) (is_writable row.key.entity) lives writable);
  required = formed.needed;
}
