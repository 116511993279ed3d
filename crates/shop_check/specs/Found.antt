-- What the check finds on its way. No public contract cites this.
use Rattle.std.specs.Prelude.{◌≡◌, ◌<◌, ℕ, Bool, true, false, not, ◌&&◌, ◌||◌, nat_le, List, [], ◌∷◌, Option, Some, None, Result, Ok, Err, if◌then◌else◌}
use Rattle.std.specs.List.{list_any, list_all, AllByRecursion}
use Rattle.shop_defs.specs.declared.entity.Entity.{Entity}
use Rattle.shop_defs.specs.declared.key.Key.{Key}
use Rattle.shop_defs.specs.declared.row.Row.{Row}
use Rattle.shop_defs.specs.declared.table.EntityInfo.{EntityInfo}
use Rattle.shop_defs.specs.declared.table.KeyForm.{KeyForm}
use Rattle.shop_defs.specs.declared.table.KeyForm.TheVariants.{OnePart, TwoParts}
use Rattle.shop_defs.specs.declared.table.OwnerLimit.{OwnerLimit}
use Rattle.shop_defs.specs.declared.table.Reference.{Reference}
use Rattle.shop_defs.specs.declared.table.TheConstants.{REFERENCES, OWNER_LIMITS}
use Rattle.shop_defs.specs.Fitting.{has_needed, row_key_fits}
use Rattle.shop_defs.specs.Rows.{IsInKeyOrder}
use Rattle.shop_defs.specs.Tables.{info_of}
use Rattle.shop_kept.specs.Reading.{read_kept}
use Rattle.shop_operations.specs.References.{is_entity, live}
use Rattle.shop_rows.specs.Owners.{count_owned}
use Rattle.shop_rows.specs.Searches.{same_part}
use Rattle.shop_check.specs.declared.fault.Rule.{Rule}
use Rattle.shop_check.specs.declared.fault.Rule.TheVariants as R
use Rattle.shop_check.specs.Damage.{Damage, is_above, damage_or}
use Rattle.shop_check.specs.Kinds.{passes_kind}
use Rattle.shop_check.specs.Soundness.{Entry}
use Rattle.shop_check.specs.Standing.{rule_failed_among}

-- ---- the entries, each by itself

-- the first of the rules `encoding`, `kind` and `required` that bytes fail, by the row that they give, if they give one
abbrev pub own_rule : Option Row → Option Rule
own_rule None = Some R.Encoding
own_rule (Some row) = if passes_kind row then (if has_needed row then None else Some R.Required) else Some R.Kind

-- the first of the first four rules that an entry fails, behind an entry with the key before
abbrev pub own_failed : Option Key → Entry → Option Rule
own_failed before entry = if is_above before entry.0 then own_rule (read_kept entry.0 entry.1) else Some R.Order

-- the first of the entries that fails one of the first four rules, with the first that it fails
abbrev pub own_damage : Option Key → List Entry → Option Damage
own_damage before [] = None
own_damage before (entry ∷ entries) = damage_or entry.0 (own_failed before entry) (own_damage (Some entry.0) entries)

-- what bytes are read as under a key: a row, or the first of the rules `encoding`, `kind` and `required` that they fail
abbrev pub IsReadOf : Key → List ℕ → Result Row Rule → Type 0
IsReadOf key bytes (Ok row) = (own_rule (read_kept key bytes) ≡ None) × (read_kept key bytes ≡ Some row) × AllByRecursion (λ byte. byte < 256) bytes
IsReadOf key bytes (Err rule) = own_rule (read_kept key bytes) ≡ Some rule

-- what an entry is read as: a row, or the first of the first four rules that it fails
abbrev pub IsReadAs : Option Key → Entry → Result Row Rule → Type 0
IsReadAs before entry (Ok row) = (own_failed before entry ≡ None) × (read_kept entry.0 entry.1 ≡ Some row) × AllByRecursion (λ byte. byte < 256) entry.1
IsReadAs before entry (Err rule) = own_failed before entry ≡ Some rule

-- a row, or the first of the rules `kind` and `required` that it fails
abbrev pub IsRuleOf : Row → Result Row Rule → Type 0
IsRuleOf row (Ok same) = (own_rule (Some row) ≡ None) × (same ≡ row)
IsRuleOf row (Err rule) = own_rule (Some row) ≡ Some rule

-- where the test holds, the rows ascend by key
abbrev pub IsInOrderWhere : Bool → List Row → Type 0
IsInOrderWhere true rows = IsInKeyOrder rows
IsInOrderWhere false rows = Unit {0}

-- the row in front of rows, unless its entry fails a rule
abbrev pub with_tried : Option Rule → Option Row → List Row → List Row
with_tried None (Some row) rows = row ∷ rows
with_tried failed row rows = []

-- the rows of the entries before that one
abbrev pub tried_from : Option Key → List Entry → List Row
tried_from before [] = []
tried_from before (entry ∷ entries) = with_tried (own_failed before entry) (read_kept entry.0 entry.1) (tried_from (Some entry.0) entries)

-- ---- the rows, among one another

-- the first of the rows that fails a rule among all, with the first rule that it fails
abbrev pub first_among : List Row → List Row → Option Damage
first_among all [] = None
first_among all (row ∷ rows) = damage_or row.key (rule_failed_among all row) (first_among all rows)

-- the damage, or else another
abbrev pub earlier_or : Option Damage → Option Damage → Option Damage
earlier_or None later = later
earlier_or (Some damage) later = Some damage

-- each key is of its entity's form
abbrev pub are_formed : List Row → Bool
are_formed rows = list_all (λ row. row_key_fits row.key) rows

abbrev pub is_one_part : KeyForm → Bool
is_one_part OnePart = true
is_one_part TwoParts = false

abbrev pub line_has_one_part : Option EntityInfo → Bool
line_has_one_part (Some info) = is_one_part info.key
line_has_one_part None = false

-- the keys of the entity's rows have one part
unfoldable pub has_one_part : Entity → Bool
has_one_part entity = line_has_one_part (info_of entity)

-- what the references name has keys of one part
abbrev pub name_one_part : List Reference → Bool
name_one_part table = list_all (λ reference. has_one_part reference.of) table

-- ---- owners

-- by a reference of the table, rows of the limit's entity belong to rows of that entity
abbrev pub is_owner_of : List Reference → OwnerLimit → Entity → Bool
is_owner_of table limit entity = list_any (λ reference. is_entity reference.entity limit.entity && (same_part reference.part limit.owner && is_entity reference.of entity)) table

-- the row doesn't own more of the rows than the limit allows, if its entity owns such rows
abbrev pub is_within : List Row → Row → OwnerLimit → Bool
is_within rows owner limit = not (is_owner_of REFERENCES limit owner.key.entity) || nat_le (count_owned limit (live rows) owner.key.id) limit.most

-- none of the rows owns more of them than a limit allows
unfoldable pub owners_are_within : List Row → Bool
owners_are_within rows = list_all (λ owner. list_all (is_within rows owner) OWNER_LIMITS) rows
