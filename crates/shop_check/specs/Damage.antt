-- The first damaged entry of what is kept, and the first rule that it fails.
use Rattle.std.specs.Prelude.{◌≡◌, ◌<◌, ℕ, Bool, true, List, [], ◌∷◌, ◌++◌, Option, Some, None, Result, Ok, Err, if◌then◌else◌}
use Rattle.std.specs.List.{AllByRecursion}
use Rattle.std.specs.Ordering.{is_lt}
use Rattle.shop_defs.specs.declared.key.Key.{Key}
use Rattle.shop_defs.specs.declared.row.Row.{Row}
use Rattle.shop_defs.specs.Fitting.{has_needed}
use Rattle.shop_defs.specs.Keys.{key_cmp}
use Rattle.shop_kept.specs.Reading.{read_kept}
use Rattle.shop_check.specs.declared.fault.Rule.{Rule}
use Rattle.shop_check.specs.declared.fault.Rule.TheVariants as R
use Rattle.shop_check.specs.declared.fault.CheckFault.{CheckFault}
use Rattle.shop_check.specs.declared.fault.CheckFault.TheVariants as F
use Rattle.shop_check.specs.Kinds.{passes_kind}
use Rattle.shop_check.specs.Soundness.{Entry, kept, AreSound}
use Rattle.shop_check.specs.Standing.{rule_failed_among}

-- the damaged entry's key, and the rule
abbrev pub Damage : Type 0
Damage = Key × Rule

-- the key is above the one before, if there is one
abbrev pub is_above : Option Key → Key → Bool
is_above None key = true
is_above (Some before) key = is_lt (key_cmp before key)

-- ---- the rows that rules see

-- the row, if there is one and it passes the rule `kind`
abbrev pub of_kind : Option Row → Option Row
of_kind None = None
of_kind (Some row) = if passes_kind row then Some row else None

-- the row of an entry that fails none of `order`, `encoding` and `kind`, behind an entry with the key before
abbrev pub row_seen : Option Key → Entry → Option Row
row_seen before entry = if is_above before entry.0 then of_kind (read_kept entry.0 entry.1) else None

-- the row in front of the rows, if there is one
abbrev pub with_seen : Option Row → List Row → List Row
with_seen None rows = rows
with_seen (Some row) rows = row ∷ rows

-- the rows of the entries that fail none of the three, behind an entry with the key before
abbrev pub seen_from : Option Key → List Entry → List Row
seen_from before [] = []
seen_from before (entry ∷ entries) = with_seen (row_seen before entry) (seen_from (Some entry.0) entries)

-- the rows that the rules on how rows stand to one another see
abbrev pub seen : List Entry → List Row
seen entries = seen_from None entries

-- ---- the rules

-- the first rule that bytes fail behind `order`, by the row that they give, if they give one, among these rows
abbrev pub rule_failed_by : List Row → Option Row → Option Rule
rule_failed_by rows None = Some R.Encoding
rule_failed_by rows (Some row) = if passes_kind row then (if has_needed row then rule_failed_among rows row else Some R.Required) else Some R.Kind

-- the first rule that an entry fails among these rows, behind an entry with the key before
abbrev pub failed_rule : List Row → Option Key → Entry → Option Rule
failed_rule rows before entry = if is_above before entry.0 then rule_failed_by rows (read_kept entry.0 entry.1) else Some R.Order

-- the damage of an entry with the key that fails a rule, or else what is damaged later
abbrev pub damage_or : Key → Option Rule → Option Damage → Option Damage
damage_or key (Some rule) later = Some (key, rule)
damage_or key None later = later

-- the first of the entries that fails a rule among these rows, with the first rule that it fails
abbrev pub first_damage_from : List Row → Option Key → List Entry → Option Damage
first_damage_from rows before [] = None
first_damage_from rows before (entry ∷ entries) = damage_or entry.0 (failed_rule rows before entry) (first_damage_from rows (Some entry.0) entries)

-- the first of the entries that fails a rule, with the first rule that it fails
unfoldable pub first_damage : List Entry → Option Damage
first_damage entries = first_damage_from (seen entries) None entries

-- ---- what the check answers

-- the fault is that damage, or memory ran out
abbrev pub TellsFault : CheckFault → Option Damage → Type 0
TellsFault (F.Damaged key rule) damage = damage ≡ Some (key, rule)
TellsFault F.NoMemory damage = Unit {0}

-- the answer is Ok where there is no damage, and else that damage, unless memory ran out
abbrev pub Tells : {X : Type 0} → Result X CheckFault → Option Damage → Type 0
Tells (Ok value) damage = damage ≡ None
Tells (Err fault) damage = TellsFault fault damage

-- each of the entries fails no rule among these rows, behind an entry with the key before
abbrev pub AreUndamaged : List Row → Option Key → List Entry → Type 0
AreUndamaged rows before [] = Unit {0}
AreUndamaged rows before (entry ∷ entries) = (failed_rule rows before entry ≡ None) × AreUndamaged rows (Some entry.0) entries

-- the last key of the entries, or else the one before them
abbrev pub last_key_from : Option Key → List Entry → Option Key
last_key_from before [] = before
last_key_from before (entry ∷ entries) = last_key_from (Some entry.0) entries

-- the last key of the entries
abbrev pub last_key : List Entry → Option Key
last_key entries = last_key_from None entries

-- an entry with the key fails the rule and none that is tried before, and the entries before it fail none
pub record IsFirstDamage (entries : List Entry) (key : Key) (rule : Rule) : Type 0 where
  pub front : List Entry
  pub bytes : List ℕ
  pub rest : List Entry
  pub split : entries ≡ front ++ ((key, bytes) ∷ rest)
  pub undamaged : AreUndamaged (seen entries) None front
  pub fails : failed_rule (seen entries) (last_key front) (key, bytes) ≡ Some rule

-- what the fault says in words
abbrev pub FaultInWords : List Entry → CheckFault → Type 0
FaultInWords entries (F.Damaged key rule) = IsFirstDamage entries key rule
FaultInWords entries F.NoMemory = Unit {0}

-- memory ran out, and nothing is said to be damaged
abbrev pub IsWantOfMemory : CheckFault → Type 0
IsWantOfMemory (F.Damaged key rule) = ⊥
IsWantOfMemory F.NoMemory = Unit {0}

-- ---- laws

-- in what is kept of sound rows nothing is damaged
abbrev pub KeptRowsAreUndamaged : Type 0
KeptRowsAreUndamaged = (rows : List Row) → AreSound rows → first_damage (kept rows) ≡ None

-- the rows are sound, and the entries are kept of them
pub record AreKeptOf (rows : List Row) (entries : List Entry) : Type 0 where
  pub sound : AreSound rows
  pub bytes : kept rows ≡ entries

-- the entries hold bytes
abbrev pub HoldBytes : List Entry → Type 0
HoldBytes entries = AllByRecursion (λ entry. AllByRecursion (λ byte. byte < 256) entry.1) entries

-- entries of which none is damaged are kept of sound rows, those that rules see
abbrev pub UndamagedAreKept : Type 0
UndamagedAreKept = (entries : List Entry) → HoldBytes entries → first_damage entries ≡ None → AreKeptOf (seen entries) entries
