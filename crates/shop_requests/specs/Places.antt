-- Which rule an operation breaks, and which place a refusal names, in words.
use Rattle.std.specs.Prelude.{◌≡◌, ◌⊎◌, ℤ, ℕ, true, List, Contains, Option, Some, None}
use Rattle.std.specs.Ordering.{nat_cmp, is_lt}
use Rattle.std.specs.Cmp.Lexicographic.{slice_cmp}
use Rattle.shop_requests.specs.declared.raw.Raw.{Raw}
use Rattle.shop_requests.specs.declared.raw.RawOp.{RawOp}
use Rattle.shop_defs.specs.declared.broken.Broken.{Broken}
use Rattle.shop_defs.specs.declared.broken.Broken.TheVariants as B
use Rattle.shop_defs.specs.declared.refused.PlanFault.{PlanFault}
use Rattle.shop_defs.specs.declared.refused.PlanFault.TheVariants as F
use Rattle.shop_defs.specs.declared.table.EntityInfo.{EntityInfo}
use Rattle.shop_requests.specs.declared.check.ValueFault.TheVariants.{WrongKind, OutOfRange}
use Rattle.shop_defs.specs.Tables.{info_named, field_with_name}
use Rattle.shop_requests.specs.Operations.{fault_at, wrong_second, if_writable}

-- a field of that name is given with that value
abbrev pub IsGiven : RawOp → List ℕ → Raw → Type 0
IsGiven op name raw = Contains op.fields (name, raw)

-- a field is given that the entity hasn't
abbrev pub IsUnknownPlace : EntityInfo → RawOp → List ℕ → Type 0
IsUnknownPlace info op name = (raw : Raw) × IsGiven op name raw × (field_with_name info.entity name ≡ None)

-- a field is given with a value that isn't of its kind, or a second part is given for a key of one part or missing for one of two
abbrev pub IsWrongPlace : EntityInfo → RawOp → List ℕ → Type 0
IsWrongPlace info op name =
    ((raw : Raw) × IsGiven op name raw × (fault_at info.entity (name, raw) ≡ Some WrongKind))
    ⊎ (wrong_second info.key op.second ≡ Some name)

-- a field is given with a value of its kind that is out of range, which a refusal tells by that number
abbrev pub IsBeyondPlace : EntityInfo → RawOp → List ℕ → ℤ → Type 0
IsBeyondPlace info op name value =
    (raw : Raw) × IsGiven op name raw × (fault_at info.entity (name, raw) ≡ Some (OutOfRange value))

-- the same, by whichever number
abbrev pub IsOutOfRange : EntityInfo → RawOp → List ℕ → Type 0
IsOutOfRange info op name = (value : ℤ) × IsBeyondPlace info op name value

-- a name is below another by its bytes
abbrev pub IsBelow : List ℕ → List ℕ → Type 0
IsBelow name other = is_lt (slice_cmp nat_cmp name other) ≡ true

-- the place breaks the rule, and none with a lesser name does
pub record IsLeastPlace (Breaks : List ℕ → Type 0) (name : List ℕ) : Type 0 where
  pub breaks : Breaks name
  pub least : (other : List ℕ) → Breaks other → ¬ (IsBelow other name)

-- no place breaks the rule
abbrev pub IsKept : (List ℕ → Type 0) → Type 0
IsKept Breaks = (name : List ℕ) → ¬ (Breaks name)

-- the first rule that an operation breaks, on an entity that operations may write or on none: the rules before it are kept
abbrev pub IsFirstBroken : Option EntityInfo → RawOp → Broken → Type 0
IsFirstBroken None op B.UnknownEntity = Unit {0}
IsFirstBroken (Some info) op (B.UnknownField name) = IsLeastPlace (IsUnknownPlace info op) name
IsFirstBroken (Some info) op (B.WrongKind name) =
    IsKept (IsUnknownPlace info op) × IsLeastPlace (IsWrongPlace info op) name
IsFirstBroken (Some info) op (B.OutOfRange name value) =
    IsKept (IsUnknownPlace info op) × IsKept (IsWrongPlace info op) × IsLeastPlace (IsOutOfRange info op) name × IsBeyondPlace info op name value
IsFirstBroken line op broken = ⊥

-- the operation is on an entity that operations may write, and keeps each rule
abbrev pub IsUnbroken : Option EntityInfo → RawOp → Type 0
IsUnbroken (Some info) op = IsKept (IsUnknownPlace info op) × IsKept (IsWrongPlace info op) × IsKept (IsOutOfRange info op)
IsUnbroken None op = ⊥

-- what operations may write by that name
abbrev pub written_by : List ℕ → Option EntityInfo
written_by name = if_writable (info_named name)

-- the operation may be read
abbrev pub KeepsRules : RawOp → Type 0
KeepsRules op = IsUnbroken (written_by op.entity) op

-- a refusal names the first broken rule and its least place
abbrev pub NamesFirst : RawOp → PlanFault → Type 0
NamesFirst op F.NoMemory = Unit {0}
NamesFirst op (F.Refused refused) = IsFirstBroken (written_by op.entity) op refused.broken
