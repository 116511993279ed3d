-- How an operation of a request is read, and which rule it breaks.
use Rattle.std.specs.Prelude.{◌≡◌, ◌==◌, ℕ, ℤ, Bool, true, false, List, codes, if◌then◌else◌, Option, Some, None, is_none, Result, Ok, Err}
use Rattle.std.specs.List.{fold, filter_map}
use Rattle.std.specs.Option.{option_map}
use Rattle.std.specs.Ordering.{nat_cmp, is_lt}
use Rattle.std.specs.Cmp.Lexicographic.{slice_cmp}
use Rattle.std.specs.Str.{bytes_eq}
use Rattle.shop_defs.specs.declared.entity.Entity.{Entity}
use Rattle.shop_defs.specs.declared.value.Value.{Value}
use Rattle.shop_requests.specs.declared.raw.Raw.{Raw}
use Rattle.shop_requests.specs.declared.raw.RawOp.{RawOp}
use Rattle.shop_defs.specs.declared.op.Op.{Op}
use Rattle.shop_defs.specs.declared.broken.Broken.{Broken}
use Rattle.shop_defs.specs.declared.broken.Broken.TheVariants as B
use Rattle.shop_defs.specs.declared.refused.PlanFault.{PlanFault}
use Rattle.shop_defs.specs.declared.refused.PlanFault.TheVariants as F
use Rattle.shop_defs.specs.declared.table.EntityInfo.{EntityInfo}
use Rattle.shop_defs.specs.declared.table.FieldInfo.{FieldInfo}
use Rattle.shop_defs.specs.declared.table.KeyForm.{KeyForm}
use Rattle.shop_defs.specs.declared.table.KeyForm.TheVariants.{OnePart, TwoParts}
use Rattle.shop_requests.specs.declared.check.ValueFault.{ValueFault}
use Rattle.shop_requests.specs.declared.check.ValueFault.TheVariants.{WrongKind, OutOfRange}
use Rattle.shop_defs.specs.Texts.{field_text}
use Rattle.shop_defs.specs.Tables.{info_named, field_with_name, fields_of}
use Rattle.shop_requests.specs.Checks.{fault_in, kept}

-- a field that an operation gives, by its name
abbrev pub Given : Type 0
Given = List ℕ × Raw

-- the lesser of two names by their bytes
abbrev pub lesser : Option (List ℕ) → List ℕ → Option (List ℕ)
lesser None name = Some name
lesser (Some other) name = if is_lt (slice_cmp nat_cmp name other) then Some name else Some other

-- the least of a first name, if there is one, and of the names of the fields that break a rule
abbrev pub least_name : (Given → Bool) → Option (List ℕ) → List Given → Option (List ℕ)
least_name breaks first fields = fold (λ best field. if breaks field then lesser best field.0 else best) first fields

-- the entity has no such field
abbrev pub is_unknown : Entity → Given → Bool
is_unknown entity field = is_none (field_with_name entity field.0)

abbrev pub fault_for : Option FieldInfo → Raw → Option ValueFault
fault_for (Some info) raw = fault_in info.kind raw
fault_for None raw = None

-- why the field can't hold what is given for it
abbrev pub fault_at : Entity → Given → Option ValueFault
fault_at entity field = fault_for (field_with_name entity field.0) field.1

abbrev pub is_kind : Option ValueFault → Bool
is_kind (Some WrongKind) = true
is_kind fault = false

abbrev pub value_beyond : Option ValueFault → Option ℤ
value_beyond (Some (OutOfRange value)) = Some value
value_beyond fault = None

-- what is given for the field isn't of its kind
abbrev pub is_wrong : Entity → Given → Bool
is_wrong entity field = is_kind (fault_at entity field)

-- the name of the second part, where it is given for a key of one part, or missing for one of two
abbrev pub wrong_second : KeyForm → ℕ → Option (List ℕ)
wrong_second OnePart second = if second == 0 then None else Some (codes "second")
wrong_second TwoParts second = if second == 0 then Some (codes "second") else None

-- of two places with a value out of range the one with the lesser name
abbrev pub lesser_beyond : Option (List ℕ × ℤ) → List ℕ → Option ℤ → Option (List ℕ × ℤ)
lesser_beyond best name None = best
lesser_beyond None name (Some value) = Some (name, value)
lesser_beyond (Some other) name (Some value) = if is_lt (slice_cmp nat_cmp name other.0) then Some (name, value) else Some other

-- the least name of a field with a value out of range, and that value
abbrev pub least_beyond : Entity → List Given → Option (List ℕ × ℤ)
least_beyond entity fields = fold (λ best field. lesser_beyond best field.0 (value_beyond (fault_at entity field))) None fields

-- a rule of each kind, tried over all fields
abbrev pub unknown_field : Entity → List Given → Option Broken
unknown_field entity fields = option_map B.UnknownField (least_name (is_unknown entity) None fields)

abbrev pub wrong_kind : EntityInfo → ℕ → List Given → Option Broken
wrong_kind info second fields = option_map B.WrongKind (least_name (is_wrong info.entity) (wrong_second info.key second) fields)

abbrev pub out_of_range : Entity → List Given → Option Broken
out_of_range entity fields = option_map (λ place. B.OutOfRange place.0 place.1) (least_beyond entity fields)

abbrev pub or_else : Option Broken → Option Broken → Option Broken
or_else (Some broken) later = Some broken
or_else None later = later

-- the first rule that an operation on the entity breaks
unfoldable pub refusal : EntityInfo → RawOp → Option Broken
refusal info op =
    or_else (unknown_field info.entity op.fields)
    (or_else (wrong_kind info op.second op.fields) (out_of_range info.entity op.fields))

-- what is given for the field with that name: the last, if it is given twice
abbrev pub given : List Given → List ℕ → Option Raw
given fields name = fold (λ found field. if bytes_eq field.0 name then Some field.1 else found) None fields

-- a field of the table as the operation gives it
abbrev pub read_field : List Given → FieldInfo → Option (ℕ × Option Value)
read_field fields info = option_map (λ raw. (info.number, kept info.kind raw)) (given fields (field_text info.name))

-- the fields of the table that are given, in the table's order
abbrev pub read_in : List FieldInfo → List Given → List (ℕ × Option Value)
read_in table fields = filter_map (read_field fields) table

-- the operation with entity and fields by number
unfoldable pub read : EntityInfo → RawOp → Op
read info op = record { kind = op.kind; entity = info.entity; id = op.id; second = op.second; fields = read_in (fields_of info.entity) op.fields }

abbrev pub unless_refused : Option Broken → Op → Result Op Broken
unless_refused (Some broken) op = Err broken
unless_refused None op = Ok op

abbrev pub if_writable : Option EntityInfo → Option EntityInfo
if_writable (Some info) = if info.is_writable then Some info else None
if_writable None = None

abbrev pub reading_as : Option EntityInfo → RawOp → Result Op Broken
reading_as (Some info) op = unless_refused (refusal info op) (read info op)
reading_as None op = Err B.UnknownEntity

-- an operation as it is read, or the rule that it breaks
unfoldable pub reading : RawOp → Result Op Broken
reading op = reading_as (if_writable (info_named op.entity)) op

-- the fault is want of memory, or names the rule that the operation breaks, with no number of an operation
abbrev pub IsFaultOf : RawOp → PlanFault → Type 0
IsFaultOf op F.NoMemory = Unit {0}
IsFaultOf op (F.Refused refused) = (refused.op ≡ 0) × (reading op ≡ Err refused.broken)
