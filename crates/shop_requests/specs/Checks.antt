-- What a request gives for a field, as the field keeps it.
use Rattle.std.specs.Prelude.{ℕ, pos, Bool, ◌&&◌, nat_le, List, length, if◌then◌else◌, Option, Some, None, is_some, Result, Ok, Err}
use lib.Signed.{le_z}
use Rattle.std.specs.Option.{option_map}
use Rattle.shop_defs.specs.declared.entity.Entity.{Entity}
use Rattle.shop_defs.specs.declared.value.Value.{Value}
use Rattle.shop_defs.specs.declared.value.Value.TheVariants as V
use Rattle.shop_requests.specs.declared.raw.Raw.{Raw}
use Rattle.shop_requests.specs.declared.raw.Raw.TheVariants as R
use Rattle.shop_defs.specs.declared.table.FieldInfo.{FieldInfo}
use Rattle.shop_defs.specs.declared.table.FieldKind.{FieldKind}
use Rattle.shop_defs.specs.declared.table.FieldKind.TheVariants as K
use Rattle.shop_requests.specs.declared.check.ValueFault.{ValueFault}
use Rattle.shop_requests.specs.declared.check.ValueFault.TheVariants.{WrongKind, OutOfRange}
use Rattle.shop_defs.specs.Tables.{field_at}
use Rattle.shop_requests.specs.Ids.{id_of}
use Rattle.shop_requests.specs.Days.{day_of}
use Rattle.shop_defs.specs.Checks.{is_word, is_interval}

-- nothing where it holds, and else the fault
abbrev pub unless : Bool → ValueFault → Option ValueFault
unless holds fault = if holds then None else Some fault

-- the length of a text in bytes is out of range
abbrev pub length_beyond : List ℕ → ValueFault
length_beyond text = OutOfRange (pos (length text))

-- why a field of the kind can't hold a value: any field may be given null
abbrev pub fault_in : FieldKind → Raw → Option ValueFault
fault_in kind R.Null = None
fault_in K.Flag (R.Flag flag) = None
fault_in (K.Int low high) (R.Int number) = unless (le_z low number && le_z number high) (OutOfRange number)
fault_in (K.Int low high) (R.Big number) = Some (OutOfRange (pos number))
fault_in K.Interval (R.Int number) = unless (is_interval number) (OutOfRange number)
fault_in K.Interval (R.Big number) = Some (OutOfRange (pos number))
fault_in (K.Text low high) (R.Text text) = unless (nat_le low (length text) && nat_le (length text) high) (length_beyond text)
fault_in (K.Choice choice) (R.Text text) = unless (is_word choice text) (length_beyond text)
fault_in (K.Id entity) (R.Text text) = unless (is_some (id_of text)) WrongKind
fault_in K.Loose (R.Text text) = unless (is_some (id_of text)) WrongKind
fault_in K.Day (R.Text text) = unless (is_some (day_of text)) (length_beyond text)
fault_in kind raw = Some WrongKind

-- what a field of the kind keeps of a value that it can hold: nothing of null
abbrev pub kept : FieldKind → Raw → Option Value
kept (K.Id entity) (R.Text text) = option_map V.Ident (id_of text)
kept K.Loose (R.Text text) = option_map V.Ident (id_of text)
kept K.Day (R.Text text) = option_map V.Int (day_of text)
kept kind (R.Text text) = Some (V.Text text)
kept kind (R.Int number) = Some (V.Int number)
kept kind (R.Flag flag) = Some (V.Flag flag)
kept kind raw = None

abbrev pub unless_fault : Option ValueFault → Option Value → Result (Option Value) ValueFault
unless_fault (Some fault) value = Err fault
unless_fault None value = Ok value

-- a value as a field of the kind
abbrev pub checked : FieldKind → Raw → Result (Option Value) ValueFault
checked kind raw = unless_fault (fault_in kind raw) (kept kind raw)

abbrev pub checked_for : Option FieldInfo → Raw → Result (Option Value) ValueFault
checked_for (Some field) raw = checked field.kind raw
checked_for None raw = Err WrongKind

-- a value as the entity's field with that number
abbrev pub checked_value : Entity → ℕ → Raw → Result (Option Value) ValueFault
checked_value entity number raw = checked_for (field_at entity number) raw
