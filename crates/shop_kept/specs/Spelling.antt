-- The kept format 1: the one spelling of each row.
use Rattle.std.specs.Prelude.{◌≡◌, ◌<◌, ◌^◌, ◌++◌, ℕ, Bool, true, false, nat_lt, List, [], ◌∷◌, length, Option, Some, None, if◌then◌else◌}
use Rattle.std.specs.Int.{w32, w64, w128, to_be_bytes, cast_unsigned}
use Rattle.std.specs.Int.RustNames.{FitsSigned}
use Rattle.std.specs.List.{flat_map, AllByRecursion}
use Rattle.std.specs.Str.{is_utf8}
use Rattle.shop_defs.specs.Entities.{entity_number}
use Rattle.shop_defs.specs.declared.row.Row.{Row}
use Rattle.shop_defs.specs.declared.op.Op.{Op}
use Rattle.shop_defs.specs.declared.op.OpKind.{OpKind}
use Rattle.shop_defs.specs.declared.op.OpKind.TheVariants.{Upsert, Delete}
use Rattle.shop_defs.specs.declared.value.Value.{Value}
use Rattle.shop_defs.specs.declared.value.Value.TheVariants as V

-- ---- the bytes of a row

-- a length of 4 bytes, and the bytes of the text
abbrev pub kept_text : List ℕ → List ℕ
kept_text text = to_be_bytes w32 (length text) ++ text

-- a tag, and what it says follows: nothing, a number in two's complement, a text, an id
abbrev pub kept_value : Value → List ℕ
kept_value (V.Flag false) = 0 ∷ []
kept_value (V.Flag true) = 1 ∷ []
kept_value (V.Int number) = 2 ∷ to_be_bytes w64 (cast_unsigned w64 number)
kept_value (V.Text text) = 3 ∷ kept_text text
kept_value (V.Ident id) = 4 ∷ to_be_bytes w128 id

-- what an operation gives for a field: a tag for null, or a value
abbrev pub kept_given : Option Value → List ℕ
kept_given None = 5 ∷ []
kept_given (Some value) = kept_value value

-- the number of a field, and what stands beside it
abbrev pub kept_field : {X : Type 0} → (X → List ℕ) → ℕ × X → List ℕ
kept_field spelled field = field.0 ∷ spelled field.1

-- how many fields there are, and each of them
abbrev pub kept_fields : {X : Type 0} → (X → List ℕ) → List (ℕ × X) → List ℕ
kept_fields spelled fields = length fields ∷ flat_map (kept_field spelled) fields

-- the number of a kind of operation
abbrev pub kind_number : OpKind → ℕ
kind_number Upsert = 1
kind_number Delete = 2

-- the numbers of the kind and of the entity, the id, the second part, and the fields that are given
abbrev pub kept_op : Op → List ℕ
kept_op op = kind_number op.kind ∷ entity_number op.entity ∷ (to_be_bytes w128 op.id ++ (to_be_bytes w128 op.second ++ kept_fields kept_given op.fields))

-- how many operations there are, and each of them
abbrev pub kept_ops : List Op → List ℕ
kept_ops ops = to_be_bytes w32 (length ops) ++ flat_map kept_op ops

-- the number of the format, the fields and the operations
abbrev pub kept_row : Row → List ℕ
kept_row row = 1 ∷ (kept_fields kept_value row.fields ++ kept_ops row.ops)

-- ---- which rows the format can tell

-- the numbers ascend, the first from above a number
abbrev pub rises : {X : Type 0} → ℕ → List (ℕ × X) → Bool
rises above [] = true
rises above (field ∷ fields) = if nat_lt above field.0 then rises field.0 fields else false

abbrev pub FitsValue : Value → Type 0
FitsValue (V.Flag flag) = Unit {0}
FitsValue (V.Int number) = Unit {0}
FitsValue (V.Text text) = length text < 2 ^ 32
FitsValue (V.Ident id) = Unit {0}

abbrev pub FitsGiven : Option Value → Type 0
FitsGiven None = Unit {0}
FitsGiven (Some value) = FitsValue value

abbrev pub FitsField : {X : Type 0} → (X → Type 0) → ℕ × X → Type 0
FitsField Fits field = Fits field.1

-- at most 255 fields, numbered from 1 on and ascending
abbrev pub FitFields : {X : Type 0} → (X → Type 0) → List (ℕ × X) → Type 0
FitFields Fits fields = (length fields < 256) × AllByRecursion (FitsField Fits) fields × (rises 0 fields ≡ true)

abbrev pub FitsOp : Op → Type 0
FitsOp op = FitFields FitsGiven op.fields

abbrev pub FitOps : List Op → Type 0
FitOps ops = (length ops < 2 ^ 32) × AllByRecursion FitsOp ops

-- the counts and lengths of the format can tell the row
abbrev pub FitsRow : Row → Type 0
FitsRow row = FitFields FitsValue row.fields × FitOps row.ops

-- ---- and whose parts are in the ranges of their types, as those of every row in memory are

abbrev pub IsText : List ℕ → Type 0
IsText text = (length text < 2 ^ 32) × (is_utf8 text ≡ true)

abbrev pub IsValue : Value → Type 0
IsValue (V.Flag flag) = Unit {0}
IsValue (V.Int number) = FitsSigned w64 number
IsValue (V.Text text) = IsText text
IsValue (V.Ident id) = id < 2 ^ 128

abbrev pub IsGiven : Option Value → Type 0
IsGiven None = Unit {0}
IsGiven (Some value) = IsValue value

abbrev pub IsField : {X : Type 0} → (X → Type 0) → ℕ × X → Type 0
IsField Is field = (field.0 < 256) × Is field.1

abbrev pub AreFields : {X : Type 0} → (X → Type 0) → List (ℕ × X) → Type 0
AreFields Is fields = (length fields < 256) × AllByRecursion (IsField Is) fields × (rises 0 fields ≡ true)

abbrev pub IsOp : Op → Type 0
IsOp op = (op.id < 2 ^ 128) × (op.second < 2 ^ 128) × AreFields IsGiven op.fields

abbrev pub AreOps : List Op → Type 0
AreOps ops = (length ops < 2 ^ 32) × AllByRecursion IsOp ops

-- a row that has a spelling
abbrev pub IsKeptRow : Row → Type 0
IsKeptRow row = AreFields IsValue row.fields × AreOps row.ops
