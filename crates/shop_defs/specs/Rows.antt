-- Rows as a list in the order of keys, and what is looked up and changed in it.
use Rattle.std.specs.Prelude.{ℕ, ◌==◌, List, [], ◌∷◌, if◌then◌else◌, Option, Some, None}
use Rattle.std.specs.List.{fold}
use Rattle.shop_defs.specs.declared.key.Key.{Key}
use Rattle.shop_defs.specs.declared.row.Row.{Row}
use Rattle.shop_defs.specs.declared.value.Value.{Value}
use Rattle.shop_defs.specs.Keys.{key_cmp}
use Rattle.keyed.specs.Keyed.{Ascends, find, put, without}

-- the value beside a number in a list of fields
abbrev pub field_in : List (ℕ × Value) → ℕ → Option Value
field_in [] number = None
field_in (field ∷ rest) number = if field.0 == number then Some field.1 else field_in rest number

-- a row's own value of a field: none where it is empty
abbrev pub field_of : Row → ℕ → Option Value
field_of row number = field_in row.fields number

-- the key of a row
abbrev pub row_key : Row → Key
row_key row = row.key

-- the rows ascend by key, so each key stands once
abbrev pub IsInKeyOrder : List Row → Type 0
IsInKeyOrder rows = Ascends key_cmp row_key rows

-- the row with that key
abbrev pub row_at : List Row → Key → Option Row
row_at rows key = find key_cmp row_key rows key

-- one change: the row is put at its key, or the row at the key is taken away
abbrev pub change_row : List Row → Key → Option Row → List Row
change_row rows key None = without key_cmp row_key rows key
change_row rows key (Some row) = put key_cmp row_key rows row

-- a list of changes, one after the other
abbrev pub change_rows : List Row → List (Key × Option Row) → List Row
change_rows rows changes = fold (λ before change. change_row before change.0 change.1) rows changes
