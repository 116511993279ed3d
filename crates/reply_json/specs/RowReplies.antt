-- What replies say of accepted writes and of rows, as JSON values.
use Rattle.std.specs.Prelude.{ℕ, ℤ, List, [], ◌∷◌, map, codes, Option, Some, None, if◌then◌else◌}
use Rattle.json.specs.Token.{Token}
use Rattle.serde_json.specs.Data.{Data, null, boolean, string, array, object, Items, Members, no_members, member}
use Rattle.serde_json.specs.View.{items_of}
use Rattle.shop_defs.specs.declared.row.Row.{Row}
use Rattle.shop_defs.specs.declared.table.FieldInfo.{FieldInfo}
use Rattle.shop_defs.specs.declared.table.FieldKind.{FieldKind}
use Rattle.shop_defs.specs.declared.table.FieldKind.TheVariants as K
use Rattle.shop_defs.specs.declared.value.Value.{Value}
use Rattle.shop_defs.specs.declared.value.Value.TheVariants as V
use Rattle.shop_defs.specs.Days.{is_day_number}
use Rattle.shop_defs.specs.Rows.{field_of}
use Rattle.shop_defs.specs.Texts.{field_text}
use Rattle.reply_json.specs.DayTexts.{day_text}
use Rattle.reply_json.specs.FieldOrder.{fields_by_name}
use Rattle.reply_json.specs.Objects.{object_of, count_data, number_data, id_data, key_data}
use Rattle.reply_json.specs.Tokens.{member_tokens}

-- an accepted write: the number of entries that were accepted by then, and the value of this one
abbrev pub done_data : ℕ → ℤ → Data
done_data front value = object_of ((codes "front", count_data front) ∷ (codes "value", number_data value) ∷ [])

abbrev pub value_data : Value → Data
value_data (V.Flag flag) = boolean flag
value_data (V.Int amount) = number_data amount
value_data (V.Text text) = string text
value_data (V.Ident id) = id_data id

-- a day is a text; a number that is none stays a number
abbrev pub day_data : ℤ → Data
day_data days = if is_day_number days then string (day_text days) else number_data days

-- the value of a field of that kind
abbrev pub field_data : FieldKind → Value → Data
field_data K.Day (V.Int days) = day_data days
field_data kind value = value_data value

-- a member for a field, unless it is null
abbrev pub with_field : FieldInfo → Option Value → Members → Members
with_field field None rest = rest
with_field field (Some value) rest = member (field_text field.name) (field_data field.kind value) rest

abbrev pub field_members : Row → List FieldInfo → Members
field_members row [] = no_members
field_members row (field ∷ rest) = with_field field (field_of row field.number) (field_members row rest)

-- the tokens of that member; for a private clause
abbrev pub value_part : FieldInfo → Option Value → List Token
value_part field None = []
value_part field (Some value) = member_tokens (field_text field.name) (field_data field.kind value)

abbrev pub field_tokens : Row → Option FieldInfo → List Token
field_tokens row None = []
field_tokens row (Some field) = value_part field (field_of row field.number)

-- the fields of a row that aren't null, by name
abbrev pub fields_data : Row → Data
fields_data row = object (field_members row (fields_by_name row.key.entity))

abbrev pub value_or_null : Option Value → Data
value_or_null None = null
value_or_null (Some value) = value_data value

-- names with the values that are shown for them, in their order
abbrev pub shown_members : List (List ℕ × Option Value) → Members
shown_members [] = no_members
shown_members (shown ∷ rest) = member shown.0 (value_or_null shown.1) (shown_members rest)

-- what is shown beside a row, where it is asked for
abbrev pub shown_part : Option (List (List ℕ × Option Value)) → List (List ℕ × Data)
shown_part None = []
shown_part (Some shown) = (codes "shown", object (shown_members shown)) ∷ []

-- its tokens; for a private clause
abbrev pub shown_tokens : Option (List (List ℕ × Option Value)) → List Token
shown_tokens None = []
shown_tokens (Some shown) = member_tokens (codes "shown") (object (shown_members shown))

-- a row
abbrev pub row_data : Row → Option (List (List ℕ × Option Value)) → Data
row_data row shown = object_of ((codes "fields", fields_data row) ∷ (codes "key", key_data row.key) ∷ shown_part shown)

-- rows, with nothing beside them
abbrev pub row_items : List Row → Items
row_items rows = items_of (map (λ row. row_data row None) rows)

abbrev pub rows_data : List Row → Data
rows_data rows = object_of ((codes "rows", array (row_items rows)) ∷ [])
