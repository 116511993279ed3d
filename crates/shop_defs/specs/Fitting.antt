-- What a key, a field, an operation and a row may be, by their entity.
use Rattle.std.specs.Prelude.{ℕ, Bool, false, not, ◌==◌, ◌&&◌, filter, Option, Some, None, is_some}
use Rattle.std.specs.List.{list_all}
use Rattle.shop_defs.specs.declared.entity.Entity.{Entity}
use Rattle.shop_defs.specs.declared.key.Key.{Key}
use Rattle.shop_defs.specs.declared.value.Value.{Value}
use Rattle.shop_defs.specs.declared.op.Op.{Op}
use Rattle.shop_defs.specs.declared.row.Row.{Row}
use Rattle.shop_defs.specs.declared.table.EntityInfo.{EntityInfo}
use Rattle.shop_defs.specs.declared.table.FieldInfo.{FieldInfo}
use Rattle.shop_defs.specs.declared.table.KeyForm.{KeyForm}
use Rattle.shop_defs.specs.declared.table.KeyForm.TheVariants.{OnePart, TwoParts}
use Rattle.shop_defs.specs.Tables.{info_of, field_at, fields_of}
use Rattle.shop_defs.specs.Checks.{fits, null_or_fits}
use Rattle.shop_defs.specs.Presets.{is_needed}
use Rattle.shop_defs.specs.Rows.{field_of}

-- the id isn't 0, and the second part is 0 exactly in a key of one part
abbrev pub key_fits : KeyForm → ℕ → ℕ → Bool
key_fits OnePart id second = not (id == 0) && (second == 0)
key_fits TwoParts id second = not (id == 0) && not (second == 0)

abbrev pub line_key_fits : Option EntityInfo → ℕ → ℕ → Bool
line_key_fits (Some info) id second = key_fits info.key id second
line_key_fits None id second = false

-- the two parts are of the form of the entity's keys
abbrev pub parts_fit : Entity → ℕ → ℕ → Bool
parts_fit entity id second = line_key_fits (info_of entity) id second

-- a row's key is of the form of its entity's keys: nothing is said of its version
abbrev pub row_key_fits : Key → Bool
row_key_fits key = parts_fit key.entity key.id key.second

abbrev pub line_is_writable : Option EntityInfo → Bool
line_is_writable (Some info) = info.is_writable
line_is_writable None = false

-- operations may write the entity's rows
abbrev pub is_writable : Entity → Bool
is_writable entity = line_is_writable (info_of entity)

abbrev pub line_fits : Option FieldInfo → Value → Bool
line_fits (Some info) value = fits info.kind value
line_fits None value = false

-- the entity has a field of that number, and the value fits its kind
abbrev pub field_fits : Entity → ℕ × Value → Bool
field_fits entity field = line_fits (field_at entity field.0) field.1

abbrev pub line_given_fits : Option FieldInfo → Option Value → Bool
line_given_fits (Some info) value = null_or_fits info.kind value
line_given_fits None value = false

-- the entity has a field of that number, and what is given for it is null or a value that fits
abbrev pub given_fits : Entity → ℕ × Option Value → Bool
given_fits entity field = line_given_fits (field_at entity field.0) field.1

-- the operation's key and fields are its entity's: whether operations may write the entity is another question
abbrev pub op_fits : Op → Bool
op_fits op = parts_fit op.entity op.id op.second && list_all (given_fits op.entity) op.fields

-- each field of the row's entity that is never null has a value in the row
abbrev pub has_needed : Row → Bool
has_needed row = list_all (λ field. is_some (field_of row field.number)) (filter is_needed (fields_of row.key.entity))
