-- A fingerprint of what is unique about a row: half of a digest by SHA-256, as FIPS 180-4 defines it. Equal fields have equal
-- fingerprints, and nobody knows how to find others that have. No public contract cites this.
use Rattle.std.specs.Prelude.{ℕ, Bool, not, ◌&&◌, ◌||◌, List, [], ◌∷◌, ◌++◌, take, length, Option, Some, None, is_some, if◌then◌else◌}
use Rattle.std.specs.List.{flat_map, list_all}
use Rattle.std.specs.Int.{w64, w128, cast_unsigned, to_be_bytes, from_be_bytes}
use Rattle.sha2.specs.Sha256.{sha256}
use Rattle.shop_defs.specs.declared.row.Row.{Row}
use Rattle.shop_defs.specs.declared.table.FieldInfo.{FieldInfo}
use Rattle.shop_defs.specs.declared.value.Value.{Value}
use Rattle.shop_defs.specs.declared.value.Value.TheVariants as V
use Rattle.shop_defs.specs.Entities.{entity_number}
use Rattle.shop_defs.specs.Rows.{field_of}
use Rattle.shop_defs.specs.Tables.{fields_of}
use Rattle.shop_operations.specs.Upserts.{has_unique}

-- a text, after its kind and its length
abbrev pub text_bytes : List ℕ → List ℕ
text_bytes text = (2 ∷ to_be_bytes w64 (length text)) ++ text

-- a value, after its kind: what follows has a length that the kind or, of a text, the length tells
abbrev pub value_bytes : Value → List ℕ
value_bytes (V.Flag flag) = 0 ∷ (if flag then 1 else 0) ∷ []
value_bytes (V.Int number) = 1 ∷ to_be_bytes w64 (cast_unsigned w64 number)
value_bytes (V.Text text) = text_bytes text
value_bytes (V.Ident id) = 3 ∷ to_be_bytes w128 id

abbrev pub given_bytes : Option Value → List ℕ
given_bytes None = []
given_bytes (Some value) = value_bytes value

-- what the row has in a field, where that is unique
abbrev pub field_bytes : Row → FieldInfo → List ℕ
field_bytes row field = if field.marks.unique then given_bytes (field_of row field.number) else []

-- the row's entity, a version and the row's unique fields: where each of them is given, no other such values have these bytes
abbrev pub message : ℕ → Row → List ℕ
message version row = (entity_number row.key.entity ∷ to_be_bytes w128 version) ++ flat_map (field_bytes row) (fields_of row.key.entity)

-- the row has the field, where that is unique
abbrev pub has_where_unique : Row → FieldInfo → Bool
has_where_unique row field = not field.marks.unique || is_some (field_of row field.number)

-- the row's entity has unique fields, and the row has each of them
abbrev pub has_print : Row → Bool
has_print row = has_unique row.key.entity && list_all (has_where_unique row) (fields_of row.key.entity)

-- the first 16 of 32 bytes, as a number
abbrev pub first_half : List ℕ → ℕ
first_half digest = from_be_bytes w128 (take 16 digest)

-- half of the digest of a message
abbrev pub half_digest : List ℕ → ℕ
half_digest bytes = first_half (sha256 bytes)

-- the fingerprint of the row's entity, a version and the row's unique fields: none where one of them is null, or none is unique
unfoldable pub print_in : ℕ → Row → Option ℕ
print_in version row = if has_print row then Some (half_digest (message version row)) else None

-- the same with the row's own version
abbrev pub print_of : Row → Option ℕ
print_of row = print_in row.key.version row
