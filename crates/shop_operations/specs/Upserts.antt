-- The row that an upsert leaves, and the rules that it may break.
use Rattle.std.specs.Prelude.{ℕ, Bool, true, false, ◌==◌, ◌+◌, ◌&&◌, ◌||◌, nat_lt, not, List, [], filter, find, Option, Some, None, is_some, is_none, if◌then◌else◌, count_by}
use Rattle.std.specs.List.{fold, list_any, list_all}
use Rattle.std.specs.Option.{option_map, unwrap_or}
use Rattle.std.specs.Ordering.{nat_cmp, ordering_then, is_lt, int_eq}
use Rattle.std.specs.Cmp.Lexicographic.{slice_cmp}
use Rattle.std.specs.declared.cmp.Ordering.{Ordering}
use Rattle.std.specs.Str.{bytes_eq}
use Rattle.keyed.specs.Keyed.{put, without}
use Rattle.shop_defs.specs.declared.broken.Broken.{Broken}
use Rattle.shop_defs.specs.declared.broken.Broken.TheVariants as B
use Rattle.shop_defs.specs.declared.entity.Entity.{Entity}
use Rattle.shop_defs.specs.declared.key.Key.{Key}
use Rattle.shop_defs.specs.declared.row.Row.{Row}
use Rattle.shop_defs.specs.declared.op.Op.{Op}
use Rattle.shop_defs.specs.declared.value.Value.{Value}
use Rattle.shop_defs.specs.declared.value.Value.TheVariants as V
use Rattle.shop_defs.specs.declared.table.FieldInfo.{FieldInfo}
use Rattle.shop_defs.specs.declared.table.OwnerLimit.{OwnerLimit}
use Rattle.shop_defs.specs.declared.table.Part.{Part}
use Rattle.shop_defs.specs.declared.table.Part.TheVariants as P
use Rattle.shop_defs.specs.declared.table.Reference.{Reference}
use Rattle.shop_defs.specs.declared.table.TheConstants.{REFERENCES, LEVEL_LIMITS, OWNER_LIMITS, MOST_ROWS}
use Rattle.shop_defs.specs.Entities.{entity_number}
use Rattle.shop_defs.specs.Presets.{preset_of}
use Rattle.shop_defs.specs.References.{part_name}
use Rattle.shop_defs.specs.Rows.{field_in, field_of, row_key}
use Rattle.shop_defs.specs.Tables.{fields_of}
use Rattle.shop_defs.specs.Texts.{field_text}
use Rattle.shop_operations.specs.References.{is_entity, is_id, part_of, named, ties, is_met}
use Rattle.shop_operations.specs.Parents.{is_parental, is_below, is_deep}
use Rattle.shop_operations.specs.Deletes.{stands_at}

-- ---- places

-- the order of places: of keys, without the version
abbrev pub place_cmp : Key → Key → Ordering
place_cmp a b = ordering_then (nat_cmp (entity_number a.entity) (entity_number b.entity)) (ordering_then (nat_cmp a.id b.id) (nat_cmp a.second b.second))

-- rows with a row at its place
abbrev pub with_row : List Row → Row → List Row
with_row rows row = put place_cmp row_key rows row

-- the row at the key's place
abbrev pub row_in : List Row → Key → Option Row
row_in rows key = find (stands_at key) rows

-- ---- the row that is left

abbrev pub field_number : ℕ × Value → ℕ
field_number field = field.0

-- the fields with what is given for one of them: null takes it out
abbrev pub give : List (ℕ × Value) → ℕ × Option Value → List (ℕ × Value)
give fields (number, None) = without nat_cmp field_number fields number
give fields (number, Some value) = put nat_cmp field_number fields (number, value)

-- the fields with what a field holds where it would be null
abbrev pub fill : List (ℕ × Value) → FieldInfo → List (ℕ × Value)
fill fields field = if is_some (field_in fields field.number) then fields else give fields (field.number, preset_of field)

-- a row without fields
abbrev pub bare_row : Key → Row
bare_row key = record { key = key; fields = []; ops = [] }

-- the row with what an operation gives, and then with the presets where it would be null
abbrev pub given_to : Row → Op → Row
given_to row op = record row { fields = fold fill (fold give row.fields op.fields) (fields_of row.key.entity) }

-- the row that an upsert leaves at a place
unfoldable pub left : List Row → Key → Op → Row
left rows key op = given_to (unwrap_or (row_in rows key) (bare_row key)) op

-- ---- the rules, each with the first place at which it is broken

-- both are the same value, or both are null
abbrev pub same_value : Option Value → Option Value → Bool
same_value None None = true
same_value (Some (V.Flag a)) (Some (V.Flag b)) = if a then b else not b
same_value (Some (V.Int a)) (Some (V.Int b)) = int_eq a b
same_value (Some (V.Text a)) (Some (V.Text b)) = bytes_eq a b
same_value (Some (V.Ident a)) (Some (V.Ident b)) = a == b
same_value a b = false

-- the two rows have the same in the field
abbrev pub agree_in : ℕ → Row → Row → Bool
agree_in number row other = same_value (field_of row number) (field_of other number)

-- the one of two with the lesser name
abbrev pub lesser : {X : Type 0} → (X → List ℕ) → Option X → X → Option X
lesser name None x = Some x
lesser name (Some y) x = if is_lt (slice_cmp nat_cmp (name x) (name y)) then Some x else Some y

-- the one with the least name, by its bytes
abbrev pub least : {X : Type 0} → (X → List ℕ) → List X → Option X
least name xs = fold (lesser name) None xs

abbrev pub field_name : FieldInfo → List ℕ
field_name field = field_text field.name

-- the first by name of the fields of the entity of which the test holds
abbrev pub least_field : Entity → (FieldInfo → Bool) → Option FieldInfo
least_field entity test = least field_name (filter test (fields_of entity))

-- a fixed field of the row that was there, which has another value afterwards
abbrev pub fixed_field : Option Row → Row → Option Broken
fixed_field None row = None
fixed_field (Some before) row = option_map (λ field. B.FixedField (field_name field)) (least_field row.key.entity (λ field. field.marks.fixed && not (agree_in field.number before row)))

-- a required field that is null
abbrev pub missing_required : Row → Option Broken
missing_required row = option_map (λ field. B.MissingRequired (field_name field)) (least_field row.key.entity (λ field. field.marks.required && is_none (field_of row field.number)))

-- the operation gives the field
abbrev pub gives : Op → ℕ → Bool
gives op number = list_any (λ entry. entry.0 == number) op.fields

-- the operation gives what stands in the part: both parts of a key are always given
abbrev pub gives_part : Op → Part → Bool
gives_part op (P.Field number) = gives op number
gives_part op part = true

-- the rows are nodes of the same tree, where the reference is one between nodes
abbrev pub agree_within : Option ℕ → Row → Row → Bool
agree_within None row other = true
agree_within (Some number) row other = agree_in number row other

-- no row that is named by the reference is a node of another tree
abbrev pub is_of_tree : Reference → List Row → Row → Bool
is_of_tree reference rows row = list_all (λ other. not (ties reference row other) || agree_within reference.within row other) rows

-- the name of the part that a reference stands in
abbrev pub reference_name : Reference → List ℕ
reference_name reference = unwrap_or (part_name reference.entity reference.part) []

-- the reference is one of the row, it is given, and names no row or a node of another tree
abbrev pub is_missing : List Row → Op → Row → Reference → Bool
is_missing rows op row reference = is_entity reference.entity row.key.entity && gives_part op reference.part && not (is_met reference rows row && is_of_tree reference rows row)

-- a given reference that names no row, or a node of another tree
abbrev pub missing_reference : List Row → Op → Row → Option Broken
missing_reference rows op row = option_map (λ reference. B.MissingReference (reference_name reference) (unwrap_or (named reference row) 0)) (least reference_name (filter (is_missing rows op row) REFERENCES))

-- both are the same value, and not null
abbrev pub same_given : Option Value → Option Value → Bool
same_given a b = is_some a && same_value a b

-- the entity has fields that are unique together
abbrev pub has_unique : Entity → Bool
has_unique entity = list_any (λ field. field.marks.unique) (fields_of entity)

-- the two rows have the same in all unique fields of the entity, none of them null
abbrev pub agree_in_unique : Entity → Row → Row → Bool
agree_in_unique entity row other = list_all (λ field. not field.marks.unique || same_given (field_of row field.number) (field_of other field.number)) (fields_of entity)

-- another row of the same entity with the same unique fields, none of them null
unfoldable pub is_twin : Row → Row → Bool
is_twin row other = is_entity row.key.entity other.key.entity && not (stands_at row.key other) && has_unique row.key.entity && agree_in_unique row.key.entity row other

-- the first such row
abbrev pub duplicate : List Row → Row → Option Broken
duplicate rows row = option_map (λ other. B.Duplicate other.key) (find (is_twin row) rows)

-- the operation gives the parent
abbrev pub gives_parent : Op → Bool
gives_parent op = list_any (λ reference. is_parental op.entity reference && gives_part op reference.part) REFERENCES

-- a parent is given, and the row is below itself
abbrev pub parent_cycle : List Row → Op → Row → Option Broken
parent_cycle rows op row = if gives_parent op && is_below REFERENCES rows row row then Some (B.ParentCycle row.key.id) else None

-- the other is the row, or below it, and stands too low
abbrev pub sinks : List Row → Row → Row → Bool
sinks rows row other = (stands_at row.key other || is_below REFERENCES rows row other) && is_deep REFERENCES LEVEL_LIMITS rows other

-- a parent is given, and the row or one below it stands too low: the first such row, which has the least id
abbrev pub parent_too_deep : List Row → Op → Row → Option Broken
parent_too_deep rows op row = if gives_parent op then option_map (λ other. B.ParentTooDeep other.key.id) (find (sinks rows row) rows) else None

-- ---- limits on how many rows there are

-- both are the same id
abbrev pub same_id : Option ℕ → Option ℕ → Bool
same_id None other = false
same_id (Some id) other = is_id other id

-- the other row is of the limit's entity, and belongs to the same owner as the row
abbrev pub is_of_owner : OwnerLimit → Row → Row → Bool
is_of_owner limit row other = is_entity limit.entity other.key.entity && same_id (part_of limit.owner row) (part_of limit.owner other)

-- how many rows of an entity there are, with those that aren't shown
abbrev pub count_of : (Entity → ℕ) → List Row → Entity → ℕ
count_of hidden rows entity = count_by (λ row. is_entity entity row.key.entity) rows + hidden entity

-- the row's owner has more rows than the limit allows
abbrev pub owner_is_full : List Row → Row → OwnerLimit → Bool
owner_is_full rows row limit = is_entity limit.entity row.key.entity && nat_lt limit.most (count_by (is_of_owner limit row) rows)

-- there are more rows of the row's entity than there may be, or more of its owner
abbrev pub too_many : (Entity → ℕ) → List Row → Row → Option Broken
too_many hidden rows row =
    if nat_lt MOST_ROWS (count_of hidden rows row.key.entity)
    then Some (B.TooMany row.key.entity MOST_ROWS)
    else option_map (λ limit. B.TooMany row.key.entity limit.most) (find (owner_is_full rows row) OWNER_LIMITS)
