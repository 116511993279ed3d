-- The rule `kind`: the key, the fields and the operations that a row of an entity may have.
use Rattle.std.specs.Prelude.{◌≡◌, IsTrue, ◌<◌, ◌^◌, ℕ, pos, Bool, true, false, ◌==◌, ◌&&◌, length, if◌then◌else◌, Option, Some, None}
use Rattle.std.specs.List.{list_all, AllByRecursion}
use Rattle.std.specs.Ordering.{int_eq}
use Rattle.shop_defs.specs.declared.entity.Entity.{Entity}
use Rattle.shop_defs.specs.declared.entity.Entity.TheVariants as E
use Rattle.shop_defs.specs.declared.op.Op.{Op}
use Rattle.shop_defs.specs.declared.row.Row.{Row}
use Rattle.shop_defs.specs.declared.table.EntityInfo.{EntityInfo}
use Rattle.shop_defs.specs.declared.value.Value.{Value}
use Rattle.shop_defs.specs.declared.value.Value.TheVariants as V
use Rattle.shop_defs.specs.Entities.{entity_number}
use Rattle.shop_defs.specs.Fitting.{field_fits, is_writable, op_fits, row_key_fits}
use Rattle.shop_defs.specs.Rows.{field_of}
use Rattle.shop_defs.specs.Tables.{info_of}
use Rattle.shop_kept.specs.Spelling.{rises, FitsRow}
use Rattle.shop_operations.specs.References.{is_live}
use Rattle.shop_check.specs.declared.kind.TheConstants.{COMMIT_COUNT}

abbrev pub line_has_versions : Option EntityInfo → Bool
line_has_versions (Some info) = info.has_versions
line_has_versions None = false

-- rows of the entity may stand in versions beside the live one
abbrev pub has_versions : Entity → Bool
has_versions entity = line_has_versions (info_of entity)

-- a commit of a draft may hold the operation: on an entity with versions, with a key and fields of that entity
abbrev pub is_change : Op → Bool
is_change op = has_versions op.entity && op_fits op

-- the value is the number, and a missing value is 0
abbrev pub is_count : Option Value → ℕ → Bool
is_count None number = number == 0
is_count (Some (V.Int count)) number = int_eq count (pos number)
is_count (Some value) number = false

-- there are as many operations as the row says, and a commit may hold each of them
abbrev pub has_changes : Row → Bool
has_changes row = is_count (field_of row COMMIT_COUNT) (length row.ops) && list_all is_change row.ops

-- a commit of a draft has its operations, and a row of any other entity has none
abbrev pub ops_fit : Row → Bool
ops_fit row = if entity_number row.key.entity == entity_number E.DraftCommit then has_changes row else (length row.ops == 0)

-- the key, each field and the operations are as the row's entity has them
abbrev pub is_of_its_kind : Row → Bool
is_of_its_kind row = row_key_fits row.key && (list_all (field_fits row.key.entity) row.fields && ops_fit row)

-- what is served so far: a live row of an entity that operations may write
abbrev pub is_served : Row → Bool
is_served row = is_live row && is_writable row.key.entity

-- the rule
abbrev pub passes_kind : Row → Bool
passes_kind row = is_of_its_kind row && is_served row

-- the fields of the row, and those of each of its operations, are numbered upward from 1
pub record HasRisingNumbers (row : Row) : Type 0 where
  pub fields : rises 0 row.fields ≡ true
  pub ops : AllByRecursion (λ op. rises 0 op.fields ≡ true) row.ops

-- what is of its kind has a place in the kept format, unless it has too many operations
abbrev pub KindsAreKept : Type 0
KindsAreKept = (row : Row) → HasRisingNumbers row → length row.ops < 2 ^ 32 → IsTrue (is_of_its_kind row) → FitsRow row
