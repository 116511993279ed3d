-- Where the rows that an operation leaves, and their values, come from.
use Rattle.std.specs.Prelude.{◌≡◌, ◌⊎◌, ℕ, Bool, List, Some, Ok}
use Rattle.closure.specs.Closure.{IsIn}
use Rattle.shop_defs.specs.declared.key.Key.{Key}
use Rattle.shop_defs.specs.declared.op.Op.{Op}
use Rattle.shop_requests.specs.declared.raw.RawOp.{RawOp}
use Rattle.shop_defs.specs.declared.row.Row.{Row}
use Rattle.shop_defs.specs.declared.table.FieldInfo.{FieldInfo}
use Rattle.shop_defs.specs.declared.value.Value.{Value}
use Rattle.shop_requests.specs.Operations.{reading}
use Rattle.shop_defs.specs.Presets.{preset_of}
use Rattle.shop_defs.specs.Tables.{fields_of}
use Rattle.shop_soundness.specs.Batches.{batch}
use Rattle.shop_operations.specs.Operations.{operated}
use Rattle.shop_operations.specs.Views.{View}

-- there was a row with the key
pub record HadRow (rows : List Row) (key : Key) : Type 0 where
  pub row : Row
  pub is_in : IsIn row rows
  pub same : row.key ≡ key

-- the row with the key had the field
pub record HadField (rows : List Row) (key : Key) (field : ℕ × Value) : Type 0 where
  pub row : Row
  pub is_in : IsIn row rows
  pub same : row.key ≡ key
  pub has : IsIn field row.fields

-- the operation is on the row with the key, and gives the field
pub record IsGiven (op : Op) (key : Key) (field : ℕ × Value) : Type 0 where
  pub entity : op.entity ≡ key.entity
  pub id : op.id ≡ key.id
  pub second : op.second ≡ key.second
  pub gives : IsIn (field.0, Some field.1) op.fields

-- one of the operations, as it is read, gives the field
pub record IsGivenIn (ops : List RawOp) (key : Key) (field : ℕ × Value) : Type 0 where
  pub raw : RawOp
  pub is_in : IsIn raw ops
  pub op : Op
  pub read : reading raw ≡ Ok op
  pub given : IsGiven op key field

-- the value is what a field of the key's entity holds where it would be null
pub record IsPreset (key : Key) (field : ℕ × Value) : Type 0 where
  pub info : FieldInfo
  pub is_in : IsIn info (fields_of key.entity)
  pub number : info.number ≡ field.0
  pub value : preset_of info ≡ Some field.1

-- each row was there, or is new in the view's version; and each field of a row was in it, is given, or is a preset
pub record ComesFrom (view : View) (Gives : Key → ℕ × Value → Type 0) (rows : List Row) : Type 0 where
  pub keys : (row : Row) → IsIn row rows → HadRow view.rows row.key ⊎ (row.key.version ≡ view.version)
  pub fields : (row : Row) (field : ℕ × Value) → IsIn row rows → IsIn field row.fields → HadField view.rows row.key field ⊎ (Gives row.key field ⊎ IsPreset row.key field)

-- an accepted operation makes up no row and no value
abbrev pub OperationsMakeUpNothing : Type 0
OperationsMakeUpNothing = (view : View) (op : Op) (replay : Bool) (rows : List Row) → operated view op replay ≡ Ok rows → ComesFrom view (IsGiven op) rows

-- nor does an accepted batch
abbrev pub BatchesMakeUpNothing : Type 0
BatchesMakeUpNothing = (view : View) (number : ℕ) (ops : List RawOp) (rows : List Row) → batch view number ops ≡ Ok rows → ComesFrom view (IsGivenIn ops) rows
