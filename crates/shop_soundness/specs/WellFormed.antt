-- Rows as their entities have them: what each must be by itself, whatever other rows there are.
use Rattle.std.specs.Prelude.{◌≡◌, ◌≢◌, ℕ, ◌<◌, true, not, Bool, List, [], filter, Ok}
use Rattle.std.specs.List.{list_all, AllByRecursion}
use Rattle.std.specs.Ordering.{nat_cmp}
use Rattle.keyed.specs.Keyed.{Ascends}
use Rattle.closure.specs.Closure.{IsIn}
use Rattle.shop_defs.specs.declared.op.Op.{Op}
use Rattle.shop_requests.specs.declared.raw.RawOp.{RawOp}
use Rattle.shop_defs.specs.declared.row.Row.{Row}
use Rattle.shop_defs.specs.Fitting.{field_fits, has_needed, is_writable, op_fits, row_key_fits}
use Rattle.shop_soundness.specs.Batches.{batch}
use Rattle.shop_operations.specs.Operations.{operated}
use Rattle.shop_operations.specs.Upserts.{field_number}
use Rattle.shop_operations.specs.Views.{View}

-- a row of an entity that operations may write, as the entity has it
pub record IsWellFormed (row : Row) : Type 0 where
  pub key : row_key_fits row.key ≡ true
  -- each field once, by rising numbers from 1 on
  pub rising : Ascends nat_cmp field_number row.fields
  pub from_one : AllByRecursion (λ field. 0 < field_number field) row.fields
  pub fields : list_all (field_fits row.key.entity) row.fields ≡ true
  -- no field is null that may not be
  pub needed : has_needed row ≡ true
  -- only commits of drafts have operations
  pub ops : row.ops ≡ []

-- so is each of the rows that operations may write
abbrev pub AreWellFormed : List Row → Type 0
AreWellFormed rows = (row : Row) → IsIn row rows → is_writable row.key.entity ≡ true → IsWellFormed row

-- the rows that operations may not write
abbrev pub unwritten : List Row → List Row
unwritten rows = filter (λ row. not (is_writable row.key.entity)) rows

-- an operation as it is read
pub record IsReadOp (op : Op) : Type 0 where
  pub fits : op_fits op ≡ true
  pub writable : is_writable op.entity ≡ true

-- the rows that operations may write are well formed, and the others are just those that were there
pub record KeepsRows (before after : List Row) : Type 0 where
  pub formed : AreWellFormed after
  pub others : unwritten after ≡ unwritten before

-- an accepted operation keeps rows well formed
abbrev pub OperationsKeepRows : Type 0
OperationsKeepRows =
    (view : View) (op : Op) (replay : Bool) (rows : List Row) → AreWellFormed view.rows → IsReadOp op → operated view op replay ≡ Ok rows
    → KeepsRows view.rows rows

-- an accepted batch does so, too, if no operation has the id 0
abbrev pub BatchesKeepRows : Type 0
BatchesKeepRows =
    (view : View) (number : ℕ) (ops : List RawOp) (rows : List Row) → AreWellFormed view.rows → AllByRecursion (λ op. op.id ≢ 0) ops → batch view number ops ≡ Ok rows
    → KeepsRows view.rows rows
