-- An accepted operation, and an accepted batch, leave rows that fit one another.
use Rattle.std.specs.Prelude.{◌≡◌, ◌≢◌, ℕ, true, Bool, List, [], Ok}
use Rattle.std.specs.List.{AllByRecursion}
use Rattle.shop_defs.specs.declared.op.Op.{Op}
use Rattle.shop_defs.specs.declared.op.OpKind.{OpKind}
use Rattle.shop_defs.specs.declared.op.OpKind.TheVariants.{Upsert, Delete}
use Rattle.shop_requests.specs.declared.raw.RawOp.{RawOp}
use Rattle.shop_defs.specs.declared.row.Row.{Row}
use Rattle.shop_defs.specs.Fitting.{is_writable, parts_fit}
use Rattle.shop_soundness.specs.Batches.{batch}
use Rattle.shop_operations.specs.Operations.{operated}
use Rattle.shop_operations.specs.Soundness.{IsCoherent}
use Rattle.shop_operations.specs.Views.{View, live_view}

-- where there are no rows, they are coherent
abbrev pub NoRowsAreCoherent : Type 0
NoRowsAreCoherent = IsCoherent (live_view [])

-- what an operation has to be beside accepted: the key of an upsert is of the form of its entity's keys, and a delete is
-- of a row that operations may write
abbrev pub IsFitFor : OpKind → Op → Type 0
IsFitFor Upsert op = parts_fit op.entity op.id op.second ≡ true
IsFitFor Delete op = is_writable op.entity ≡ true

-- an accepted operation keeps the rows of a view coherent
abbrev pub OperationsKeepCoherence : Type 0
OperationsKeepCoherence =
    (view : View) (op : Op) (replay : Bool) (rows : List Row) → IsCoherent view → IsFitFor op.kind op → operated view op replay ≡ Ok rows
    → IsCoherent (record view { rows = rows })

-- an accepted batch does so, too, if no operation has the id 0
abbrev pub BatchesKeepCoherence : Type 0
BatchesKeepCoherence =
    (view : View) (number : ℕ) (ops : List RawOp) (rows : List Row) → IsCoherent view → AllByRecursion (λ op. op.id ≢ 0) ops → batch view number ops ≡ Ok rows
    → IsCoherent (record view { rows = rows })
