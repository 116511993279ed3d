-- What accepted operations and batches leave, in words.
use Rattle.std.specs.Prelude.{◌≡◌, ℕ, Bool, false, List, [], ◌∷◌, Ok}
use Rattle.shop_defs.specs.declared.op.Op.{Op}
use Rattle.shop_defs.specs.declared.row.Row.{Row}
use Rattle.shop_requests.specs.declared.raw.RawOp.{RawOp}
use Rattle.shop_requests.specs.Operations.{reading}
use Rattle.shop_operations.specs.Operations.{operated}
use Rattle.shop_operations.specs.Outcomes.{Leaves}
use Rattle.shop_operations.specs.Views.{View}
use Rattle.shop_soundness.specs.Batches.{batch}

-- an accepted operation leaves what its kind leaves
abbrev pub OperationsLeave : Type 0
OperationsLeave = (view : View) (op : Op) (replay : Bool) (rows : List Row) → operated view op replay ≡ Ok rows → Leaves op.kind view op replay rows

-- operations, one after the other, each as it is read: each leaves what the next one finds
abbrev pub BatchLeaves : View → List RawOp → List Row → Type 0
BatchLeaves view [] rows = view.rows ≡ rows
BatchLeaves view (raw ∷ rest) rows = record { op : Op; read : reading raw ≡ Ok op; between : List Row; leaves : Leaves op.kind view op false between; rest : BatchLeaves (record view { rows = between }) rest rows }

-- an accepted batch leaves what its operations leave
abbrev pub BatchesLeave : Type 0
BatchesLeave = (view : View) (number : ℕ) (ops : List RawOp) (rows : List Row) → batch view number ops ≡ Ok rows → BatchLeaves view ops rows
