-- What the plan of a batch on the live rows answers.
use Rattle.std.specs.Prelude.{◌≡◌, ◌≢◌, ℕ, List, Result, Ok, Err}
use Rattle.std.specs.List.{AllByRecursion}
use Rattle.shop_defs.specs.declared.delta.Delta.{Delta}
use Rattle.shop_requests.specs.declared.raw.RawOp.{RawOp}
use Rattle.shop_defs.specs.declared.refused.PlanFault.{PlanFault}
use Rattle.shop_defs.specs.declared.refused.PlanFault.TheVariants as F
use Rattle.shop_defs.specs.declared.row.Row.{Row}
use Rattle.shop_defs.specs.Joined.{Change}
use Rattle.shop_defs.specs.Rows.{change_rows}
use Rattle.shop_soundness.specs.Batches.{done, live_batch}
use Rattle.shop_soundness.specs.Outcomes.{BatchLeaves}
use Rattle.shop_operations.specs.References.{live}
use Rattle.shop_operations.specs.Views.{View, drafted, live_view}
use Rattle.shop_rows.specs.Changing.{StandUnderTheirKeys, HasAscendingKeys}
use Rattle.shop_write.specs.Growth.{AreLive}

-- each operation has an id
abbrev pub HaveIds : List RawOp → Type 0
HaveIds ops = AllByRecursion (λ op. op.id ≢ 0) ops

-- the changes are those of the batch: they make the live rows what the operations leave, and leave the rows of drafts; their
-- keys are live and ascend, and each row stands under its key
pub record IsBatchPlan (rows : List Row) (ops : List RawOp) (changes : List Change) : Type 0 where
  pub batch : live_batch rows ops ≡ Ok (live (change_rows rows changes))
  pub drafts : drafted (change_rows rows changes) ≡ drafted rows
  pub ascends : HasAscendingKeys changes
  pub stand : StandUnderTheirKeys changes
  pub are_live : AreLive changes

-- the fault is want of memory, or the first refusal of the batch, with the number of its operation
abbrev pub IsBatchFault : List Row → List RawOp → PlanFault → Type 0
IsBatchFault rows ops F.NoMemory = Unit {0}
IsBatchFault rows ops (F.Refused refused) = live_batch rows ops ≡ Err refused

-- the answer is the plan of the batch, or says why there is none
abbrev pub PlansBatch : List Row → List RawOp → Result Delta PlanFault → Type 0
PlansBatch rows ops (Ok delta) = IsBatchPlan rows ops delta.changes
PlansBatch rows ops (Err fault) = IsBatchFault rows ops fault

-- what the changes leave of the live rows is what the operations leave, one after the other, in words
abbrev pub BatchPlanLeaves : List Row → List RawOp → Result Delta PlanFault → Type 0
BatchPlanLeaves rows ops (Ok delta) = BatchLeaves (live_view rows) ops (live (change_rows rows delta.changes))
BatchPlanLeaves rows ops (Err fault) = Unit {0}

-- ---- one operation of it

-- the fault is want of memory, or names the rule that the operation breaks
abbrev pub IsDoneFault : View → RawOp → PlanFault → Type 0
IsDoneFault view op F.NoMemory = Unit {0}
IsDoneFault view op (F.Refused refused) = done view op ≡ Err refused.broken

-- the fault is want of memory, or names the rule that the operation breaks, with its number
abbrev pub IsNumberedFault : View → ℕ → RawOp → PlanFault → Type 0
IsNumberedFault view number op F.NoMemory = Unit {0}
IsNumberedFault view number op (F.Refused refused) = (refused.op ≡ number) × (done view op ≡ Err refused.broken)
