-- What the plan of a batch in a draft answers.
use Rattle.std.specs.Prelude.{◌≡◌, ◌≢◌, ℕ, true, List, Some, Result, Ok, Err}
use Rattle.std.specs.List.{list_all}
use Rattle.shop_defs.specs.declared.delta.Delta.{Delta}
use Rattle.shop_defs.specs.declared.op.Op.{Op}
use Rattle.shop_defs.specs.declared.refused.PlanFault.{PlanFault}
use Rattle.shop_defs.specs.declared.refused.PlanFault.TheVariants as F
use Rattle.shop_defs.specs.declared.row.Row.{Row}
use Rattle.shop_defs.specs.Fitting.{row_key_fits}
use Rattle.shop_defs.specs.Joined.{Change}
use Rattle.shop_defs.specs.Rows.{change_rows}
use Rattle.shop_requests.specs.declared.raw.RawOp.{RawOp}
use Rattle.shop_operations.specs.References.{of_version}
use Rattle.shop_rows.specs.Changing.{StandUnderTheirKeys, HasAscendingKeys}
use Rattle.shop_soundness.specs.Batches.{batch}
use Rattle.shop_write.specs.Writes.{TakesUpsert}
use Rattle.shop_drafts.specs.Drafts.{draft_view, root_in}
use Rattle.shop_drafts.specs.Laws.{OthersShowTheSame}
use Rattle.shop_drafts.specs.Making.{dropped}
use Rattle.shop_drafts.specs.Writing.{draft_write}
use Rattle.shop_drafts.specs.declared.aggregate.Root.{Root}

-- each key is of its entity's form
abbrev pub AreFormed : List Row → Type 0
AreFormed rows = list_all (λ row. row_key_fits row.key) rows ≡ true

-- the changes make the rows that the batch leaves; their keys ascend, and each row stands under its key
pub record IsWritePlan (rows : List Row) (version : ℕ) (ops : List RawOp) (changes : List Change) : Type 0 where
  pub written : draft_write rows version ops ≡ Ok (change_rows rows changes)
  pub ascends : HasAscendingKeys changes
  pub stand : StandUnderTheirKeys changes

-- the fault is want of memory, or the first refusal, with the number of its operation
abbrev pub IsWriteFault : List Row → ℕ → List RawOp → PlanFault → Type 0
IsWriteFault rows version ops F.NoMemory = Unit {0}
IsWriteFault rows version ops (F.Refused refused) = draft_write rows version ops ≡ Err refused

-- the answer is the plan of the batch in the draft, or says why there is none
abbrev pub PlansWrite : List Row → ℕ → List RawOp → Result Delta PlanFault → Type 0
PlansWrite rows version ops (Ok delta) = IsWritePlan rows version ops delta.changes
PlansWrite rows version ops (Err fault) = IsWriteFault rows version ops fault

-- the batch is done over what the version's draft shows, by the root that its row names: the draft's rows are then those of its
-- version that the operations leave of it
pub record IsBatchInView (rows : List Row) (version : ℕ) (ops : List RawOp) (after : List Row) : Type 0 where
  pub root : Root
  pub rooted : root_in rows version ≡ Some root
  pub shown : List Row
  pub batch : batch (draft_view rows version root) 1 ops ≡ Ok shown
  pub own : of_version version after ≡ of_version version shown

-- what the changes leave, in words: all rows that aren't of the draft, and what live and each other draft show, stay as they
-- were; and the draft's own rows are what the same operations leave of what it shows
pub record LeavesOthers (rows : List Row) (version : ℕ) (ops : List RawOp) (after : List Row) : Type 0 where
  pub rest : dropped after version ≡ dropped rows version
  pub others : OthersShowTheSame version rows after

abbrev pub WriteLeavesOthers : List Row → ℕ → List RawOp → Result Delta PlanFault → Type 0
WriteLeavesOthers rows version ops (Ok delta) = LeavesOthers rows version ops (change_rows rows delta.changes)
WriteLeavesOthers rows version ops (Err fault) = Unit {0}

abbrev pub WriteIsBatch : List Row → ℕ → List RawOp → Result Delta PlanFault → Type 0
WriteIsBatch rows version ops (Ok delta) = IsBatchInView rows version ops (change_rows rows delta.changes)
WriteIsBatch rows version ops (Err fault) = Unit {0}

-- what a draft shows is what any operation asks of a view
abbrev pub DraftsTakeUpserts : Type 0
DraftsTakeUpserts = (rows : List Row) (version : ℕ) (root : Root) (op : Op) → AreFormed rows → version ≢ 0 → TakesUpsert (draft_view rows version root) op
