-- What the plans of making, dropping and merging drafts answer.
use Rattle.std.specs.Prelude.{◌≡◌, ◌+◌, ℕ, List, length, Option, Some, None, Result, Ok, Err}
use Rattle.shop_defs.specs.declared.broken.Broken.{Broken}
use Rattle.shop_defs.specs.declared.delta.Delta.{Delta}
use Rattle.shop_defs.specs.declared.entity.Entity.{Entity}
use Rattle.shop_defs.specs.declared.refused.PlanFault.{PlanFault}
use Rattle.shop_defs.specs.declared.refused.PlanFault.TheVariants as F
use Rattle.shop_defs.specs.declared.row.Row.{Row}
use Rattle.shop_defs.specs.Joined.{Change}
use Rattle.shop_defs.specs.Rows.{change_rows}
use Rattle.shop_defs.specs.Tables.{entity_named}
use Rattle.shop_rows.specs.Changing.{StandUnderTheirKeys, HasAscendingKeys}
use Rattle.shop_drafts.specs.Making.{copied_count}
use Rattle.shop_drafts.specs.Merging.{merge, merged_count}

-- the changes make of the rows what is to come of them; their keys ascend, and each row stands under its key
pub record IsPlanOf (before : List Row) (outcome : Result (List Row) Broken) (changes : List Change) : Type 0 where
  pub rows : outcome ≡ Ok (change_rows before changes)
  pub ascends : HasAscendingKeys changes
  pub stand : StandUnderTheirKeys changes

-- the fault is want of memory, or the refusal, which is of no operation
abbrev pub IsFaultOf : Result (List Row) Broken → PlanFault → Type 0
IsFaultOf outcome F.NoMemory = Unit {0}
IsFaultOf outcome (F.Refused refused) = (refused.op ≡ 0) × (outcome ≡ Err refused.broken)

-- the answer is changes that make what is to come of the rows, or says why there are none
abbrev pub Plans : List Row → Result (List Row) Broken → Result Delta PlanFault → Type 0
Plans rows outcome (Ok delta) = IsPlanOf rows outcome delta.changes
Plans rows outcome (Err fault) = IsFaultOf outcome fault

-- the answer is the changes of the merge and how many operations are replayed, or says why there are none
abbrev pub PlansMerge : List Row → ℕ → Result (Delta × ℕ) PlanFault → Type 0
PlansMerge rows version (Ok plan) = IsPlanOf rows (merge rows version) plan.0.changes × (plan.1 ≡ merged_count rows version)
PlansMerge rows version (Err fault) = IsFaultOf (merge rows version) fault

-- how many rows are copied where a draft is made of the row of that entity, if it is one, with that id
abbrev pub copies_of : List Row → ℕ → ℕ → Option Entity → ℕ
copies_of rows version id None = 0
copies_of rows version id (Some entity) = copied_count rows version (record { entity = entity; id = id })

-- the changes are one for each copied row, and one more
abbrev pub TellsCopies : List Row → ℕ → List ℕ → ℕ → Result Delta PlanFault → Type 0
TellsCopies rows version name id (Ok delta) = length delta.changes ≡ copies_of rows version id (entity_named name) + 1
TellsCopies rows version name id (Err fault) = Unit {0}
