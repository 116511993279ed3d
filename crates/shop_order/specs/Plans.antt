-- What the plans of commands answer.
use Rattle.std.specs.Prelude.{◌≡◌, ℤ, List, Result, Ok, Err}
use Rattle.shop_defs.specs.declared.broken.Broken.{Broken}
use Rattle.shop_defs.specs.declared.delta.Delta.{Delta}
use Rattle.shop_defs.specs.declared.refused.PlanFault.{PlanFault}
use Rattle.shop_defs.specs.declared.refused.PlanFault.TheVariants as F
use Rattle.shop_defs.specs.declared.row.Row.{Row}
use Rattle.shop_defs.specs.Joined.{Change}
use Rattle.shop_defs.specs.Rows.{change_rows}
use Rattle.shop_rows.specs.Changing.{StandUnderTheirKeys, HasAscendingKeys}

-- the changes make of the rows what is to come of them; their keys ascend, and each row stands under its key
pub record IsPlanOf (before : List Row) (outcome : Result (List Row) Broken) (changes : List Change) : Type 0 where
  pub rows : outcome ≡ Ok (change_rows before changes)
  pub ascends : HasAscendingKeys changes
  pub stand : StandUnderTheirKeys changes

-- the fault is want of memory, or the refusal, which is of no operation
abbrev pub IsFaultOf : Result (List Row) Broken → PlanFault → Type 0
IsFaultOf outcome F.NoMemory = Unit {0}
IsFaultOf outcome (F.Refused refused) = (refused.op ≡ 0) × (outcome ≡ Err refused.broken)

-- the answer is changes that make what is to come of the rows, with that value, or says why there are none
abbrev pub Plans : List Row → Result (List Row) Broken → ℤ → Result (Delta × ℤ) PlanFault → Type 0
Plans rows outcome value (Ok plan) = IsPlanOf rows outcome plan.0.changes × (plan.1 ≡ value)
Plans rows outcome value (Err fault) = IsFaultOf outcome fault
