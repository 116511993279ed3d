-- What the plan of one operation answers.
use Rattle.std.specs.Prelude.{◌≡◌, ◌⊎◌, Bool, List, map, Result, Ok, Err}
use Rattle.std.specs.List.{AllByRecursion}
use Rattle.closure.specs.Closure.{IsIn}
use Rattle.shop_defs.specs.declared.delta.Delta.{Delta}
use Rattle.shop_defs.specs.declared.key.Key.{Key}
use Rattle.shop_defs.specs.declared.op.Op.{Op}
use Rattle.shop_defs.specs.declared.refused.PlanFault.{PlanFault}
use Rattle.shop_defs.specs.declared.refused.PlanFault.TheVariants as F
use Rattle.shop_defs.specs.Joined.{Change}
use Rattle.shop_defs.specs.Rows.{row_key}
use Rattle.shop_operations.specs.Operations.{operated}
use Rattle.shop_operations.specs.Outcomes.{Leaves}
use Rattle.shop_operations.specs.Views.{View, change_places}
use Rattle.shop_rows.specs.Changing.{StandUnderTheirKeys, HasAscendingKeys}

-- the key has the view's version, or is the own key of a row of the view
abbrev pub IsOfView : View → Key → Type 0
IsOfView view key = (key.version ≡ view.version) ⊎ IsIn key (map row_key view.rows)

-- the changes are those of the operation: their keys ascend, each row stands under its key, and each key is of the view
pub record IsPlan (view : View) (op : Op) (replay : Bool) (changes : List Change) : Type 0 where
  pub rows : operated view op replay ≡ Ok (change_places view.rows changes)
  pub ascends : HasAscendingKeys changes
  pub stand : StandUnderTheirKeys changes
  pub keys : AllByRecursion (λ change. IsOfView view change.0) changes

-- the fault is want of memory, or names the rule that the operation breaks, with no number of an operation
abbrev pub IsPlanFault : View → Op → Bool → PlanFault → Type 0
IsPlanFault view op replay F.NoMemory = Unit {0}
IsPlanFault view op replay (F.Refused refused) = (refused.op ≡ 0) × (operated view op replay ≡ Err refused.broken)

-- the answer is the plan of the operation on the view, or says why there is none
abbrev pub Planned : View → Op → Bool → Result Delta PlanFault → Type 0
Planned view op replay (Ok delta) = IsPlan view op replay delta.changes
Planned view op replay (Err fault) = IsPlanFault view op replay fault

-- what the changes leave of the view's rows is what an operation leaves, in words
abbrev pub PlanLeaves : View → Op → Bool → Result Delta PlanFault → Type 0
PlanLeaves view op replay (Ok delta) = Leaves op.kind view op replay (change_places view.rows delta.changes)
PlanLeaves view op replay (Err fault) = Unit {0}
