-- What plans leave, in words.
use Rattle.std.proofs.Common.{◌≡◌, ℕ, ℤ, List, Result, Ok, Err}
use Rattle.shop_defs.specs.declared.delta.Delta.{Delta}
use Rattle.shop_defs.specs.declared.refused.PlanFault.{PlanFault}
use Rattle.shop_defs.specs.declared.row.Row.{Row}
use Rattle.shop_defs.specs.Rows.{change_rows}
use Rattle.shop_requests.specs.declared.command.Action.{Action}
use Rattle.shop_order.specs.Adjusting.{adjust}
use Rattle.shop_order.specs.Checked.{AreChecked}
use Rattle.shop_order.specs.Held.{AreStocked, KeepsStock}
use Rattle.shop_order.specs.Plans.{Plans}
use Rattle.shop_order.specs.Steps.{step, StateMoves}
use Rattle.shop_order.proofs.Stocked.{adjust_stocked}
use Rattle.shop_order.proofs.Stepped.{step_stocked, step_moves}

pub adjusted_keeps : (rows : List Row) (product : ℕ) (amount value : ℤ) (answer : Result (Delta × ℤ) PlanFault) → Plans rows (adjust rows product amount) value answer → AreStocked rows → KeepsStock rows answer
adjusted_keeps rows product amount value (Ok plan) is stocked = adjust_stocked rows product amount (change_rows rows plan.0.changes) is.0.rows stocked
adjusted_keeps rows product amount value (Err fault) is stocked = tt

pub step_keeps : (rows : List Row) (order : ℕ) (action : Action) (value : ℤ) (answer : Result (Delta × ℤ) PlanFault) → AreChecked rows → Plans rows (step rows order action) value answer → AreStocked rows → KeepsStock rows answer
step_keeps rows order action value (Ok plan) checked is stocked = step_stocked rows order action (change_rows rows plan.0.changes) checked is.0.rows stocked
step_keeps rows order action value (Err fault) checked is stocked = tt

pub step_state : (rows : List Row) (order : ℕ) (action : Action) (value : ℤ) (answer : Result (Delta × ℤ) PlanFault) → AreChecked rows → Plans rows (step rows order action) value answer → StateMoves rows order action answer
step_state rows order action value (Ok plan) checked is = step_moves rows order action (change_rows rows plan.0.changes) checked is.0.rows
step_state rows order action value (Err fault) checked is = tt
