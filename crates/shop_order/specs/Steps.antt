-- An order is taken to another state.
use Rattle.std.specs.Prelude.{◌≡◌, ◌≢◌, ℕ, ℤ, pos, ◌==◌, List, [], ◌∷◌, ◌++◌, map, Option, Some, None, option_and_then, if◌then◌else◌, Result, Ok, Err}
use Rattle.std.specs.Option.{option_map_or}
use Rattle.shop_defs.specs.declared.broken.Broken.{Broken}
use Rattle.shop_defs.specs.declared.broken.Broken.TheVariants as B
use Rattle.shop_defs.specs.declared.delta.Delta.{Delta}
use Rattle.shop_defs.specs.declared.refused.PlanFault.{PlanFault}
use Rattle.shop_defs.specs.declared.refused.PlanFault.TheVariants as F
use Rattle.shop_defs.specs.declared.row.Row.{Row}
use Rattle.shop_defs.specs.declared.value.Value.{Value}
use Rattle.shop_defs.specs.declared.value.Value.TheVariants as V
use Rattle.shop_defs.specs.Joined.{Change}
use Rattle.shop_defs.specs.Rows.{row_at, change_rows}
use Rattle.shop_requests.specs.declared.command.Action.{Action}
use Rattle.shop_operations.specs.Operations.{unless}
use Rattle.shop_order.specs.declared.numbers.TheConstants.{ORDER_STATE}
use Rattle.shop_order.specs.declared.states.OrderState.{OrderState}
use Rattle.shop_order.specs.declared.stock.Move.{Move}
use Rattle.shop_order.specs.Keys.{order_key}
use Rattle.shop_order.specs.Plans.{IsPlanOf, IsFaultOf}
use Rattle.shop_order.specs.States.{state_text, state_number, action_text, state_of, next_state, way_between}
use Rattle.shop_order.specs.Wants.{wants_of, short_for, stocks_moved}

-- the field, with the word for the state in place of the one that it has
abbrev pub field_in_state : OrderState → ℕ × Value → ℕ × Value
field_in_state state field = if field.0 == ORDER_STATE then (ORDER_STATE, V.Text (state_text state)) else field

-- the order's row in that state
abbrev pub in_state : Row → OrderState → Row
in_state row state = record row { fields = map (field_in_state state) row.fields }

abbrev pub state_change : ℕ → Row → OrderState → Change
state_change order row to = (order_key order, Some (in_state row to))

-- an order is taken to a state, with what is done with the pieces that it holds
abbrev pub step_to : List Row → ℕ → Row → OrderState → Option Move → Result (List Row) Broken
step_to rows order row to None = Ok (change_rows rows (state_change order row to ∷ []))
step_to rows order row to (Some way) =
    unless (change_rows rows (stocks_moved rows way (wants_of rows order) ++ state_change order row to ∷ []))
    (short_for way rows (wants_of rows order))

abbrev pub step_by : List Row → ℕ → Action → Row → OrderState → Option OrderState → Result (List Row) Broken
step_by rows order action row from None = Err (B.BadTransition (state_text from) (action_text action))
step_by rows order action row from (Some to) = step_to rows order row to (way_between from to)

abbrev pub step_of : List Row → ℕ → Action → Option Row → Result (List Row) Broken
step_of rows order action None = Err (B.NoSuchRow (order_key order))
step_of rows order action (Some row) = step_by rows order action row (state_of row) (next_state (state_of row) action)

-- the rows after a step of an order, or the first rule that is broken: the order is there, the table has such a step, and as many
-- pieces are available as a reopened order takes
unfoldable pub step : List Row → ℕ → Action → Result (List Row) Broken
step rows order action = step_of rows order action (row_at rows (order_key order))

-- the state that the step leads to, if the table has it
abbrev pub state_after : List Row → ℕ → Action → Option OrderState
state_after rows order action = option_and_then (λ row. next_state (state_of row) action) (row_at rows (order_key order))

-- the number of the state that it leads to
abbrev pub step_value : List Row → ℕ → Action → ℤ
step_value rows order action = pos (option_map_or state_number (state_after rows order action) 0)

-- the order's state moves by the table, and no other order's row changes
pub record MovesByTable (rows : List Row) (order : ℕ) (action : Action) (after : List Row) : Type 0 where
  pub before : Row
  pub was : row_at rows (order_key order) ≡ Some before
  pub now : Row
  pub is : row_at after (order_key order) ≡ Some now
  pub by_table : next_state (state_of before) action ≡ Some (state_of now)
  pub others : (other : ℕ) → other ≢ order → row_at after (order_key other) ≡ row_at rows (order_key other)

abbrev pub StateMoves : List Row → ℕ → Action → Result (Delta × ℤ) PlanFault → Type 0
StateMoves rows order action (Ok plan) = MovesByTable rows order action (change_rows rows plan.0.changes)
StateMoves rows order action (Err fault) = Unit {0}

-- ---- parts of a step. No public contract cites this.

-- the fault is want of memory, or says that the table has no such step
abbrev pub IsBadTransition : OrderState → Action → PlanFault → Type 0
IsBadTransition state action F.NoMemory = Unit {0}
IsBadTransition state action (F.Refused refused) = (refused.op ≡ 0) × (refused.broken ≡ B.BadTransition (state_text state) (action_text action))

-- the answer is changes that take the order to the state, or says why there are none
abbrev pub PlansStep : List Row → ℕ → Row → OrderState → Option Move → Result Delta PlanFault → Type 0
PlansStep rows order row to way (Ok delta) = IsPlanOf rows (step_to rows order row to way) delta.changes
PlansStep rows order row to way (Err fault) = IsFaultOf (step_to rows order row to way) fault
