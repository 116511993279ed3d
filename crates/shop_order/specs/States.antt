-- How far an order is, and the steps that lead from one state to another.
use Rattle.std.specs.Prelude.{ℕ, List, [], ◌∷◌, codes, Option, Some, None, if◌then◌else◌}
use Rattle.shop_defs.specs.declared.row.Row.{Row}
use Rattle.shop_requests.specs.declared.command.Action.{Action}
use Rattle.shop_requests.specs.declared.command.Action.TheVariants as A
use Rattle.row_fields.specs.Fields.{is_text_at}
use Rattle.shop_order.specs.declared.numbers.TheConstants.{ORDER_STATE}
use Rattle.shop_order.specs.declared.states.OrderState.{OrderState}
use Rattle.shop_order.specs.declared.states.OrderState.TheVariants as S
use Rattle.shop_order.specs.declared.stock.Move.{Move}
use Rattle.shop_order.specs.declared.stock.Move.TheVariants as M

-- the word that an order's row has for a state
abbrev pub state_text : OrderState → List ℕ
state_text S.Open = codes "open"
state_text S.InProgress = codes "in_progress"
state_text S.Completed = codes "completed"
state_text S.Cancelled = codes "cancelled"

-- the number by which a state is answered
abbrev pub state_number : OrderState → ℕ
state_number S.Open = 1
state_number S.InProgress = 2
state_number S.Completed = 3
state_number S.Cancelled = 4

abbrev pub action_text : Action → List ℕ
action_text A.Process = codes "process"
action_text A.Complete = codes "complete"
action_text A.Cancel = codes "cancel"
action_text A.Reopen = codes "reopen"

-- the state of an order: open where its row has none of the other words
abbrev pub state_of : Row → OrderState
state_of row =
    if is_text_at row ORDER_STATE (codes "in_progress") then S.InProgress else
    if is_text_at row ORDER_STATE (codes "completed") then S.Completed else
    if is_text_at row ORDER_STATE (codes "cancelled") then S.Cancelled else S.Open

-- the table of the steps
abbrev pub next_state : OrderState → Action → Option OrderState
next_state S.Open A.Process = Some S.InProgress
next_state S.Open A.Cancel = Some S.Cancelled
next_state S.InProgress A.Complete = Some S.Completed
next_state S.InProgress A.Cancel = Some S.Cancelled
next_state S.Completed A.Reopen = Some S.Open
next_state S.Cancelled A.Reopen = Some S.Open
next_state state action = None

-- what a step does with the pieces that an order holds: they are given back where it is cancelled, and taken again where a
-- cancelled one is reopened
abbrev pub way_between : OrderState → OrderState → Option Move
way_between S.Cancelled to = Some M.Take
way_between from S.Cancelled = Some M.Give
way_between from to = None
