-- What orders hold of the stock, and that nothing is lost of it.
use Rattle.std.specs.Prelude.{◌≡◌, ℕ, ◌+◌, ℤ, Bool, true, false, ◌&&◌, ◌==◌, List, [], ◌∷◌, Option, Some, None, if◌then◌else◌, Result, Ok, Err}
use Rattle.shop_defs.specs.declared.delta.Delta.{Delta}
use Rattle.shop_defs.specs.declared.entity.Entity.TheVariants as E
use Rattle.shop_defs.specs.declared.refused.PlanFault.{PlanFault}
use Rattle.shop_defs.specs.declared.row.Row.{Row}
use Rattle.shop_defs.specs.Rows.{row_at, change_rows}
use Rattle.shop_operations.specs.References.{is_entity}
use Rattle.shop_order.specs.declared.states.OrderState.{OrderState}
use Rattle.shop_order.specs.declared.states.OrderState.TheVariants as S
use Rattle.shop_order.specs.declared.wants.Want.{Want}
use Rattle.shop_order.specs.Keys.{order_key}
use Rattle.shop_order.specs.States.{state_of}
use Rattle.shop_order.specs.Stock.{available, adjusted}
use Rattle.shop_order.specs.Wants.{want_of, pieces}

-- the sum of what rows give
abbrev pub total : (Row → ℕ) → List Row → ℕ
total f [] = 0
total f (row ∷ rows) = f row + total f rows

-- the row is a line of an order
abbrev pub is_line : Row → Bool
is_line row = is_entity E.OrderLine row.key.entity && (row.key.version == 0)

-- a cancelled order holds nothing
abbrev pub holds_in : OrderState → Bool
holds_in S.Cancelled = false
holds_in state = true

-- an order that is there, and isn't cancelled, holds what its lines say
abbrev pub holds : Option Row → Bool
holds None = false
holds (Some order) = holds_in (state_of order)

abbrev pub pieces_in : Option Want → ℕ → ℕ
pieces_in None product = 0
pieces_in (Some want) product = pieces want product

-- how many pieces of the product the row holds among the rows: a line of an order that isn't cancelled
abbrev pub held_by : List Row → ℕ → Row → ℕ
held_by rows product row = if is_line row && holds (row_at rows (order_key row.key.id)) then pieces_in (want_of row) product else 0

-- how many pieces of the product all orders hold that aren't cancelled
unfoldable pub held : List Row → ℕ → ℕ
held rows product = total (held_by rows product) rows

-- of each product, what is available and what orders hold are together what was adjusted
abbrev pub AreStocked : List Row → Type 0
AreStocked rows = (product : ℕ) → available rows product + held rows product ≡ adjusted rows product

-- so it is once the changes are made
abbrev pub KeepsStock : List Row → Result (Delta × ℤ) PlanFault → Type 0
KeepsStock rows (Ok plan) = AreStocked (change_rows rows plan.0.changes)
KeepsStock rows (Err fault) = Unit {0}
