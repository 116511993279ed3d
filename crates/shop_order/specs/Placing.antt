-- An order is placed of a cart.
use Rattle.std.specs.Prelude.{◌≡◌, ◌≤◌, ℕ, ◌+◌, ℤ, Bool, nat_lt, List, [], ◌∷◌, ◌++◌, map, length, Option, Some, None, is_some, is_none, if◌then◌else◌, Result, Ok, Err}
use Rattle.std.specs.List.{AllByRecursion}
use Rattle.shop_defs.specs.declared.broken.Broken.{Broken}
use Rattle.shop_defs.specs.declared.broken.Broken.TheVariants as B
use Rattle.shop_defs.specs.declared.delta.Delta.{Delta}
use Rattle.shop_defs.specs.declared.entity.Entity.{Entity}
use Rattle.shop_defs.specs.declared.entity.Entity.TheVariants as E
use Rattle.shop_defs.specs.declared.key.Key.{Key}
use Rattle.shop_defs.specs.declared.refused.PlanFault.{PlanFault}
use Rattle.shop_defs.specs.declared.refused.PlanFault.TheVariants as F
use Rattle.shop_defs.specs.declared.row.Row.{Row}
use Rattle.shop_defs.specs.declared.table.OwnerLimit.{OwnerLimit}
use Rattle.shop_defs.specs.declared.table.Part.TheVariants as P
use Rattle.shop_defs.specs.declared.table.TheConstants.{MOST_ROWS, OWNER_LIMITS}
use Rattle.shop_defs.specs.Entities.{entity_number}
use Rattle.shop_defs.specs.Joined.{Change}
use Rattle.shop_defs.specs.Rows.{row_at, change_rows}
use Rattle.cart_price.specs.declared.priced.Block.{Block}
use Rattle.cart_price.specs.declared.priced.Settled.{Settled}
use Rattle.cart_price.specs.Nearest.{IsAmount}
use Rattle.shop_operations.specs.Operations.{unless}
use Rattle.shop_operations.specs.References.{live}
use Rattle.shop_rows.specs.Lookups.{count_rows, referrers_by}
use Rattle.shop_rows.specs.Owners.{count_owned}
use Rattle.shop_order.specs.declared.stock.Move.TheVariants as M
use Rattle.shop_order.specs.declared.wants.Want.{Want}
use Rattle.shop_order.specs.Keys.{cart_key, order_key}
use Rattle.shop_order.specs.OrderRows.{order_changes}
use Rattle.shop_order.specs.Parts.{parts, line_want, AreDiscounts}
use Rattle.shop_order.specs.Wants.{falls_short, stocks_moved}

-- ---- the rules before the cart is settled

-- the lines of a cart belong to the row that their first field names
abbrev pub cart_lines : OwnerLimit
cart_lines = record { entity = E.CartLine; owner = P.Field 1; most = 100 }

-- the keys of the rows of the entity that are of the cart
abbrev pub keys_of_cart : List Row → Entity → ℕ → List Key
keys_of_cart rows entity cart = referrers_by entity (live rows) (entity_number E.Cart) cart

abbrev pub has_line : List Row → ℕ → Bool
has_line rows cart = nat_lt 0 (count_owned cart_lines (live rows) cart)

-- the first of them that is broken: the order isn't there yet, the cart is there and has a line
unfoldable pub breaks_before : List Row → ℕ → ℕ → Option Broken
breaks_before rows cart order =
    if is_some (row_at rows (order_key order)) then Some (B.OrderExists order) else
    if is_none (row_at rows (cart_key cart)) then Some (B.NoSuchCart cart) else
    if has_line rows cart then None else Some (B.CartEmpty cart)

-- the answer of the test is the rule that is broken, if one is, and never want of memory
abbrev pub Tests : {X : Type 0} → Option Broken → Result X PlanFault → Type 0
Tests broken (Ok value) = broken ≡ None
Tests broken (Err F.NoMemory) = ⊥
Tests broken (Err (F.Refused refused)) = (refused.op ≡ 0) × (broken ≡ Some refused.broken)

-- ---- the rules once it is settled

-- the first block of the cart
abbrev pub blocked : List Block → Option Broken
blocked [] = None
blocked (block ∷ blocks) = Some (B.Blocked block.line block.cause)

-- with so many rows more, there are more of the entity than there may be
abbrev pub is_past : List Row → Entity → ℕ → Bool
is_past rows entity more = nat_lt MOST_ROWS (count_rows rows entity + more)

-- the pieces that the lines of the cart want
abbrev pub wants : Settled → List Want
wants settled = map line_want settled.cart.lines

abbrev pub too_many : Entity → Broken
too_many entity = B.TooMany entity MOST_ROWS

-- there may be an order more, as many lines more, and as many taxes; and of each line's product as many pieces are available as
-- all lines want
abbrev pub falls_past_by : List Row → ℕ → ℕ → List Want → Option Broken
falls_past_by rows lines taxes wants =
    if is_past rows E.Order 1 then Some (too_many E.Order) else
    if is_past rows E.OrderLine lines then Some (too_many E.OrderLine) else
    if is_past rows E.OrderTax taxes then Some (too_many E.OrderTax) else falls_short rows wants

abbrev pub falls_past : List Row → Settled → Option Broken
falls_past rows settled = falls_past_by rows (length (parts settled.cart)) (length settled.cart.taxes) (wants settled)

abbrev pub or_past : Option Broken → Option Broken → Option Broken
or_past None later = later
or_past (Some broken) later = Some broken

-- the first of them that is broken
unfoldable pub breaks : List Row → Settled → Option Broken
breaks rows settled = or_past (blocked settled.cart.blocks) (falls_past rows settled)

-- ---- what is placed

abbrev pub take_out : Key → Change
take_out key = (key, None)

-- the cart goes, with its lines and its codes
abbrev pub cart_gone : List Row → ℕ → List Change
cart_gone rows cart = ((take_out (cart_key cart) ∷ []) ++ map take_out (keys_of_cart rows E.CartLine cart)) ++ map take_out (keys_of_cart rows E.CartCode cart)

-- the stock is less by what the lines want, the cart goes, and the order comes with its lines and its taxes
abbrev pub placing_changes : List Row → ℕ → ℕ → ℤ → Row → Settled → List Change
placing_changes rows cart order moment cart_row settled =
    (stocks_moved rows M.Take (wants settled) ++ cart_gone rows cart) ++ order_changes order cart_row moment settled

abbrev pub placed : List Row → ℕ → ℕ → ℤ → Settled → Option Row → Result (List Row) Broken
placed rows cart order moment settled None = Err (B.NoSuchCart cart)
placed rows cart order moment settled (Some cart_row) = unless (change_rows rows (placing_changes rows cart order moment cart_row settled)) (breaks rows settled)

-- the rows once an order is placed of a cart that is settled so, or the first rule that is broken, of those behind the test
unfoldable pub place : List Row → ℕ → ℕ → ℤ → Settled → Result (List Row) Broken
place rows cart order moment settled = placed rows cart order moment settled (row_at rows (cart_key cart))

abbrev pub place_settled : List Row → ℕ → ℕ → ℤ → Result Settled Broken → Result (List Row) Broken
place_settled rows cart order moment (Ok settled) = place rows cart order moment settled
place_settled rows cart order moment (Err broken) = Err broken

abbrev pub unless_tested : Option Broken → Result (List Row) Broken → Result (List Row) Broken
unless_tested None outcome = outcome
unless_tested (Some broken) outcome = Err broken

-- the same by what the cart is settled at, with all rules in their order
abbrev pub order_cart : List Row → ℕ → ℕ → ℤ → Result Settled Broken → Result (List Row) Broken
order_cart rows cart order moment settling = unless_tested (breaks_before rows cart order) (place_settled rows cart order moment settling)

-- neither the cart is there, nor a line or a code of it that was
pub record CartIsGone (rows : List Row) (cart : ℕ) (after : List Row) : Type 0 where
  pub itself : row_at after (cart_key cart) ≡ None
  pub lines : AllByRecursion (λ key. row_at after key ≡ None) (keys_of_cart rows E.CartLine cart)
  pub codes : AllByRecursion (λ key. row_at after key ≡ None) (keys_of_cart rows E.CartCode cart)

abbrev pub TakesCart : List Row → ℕ → Result (Delta × ℤ) PlanFault → Type 0
TakesCart rows cart (Ok plan) = CartIsGone rows cart (change_rows rows plan.0.changes)
TakesCart rows cart (Err fault) = Unit {0}

-- what is asked of a settled cart: its lines are few and so are the pieces of each, discounts take something off, its sums are
-- amounts, and each part of it has a label
pub record IsFit (settled : Settled) : Type 0 where
  pub lines : length settled.cart.lines ≤ 100
  pub parts_few : length (parts settled.cart) ≤ 201
  pub quantities : AllByRecursion (λ line. line.quantity ≤ 10000) settled.cart.lines
  pub discounts : AreDiscounts settled.cart.discounts
  pub delivery_discounts : AreDiscounts settled.cart.delivery_discounts
  pub total : IsAmount settled.cart.total
  pub raw : IsAmount settled.cart.raw
  pub labels : length settled.labels ≡ length (parts settled.cart)
