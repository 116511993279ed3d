-- What placing leaves, in words.
use Rattle.std.proofs.Common.{◌≡◌, ℕ, ℤ, Bool, true, false, List, [], ◌∷◌, length, Option, Some, None, refl, subst, Result, Ok, Err}
use Rattle.shop_defs.specs.declared.broken.Broken.{Broken}
use Rattle.shop_defs.specs.declared.delta.Delta.{Delta}
use Rattle.shop_defs.specs.declared.entity.Entity.TheVariants as E
use Rattle.shop_defs.specs.declared.refused.PlanFault.{PlanFault}
use Rattle.shop_defs.specs.declared.row.Row.{Row}
use Rattle.shop_defs.specs.Rows.{row_at, change_rows, IsInKeyOrder}
use Rattle.cart_price.specs.declared.priced.Block.{Block}
use Rattle.cart_price.specs.declared.priced.Settled.{Settled}
use Rattle.shop_order.specs.Held.{AreStocked, KeepsStock}
use Rattle.shop_order.specs.Keys.{cart_key, order_key}
use Rattle.shop_order.specs.Parts.{parts}
use Rattle.shop_order.specs.Placing.{breaks_before, place, placed, placing_changes, breaks, blocked, or_past, is_past, falls_past, wants, IsFit}
use Rattle.shop_order.specs.Plans.{Plans}
use Rattle.shop_order.specs.Wants.{lines_of, falls_short}
use Rattle.shop_order.proofs.PlacedHolds.{placed_stocked}
use Rattle.shop_order.proofs.Stocked.{unless_ok}

not_short : (rows : List Row) (settled : Settled) → breaks rows settled ≡ None → falls_short rows (wants settled) ≡ None
unfolding breaks
not_short rows settled e = by settled.cart.blocks e
  where
    past : (a b c : Bool) → is_past rows E.Order 1 ≡ a → is_past rows E.OrderLine (length (parts settled.cart)) ≡ b → is_past rows E.OrderTax (length settled.cart.taxes) ≡ c → falls_past rows settled ≡ None → falls_short rows (wants settled) ≡ None
    past true b c ea eb ec e = let f = rw ea at e in absurd (cc)
    past false true c ea eb ec e = let f = rw (ea, eb) at e in absurd (cc)
    past false false true ea eb ec e = let f = rw (ea, eb, ec) at e in absurd (cc)
    past false false false ea eb ec e = rw (ea, eb, ec) at e

    by : (blocks : List Block) → or_past (blocked blocks) (falls_past rows settled) ≡ None → falls_short rows (wants settled) ≡ None
    by [] e = past (is_past rows E.Order 1) (is_past rows E.OrderLine (length (parts settled.cart))) (is_past rows E.OrderTax (length settled.cart.taxes)) refl refl refl e
    by (block ∷ blocks) e = absurd (cc)

not_there : (rows : List Row) (cart order : ℕ) → breaks_before rows cart order ≡ None → row_at rows (order_key order) ≡ None
unfolding breaks_before
not_there rows cart order e = by (row_at rows (order_key order)) refl
  where
    by : (found : Option Row) → row_at rows (order_key order) ≡ found → row_at rows (order_key order) ≡ None
    by None f = f
    by (Some row) f = let g = rw f at e in absurd (cc)

place_stocked : (rows : List Row) (cart order : ℕ) (moment : ℤ) (settled : Settled) (after : List Row) → IsInKeyOrder rows → lines_of rows order ≡ [] → breaks_before rows cart order ≡ None → IsFit settled
    → place rows cart order moment settled ≡ Ok after → AreStocked rows → AreStocked after
unfolding place
place_stocked rows cart order moment settled after up free tested fit e stocked = by (row_at rows (cart_key cart)) e
  where
    by : (found : Option Row) → placed rows cart order moment settled found ≡ Ok after → AreStocked after
    by None f = absurd (cc)
    by (Some row) f =
        let is = unless_ok (change_rows rows (placing_changes rows cart order moment row settled)) (breaks rows settled) after f in
        subst AreStocked is.1 (placed_stocked rows cart order moment settled row up free (not_there rows cart order tested) fit.labels (not_short rows settled is.0) stocked)

pub placed_keeps : (rows : List Row) (cart order : ℕ) (moment value : ℤ) (settled : Settled) (answer : Result (Delta × ℤ) PlanFault) → IsInKeyOrder rows → lines_of rows order ≡ [] → breaks_before rows cart order ≡ None → IsFit settled
    → Plans rows (place rows cart order moment settled) value answer → AreStocked rows → KeepsStock rows answer
placed_keeps rows cart order moment value settled (Ok plan) up free tested fit is stocked = place_stocked rows cart order moment settled (change_rows rows plan.0.changes) up free tested fit is.0.rows stocked
placed_keeps rows cart order moment value settled (Err fault) up free tested fit is stocked = tt
