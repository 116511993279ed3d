-- Of each product, what is available and what orders hold stay together what was adjusted.
use Rattle.std.proofs.Common.{◌≡◌, ℕ, zero, suc, ◌+◌, ◌-◌, ◌≤◌, ℤ, pos, negsuc, Bool, true, false, ◌&&◌, ◌==◌, not, List, [], ◌∷◌, ◌++◌, map, find, Option, Some, None, if◌then◌else◌, refl, sym, ap, subst, ◌∙◌, arith, Result, Ok, Err}
use Rattle.std.specs.Prelude.{is_some, is_none, nat_lt, nat_le, unsigned_abs, codes, cond}
use Rattle.std.specs.declared.cmp.Ordering.{Ordering}
use Rattle.std.specs.declared.cmp.Ordering.TheVariants.{Less, Equal, Greater}
use Rattle.std.specs.List.{AllByRecursion, filter_map, cons_option, list_any}
use Rattle.std.specs.Option.{option_map}
use Rattle.std.specs.Ordering.{is_eq, nat_cmp, ordering_then}
use Rattle.std.proofs.lemmas.Bool.{eqb-true, eq-eqb, and_parts}
use Rattle.std.proofs.lemmas.Bool.Decides.{nat_tests}
use Rattle.keyed.specs.Keyed.{put}
use Rattle.keyed.proofs.Changes.{find_put}
use Rattle.shop_defs.specs.declared.broken.Broken.{Broken}
use Rattle.shop_defs.specs.declared.broken.Broken.TheVariants as B
use Rattle.shop_defs.specs.declared.entity.Entity.{Entity}
use Rattle.shop_defs.specs.declared.entity.Entity.TheVariants as E
use Rattle.shop_defs.specs.declared.key.Key.{Key}
use Rattle.shop_defs.specs.declared.row.Row.{Row}
use Rattle.shop_defs.specs.declared.table.TheConstants.{MOST_ROWS}
use Rattle.shop_defs.specs.Entities.{entity_number}
use Rattle.shop_defs.specs.Joined.{Change}
use Rattle.shop_defs.specs.Keys.{key_cmp}
use Rattle.shop_defs.specs.Rows.{row_key, row_at, change_row, change_rows, IsInKeyOrder}
use Rattle.shop_defs.proofs.Keys.{key_cmp_total}
use Rattle.shop_operations.specs.Operations.{unless}
use Rattle.shop_operations.specs.References.{is_entity}
use Rattle.shop_rows.specs.Changing.{StandUnderTheirKeys}
use Rattle.shop_rows.proofs.Same.{is_eq-then, is_eq-nat_cmp}
use Rattle.shop_order.specs.declared.stock.Move.{Move}
use Rattle.shop_order.specs.declared.stock.Move.TheVariants as M
use Rattle.shop_order.specs.declared.wants.Want.{Want}
use Rattle.shop_order.specs.Adjusting.{adjust, adjusting_breaks, adjusting_changes, available_after, adjusted_after, is_more, is_less, is_full}
use Rattle.shop_order.specs.Held.{total, is_line, holds, held_by, held, AreStocked, pieces_in}
use Rattle.shop_order.specs.Keys.{stock_key, order_key, product_key}
use Rattle.shop_order.specs.Stock.{available, adjusted, moved, way_of, stock_row, size_in}
use Rattle.shop_order.specs.Wants.{is_line_of, is_line_key, lines_of, want_of, wants_of, pieces, wanted, stock_moved, is_short, short_of, falls_short}
use Rattle.shop_order.specs.declared.numbers.TheConstants.{STOCK_AVAILABLE, STOCK_ADJUSTED}
use Rattle.shop_order.specs.declared.adjusting.TheConstants.{MOST_ADJUSTED, MOST_AVAILABLE}
use Rattle.shop_order.proofs.Totals.{total_same, total_changes, IsIdle}

and_true : (b : Bool) → (b && true) ≡ b
and_true true = refl
and_true false = refl

-- ---- keys

same_stock : (a b : ℕ) → is_eq (key_cmp (stock_key a) (stock_key b)) ≡ (a == b)
same_stock a b = is_eq-then (nat_cmp a b) Equal ∙ (ap (λ (t : Bool). t && true) (is_eq-nat_cmp a b) ∙ and_true (a == b))

pub same_order : (a b : ℕ) → is_eq (key_cmp (order_key a) (order_key b)) ≡ (a == b)
same_order a b = is_eq-then (nat_cmp a b) Equal ∙ (ap (λ (t : Bool). t && true) (is_eq-nat_cmp a b) ∙ and_true (a == b))

-- ---- rows with a row of stock put among them

found_stock : (rows : List Row) (product available adjusted at : ℕ) → row_at (put key_cmp row_key rows (stock_row product available adjusted)) (stock_key at) ≡ (if product == at then Some (stock_row product available adjusted) else row_at rows (stock_key at))
found_stock rows product available adjusted at =
    find_put key_cmp row_key key_cmp_total rows (stock_row product available adjusted) (stock_key at)
    ∙ ap (λ (b : Bool). if b then Some (stock_row product available adjusted) else row_at rows (stock_key at)) (same_stock product at)

pub order_stays : (rows : List Row) (product available adjusted order : ℕ) → row_at (put key_cmp row_key rows (stock_row product available adjusted)) (order_key order) ≡ row_at rows (order_key order)
order_stays rows product available adjusted order = find_put key_cmp row_key key_cmp_total rows (stock_row product available adjusted) (order_key order)

-- ---- what lines hold

-- a row that is no line holds nothing
pub idle_stock : (rows : List Row) (product : ℕ) (row : Row) → row.key.entity ≡ E.Stock → held_by rows product row ≡ 0
idle_stock rows product row e = ap (λ (of : Entity). if (is_entity E.OrderLine of && (row.key.version == 0)) && holds (row_at rows (order_key row.key.id)) then pieces_in (want_of row) product else 0) e

pub idle_order : (rows : List Row) (product : ℕ) (row : Row) → row.key.entity ≡ E.Order → held_by rows product row ≡ 0
idle_order rows product row e = ap (λ (of : Entity). if (is_entity E.OrderLine of && (row.key.version == 0)) && holds (row_at rows (order_key row.key.id)) then pieces_in (want_of row) product else 0) e

-- where orders are held alike, a line holds the same
pub same_held : (rows after : List Row) (product : ℕ) (row : Row) → holds (row_at after (order_key row.key.id)) ≡ holds (row_at rows (order_key row.key.id)) → held_by after product row ≡ held_by rows product row
same_held rows after product row e = ap (λ (b : Bool). if is_line row && b then pieces_in (want_of row) product else 0) e

-- ---- stock is adjusted

pub unless_ok : (rows : List Row) (broken : Option Broken) (after : List Row) → unless rows broken ≡ Ok after → (broken ≡ None) × (rows ≡ after)
unless_ok rows None after e = (refl, (cc))
unless_ok rows (Some broken) after e = absurd (cc)

taken_enough : (rows : List Row) (product : ℕ) (less : ℕ) → adjusting_breaks rows product (negsuc less) ≡ None → suc less ≤ available rows product
unfolding adjusting_breaks
taken_enough rows product less e = by (nat_lt MOST_ADJUSTED (suc less)) (is_none (row_at rows (product_key product))) (is_full rows product) (nat_lt (available rows product) (suc less)) refl refl refl refl
  where
    by : (a b c d : Bool) → nat_lt MOST_ADJUSTED (suc less) ≡ a → is_none (row_at rows (product_key product)) ≡ b → is_full rows product ≡ c → nat_lt (available rows product) (suc less) ≡ d → suc less ≤ available rows product
    by true b c d ea eb ec ed = let f = rw ea at e in absurd (cc)
    by false true c d ea eb ec ed = let f = rw (ea, eb) at e in absurd (cc)
    by false false true d ea eb ec ed = let f = rw (ea, eb, ec) at e in absurd (cc)
    by false false false true ea eb ec ed = let f = rw (ea, eb, ec, ed) at e in absurd (cc)
    by false false false false ea eb ec ed = grind (arith, nat_tests, ed)

pub available_is : (rows : List Row) (product have all at : ℕ) → available (put key_cmp row_key rows (stock_row product have all)) at ≡ (if product == at then have else available rows at)
available_is rows product have all at = ap (λ (found : Option Row). size_in found STOCK_AVAILABLE) (found_stock rows product have all at) ∙ by (product == at)
  where
    by : (b : Bool) → size_in (if b then Some (stock_row product have all) else row_at rows (stock_key at)) STOCK_AVAILABLE ≡ (if b then have else available rows at)
    by true = refl
    by false = refl

pub adjusted_is : (rows : List Row) (product have all at : ℕ) → adjusted (put key_cmp row_key rows (stock_row product have all)) at ≡ (if product == at then all else adjusted rows at)
adjusted_is rows product have all at = ap (λ (found : Option Row). size_in found STOCK_ADJUSTED) (found_stock rows product have all at) ∙ by (product == at)
  where
    by : (b : Bool) → size_in (if b then Some (stock_row product have all) else row_at rows (stock_key at)) STOCK_ADJUSTED ≡ (if b then all else adjusted rows at)
    by true = refl
    by false = refl

held_stays : (rows : List Row) (product have all at : ℕ) → held (put key_cmp row_key rows (stock_row product have all)) at ≡ held rows at
unfolding held
held_stays rows product have all at =
    let after : List Row = put key_cmp row_key rows (stock_row product have all) in
    total_same (held_by after at) (held_by rows at) after (λ row. same_held rows after at row (ap holds (order_stays rows product have all row.key.id)))
    ∙ total_changes (held_by rows at) ((stock_key product, Some (stock_row product have all)) ∷ []) rows (refl, tt) ((λ x e. idle_stock rows at x e), tt)

balanced : (amount : ℤ) (available held adjusted : ℕ) → ((less : ℕ) → amount ≡ negsuc less → suc less ≤ available) → available + held ≡ adjusted
    → moved (way_of amount) available (unsigned_abs amount) + held ≡ moved (way_of amount) adjusted (unsigned_abs amount)
balanced (pos more) available held adjusted enough e = omega (arith, e)
balanced (negsuc less) available held adjusted enough e = let few : suc less ≤ available = enough less refl in omega (arith, e, few)

pub adjust_stocked : (rows : List Row) (product : ℕ) (amount : ℤ) (after : List Row) → adjust rows product amount ≡ Ok after → AreStocked rows → AreStocked after
unfolding adjust
adjust_stocked rows product amount after e stocked at =
    let parts = unless_ok (change_rows rows (adjusting_changes rows product amount)) (adjusting_breaks rows product amount) after e in
    let have = available_after rows product amount in
    let all = adjusted_after rows product amount in
    subst (λ (rows : List Row). available rows at + held rows at ≡ adjusted rows at) parts.1
    (rw (available_is rows product have all at, held_stays rows product have all at, adjusted_is rows product have all at) (by parts.0 (product == at) refl))
  where
    by : adjusting_breaks rows product amount ≡ None → (b : Bool) → (product == at) ≡ b
        → (if b then available_after rows product amount else available rows at) + held rows at ≡ (if b then adjusted_after rows product amount else adjusted rows at)
    by none false f = stocked at
    by none true f =
        let same : product ≡ at = eqb-true product at f in
        subst (λ (p : ℕ). available_after rows product amount + held rows p ≡ adjusted_after rows product amount) same
        (balanced amount (available rows product) (held rows product) (adjusted rows product)
        (λ less is. taken_enough rows product less (subst (λ (a : ℤ). adjusting_breaks rows product a ≡ None) is none)) (stocked product))

-- the amount of an adjustment that is accepted is small
pub amount_few : (rows : List Row) (product : ℕ) (amount : ℤ) → adjusting_breaks rows product amount ≡ None → unsigned_abs amount ≤ 1000000000
unfolding adjusting_breaks
amount_few rows product amount e = by (nat_lt MOST_ADJUSTED (unsigned_abs amount)) refl
  where
    by : (b : Bool) → nat_lt MOST_ADJUSTED (unsigned_abs amount) ≡ b → unsigned_abs amount ≤ 1000000000
    by true f = let g = rw f at e in absurd (cc)
    by false f = grind (arith, nat_tests, f)
