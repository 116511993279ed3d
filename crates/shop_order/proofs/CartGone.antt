-- Placing takes the cart away, with its lines and its codes.
use Rattle.std.proofs.Common.{◌≡◌, ℕ, ℤ, ◌==◌, Bool, true, false, ◌&&◌, ◌⊎◌, inl, inr, List, [], ◌∷◌, ◌++◌, map, filter, Option, Some, None, if◌then◌else◌, refl, sym, ap, subst, ◌∙◌, Result, Ok, Err}
use Rattle.std.specs.declared.cmp.Ordering.TheVariants.{Equal}
use Rattle.std.specs.List.{AllByRecursion}
use Rattle.std.specs.Ordering.{is_eq}
use Rattle.std.proofs.lemmas.Bool.{eqb-true, and_parts}
use Rattle.closure.specs.Closure.{IsIn}
use Rattle.shop_defs.specs.declared.delta.Delta.{Delta}
use Rattle.shop_defs.specs.declared.entity.Entity.{Entity}
use Rattle.shop_defs.specs.declared.entity.Entity.TheVariants as E
use Rattle.shop_defs.specs.declared.key.Key.{Key}
use Rattle.shop_defs.specs.declared.refused.PlanFault.{PlanFault}
use Rattle.shop_defs.specs.declared.row.Row.{Row}
use Rattle.shop_defs.specs.declared.table.TheConstants.{REFERENCES}
use Rattle.shop_defs.specs.Entities.{entity_number}
use Rattle.shop_defs.specs.Joined.{Change, later_of, last_in}
use Rattle.shop_defs.specs.Keys.{key_cmp}
use Rattle.shop_defs.specs.Rows.{row_at, change_rows, IsInKeyOrder}
use Rattle.shop_defs.proofs.EachLine.{same_entity}
use Rattle.shop_defs.proofs.Keys.{key_cmp_total}
use Rattle.shop_operations.specs.References.{is_entity, live, refers_at}
use Rattle.shop_rows.specs.Changing.{row_after, StandUnderTheirKeys}
use Rattle.shop_rows.proofs.ChangedRows.{in_order-change_rows, row_at-change_rows}
use Rattle.shop_rows.proofs.Same.{itself_equal}
use Rattle.cart_price.specs.declared.priced.Settled.{Settled}
use Rattle.shop_order.specs.declared.stock.Move.TheVariants as M
use Rattle.shop_order.specs.Keys.{cart_key}
use Rattle.shop_order.specs.OrderRows.{order_row, order_changes, lines_from, tax_change, put_row}
use Rattle.shop_order.specs.Parts.{parts}
use Rattle.shop_order.specs.Placing.{CartIsGone, TakesCart, take_out, keys_of_cart, cart_gone, placing_changes, place, placed, breaks, wants}
use Rattle.shop_order.specs.Plans.{Plans}
use Rattle.shop_order.specs.Wants.{stocks_moved}
use Rattle.shop_order.proofs.Placed.{append_stand, cart_stand, lines_stand, taxes_stand}
use Rattle.shop_order.proofs.PlacedStock.{NotAt, untouched, elsewhere, are_append, lines_are, taxes_are}
use Rattle.shop_order.proofs.Stepped.{change_append}
use Rattle.shop_order.proofs.Stocked.{unless_ok}

-- ---- keys that are taken out

later_after : (earlier later : Option Change) (before : Option Row) → row_after (later_of earlier later) before ≡ row_after later (row_after earlier before)
later_after earlier None before = refl
later_after earlier (Some later) before = refl

-- what isn't there stays so
none_stays : (keys : List Key) (key : Key) → row_after (last_in (map take_out keys) key) None ≡ None
none_stays [] key = refl
none_stays (x ∷ keys) key = by (none_stays keys key) (is_eq (key_cmp x key)) refl
  where
    by : row_after (last_in (map take_out keys) key) None ≡ None → (b : Bool) → is_eq (key_cmp x key) ≡ b → row_after (last_in (map take_out (x ∷ keys)) key) None ≡ None
    by more true e = rw e (later_after (Some (take_out x)) (last_in (map take_out keys) key) None ∙ more)
    by more false e = rw e (later_after None (last_in (map take_out keys) key) None ∙ more)

taken : (keys : List Key) (key : Key) (before : Option Row) → IsIn key keys → row_after (last_in (map take_out keys) key) before ≡ None
taken [] key before i = absurd i
taken (x ∷ keys) key before (inl e) =
    let same : is_eq (key_cmp x key) ≡ true = ap (λ (k : Key). is_eq (key_cmp x k)) (sym e) ∙ ap is_eq (itself_equal key_cmp key_cmp_total x) in
    rw same (later_after (Some (take_out x)) (last_in (map take_out keys) key) before ∙ none_stays keys key)
taken (x ∷ keys) key before (inr i) = later_after (if is_eq (key_cmp x key) then Some (take_out x) else None) (last_in (map take_out keys) key) before ∙ taken keys key (row_after (if is_eq (key_cmp x key) then Some (take_out x) else None) before) i

-- ---- the keys of the cart's rows

right_of : (xs ys : List Key) (key : Key) → IsIn key ys → IsIn key (xs ++ ys)
right_of [] ys key i = i
right_of (x ∷ xs) ys key i = inr (right_of xs ys key i)

left_of : (xs ys : List Key) (key : Key) → IsIn key xs → IsIn key (xs ++ ys)
left_of [] ys key i = absurd i
left_of (x ∷ xs) ys key (inl e) = inl e
left_of (x ∷ xs) ys key (inr i) = inr (left_of xs ys key i)

map_append : (xs ys : List Key) → map take_out (xs ++ ys) ≡ map take_out xs ++ map take_out ys
map_append [] ys = refl
map_append (x ∷ xs) ys = ap (λ (rest : List Change). take_out x ∷ rest) (map_append xs ys)

-- each of them holds
each_in : (P : Key → Type 0) (keys : List Key) → ((key : Key) → IsIn key keys → P key) → AllByRecursion P keys
each_in P [] f = tt
each_in P (x ∷ keys) f = (f x (inl refl), each_in P keys (λ key i. f key (inr i)))

entity_of : (entity : Entity) (q : Row → Bool) (rows : List Row) (key : Key) → IsIn key (map (λ row. row.key) (filter (λ row. is_entity entity row.key.entity && q row) rows)) → entity ≡ key.entity
entity_of entity q [] key i = absurd i
entity_of entity q (row ∷ rows) key i = by (entity_of entity q rows key) (is_entity entity row.key.entity && q row) refl
  where
    at : (row.key ≡ key) ⊎ IsIn key (map (λ row. row.key) (filter (λ row. is_entity entity row.key.entity && q row) rows)) → (IsIn key (map (λ row. row.key) (filter (λ row. is_entity entity row.key.entity && q row) rows)) → entity ≡ key.entity) → is_entity entity row.key.entity ≡ true → entity ≡ key.entity
    at (inl e) more is = same_entity entity row.key.entity (eqb-true (entity_number entity) (entity_number row.key.entity) is) ∙ ap (λ (k : Key). k.entity) e
    at (inr j) more is = more j

    by : (IsIn key (map (λ row. row.key) (filter (λ row. is_entity entity row.key.entity && q row) rows)) → entity ≡ key.entity) → (b : Bool) → (is_entity entity row.key.entity && q row) ≡ b → entity ≡ key.entity
    by more false e = more (rw e at i)
    by more true e = at (rw e at i) more (and_parts (is_entity entity row.key.entity) (q row) e).0

module _ (rows : List Row) (cart order : ℕ) (moment : ℤ) (settled : Settled) (row : Row) (up : IsInKeyOrder rows) where
  abbrev lines : List Key
  lines = keys_of_cart rows E.CartLine cart

  abbrev codes : List Key
  codes = keys_of_cart rows E.CartCode cart

  abbrev keys : List Key
  keys = cart_key cart ∷ (lines ++ codes)

  abbrev before : List Row
  before = change_rows rows (stocks_moved rows M.Take (wants settled))

  before_up : IsInKeyOrder before
  before_up = in_order-change_rows (stocks_moved rows M.Take (wants settled)) rows up

  abbrev after : List Row
  after = change_rows (change_rows before (cart_gone rows cart)) (order_changes order row moment settled)

  in_steps : change_rows rows (placing_changes rows cart order moment row settled) ≡ after
  in_steps =
      change_append (stocks_moved rows M.Take (wants settled) ++ cart_gone rows cart) (order_changes order row moment settled) rows
      ∙ ap (λ (now : List Row). change_rows now (order_changes order row moment settled)) (change_append (stocks_moved rows M.Take (wants settled)) (cart_gone rows cart) rows)

  all_keys : cart_gone rows cart ≡ map take_out keys
  all_keys = ap (λ (rest : List Change). take_out (cart_key cart) ∷ rest) (sym (map_append lines codes))

  order_stand : StandUnderTheirKeys (order_changes order row moment settled)
  order_stand =
      append_stand ((put_row (order_row order row moment settled.cart) ∷ []) ++ lines_from order 1 (parts settled.cart) settled.labels) (map (tax_change order) settled.cart.taxes)
      (refl, lines_stand order 1 (parts settled.cart) settled.labels) (taxes_stand order settled.cart.taxes)

  gone_at : (key : Key) → IsIn key keys → NotAt key E.Order → NotAt key E.OrderLine → NotAt key E.OrderTax → row_at after key ≡ None
  gone_at key i one two three =
      untouched (order_changes order row moment settled) (change_rows before (cart_gone rows cart)) key (in_order-change_rows (cart_gone rows cart) before before_up) order_stand
      (elsewhere key (order_changes order row moment settled)
      (are_append (NotAt key) ((put_row (order_row order row moment settled.cart) ∷ []) ++ lines_from order 1 (parts settled.cart) settled.labels) (map (tax_change order) settled.cart.taxes)
      (one, lines_are (NotAt key) order 1 (parts settled.cart) settled.labels two) (taxes_are (NotAt key) order settled.cart.taxes three)))
      ∙ (row_at-change_rows (cart_gone rows cart) before before_up (cart_stand rows cart) key
      ∙ (ap (λ (changes : List Change). row_after (last_in changes key) (row_at before key)) all_keys ∙ taken keys key (row_at before key) i))

  of_entity : (entity : Entity) (key : Key) → entity ≡ key.entity → IsIn key keys → (21 == entity_number entity) ≡ false → (22 == entity_number entity) ≡ false → (23 == entity_number entity) ≡ false → row_at after key ≡ None
  of_entity entity key same i one two three =
      gone_at key i (subst (λ (e : Entity). (21 == entity_number e) ≡ false) same one) (subst (λ (e : Entity). (22 == entity_number e) ≡ false) same two) (subst (λ (e : Entity). (23 == entity_number e) ≡ false) same three)

  is_gone : CartIsGone rows cart after
  is_gone = record {
    itself = gone_at (cart_key cart) (inl refl) refl refl refl;
    lines = each_in (λ key. row_at after key ≡ None) lines
        (λ key i. of_entity E.CartLine key (entity_of E.CartLine (λ row. refers_at REFERENCES row (entity_number E.Cart) cart) (live rows) key i) (inr (left_of lines codes key i)) refl refl refl);
    codes = each_in (λ key. row_at after key ≡ None) codes
        (λ key i. of_entity E.CartCode key (entity_of E.CartCode (λ row. refers_at REFERENCES row (entity_number E.Cart) cart) (live rows) key i) (inr (right_of lines codes key i)) refl refl refl);
  }

  pub gone_then : CartIsGone rows cart (change_rows rows (placing_changes rows cart order moment row settled))
  gone_then = subst (CartIsGone rows cart) (sym in_steps) is_gone

place_takes : (rows : List Row) (cart order : ℕ) (moment : ℤ) (settled : Settled) (after : List Row) → IsInKeyOrder rows → place rows cart order moment settled ≡ Ok after → CartIsGone rows cart after
unfolding place
place_takes rows cart order moment settled after up e = by (row_at rows (cart_key cart)) e
  where
    by : (found : Option Row) → placed rows cart order moment settled found ≡ Ok after → CartIsGone rows cart after
    by None f = absurd (cc)
    by (Some row) f = subst (CartIsGone rows cart) (unless_ok (change_rows rows (placing_changes rows cart order moment row settled)) (breaks rows settled) after f).1 (gone_then rows cart order moment settled row up)

pub takes_cart : (rows : List Row) (cart order : ℕ) (moment value : ℤ) (settled : Settled) (answer : Result (Delta × ℤ) PlanFault) → IsInKeyOrder rows → Plans rows (place rows cart order moment settled) value answer → TakesCart rows cart answer
takes_cart rows cart order moment value settled (Ok plan) up is = place_takes rows cart order moment settled (change_rows rows plan.0.changes) up is.0.rows
takes_cart rows cart order moment value settled (Err fault) up is = tt
