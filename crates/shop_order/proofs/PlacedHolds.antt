-- Placing an order takes from the stock just what the order holds.
use Rattle.std.proofs.Common.{◌≡◌, ℕ, ◌+◌, ◌-◌, ◌≤◌, ℤ, Bool, true, false, ◌&&◌, ◌==◌, List, [], ◌∷◌, ◌++◌, map, length, Option, Some, None, if◌then◌else◌, refl, sym, ap, subst, ◌∙◌, arith, Ok, append_assoc}
use Rattle.std.specs.List.{AllByRecursion}
use Rattle.std.specs.Ordering.{is_eq}
use Rattle.std.proofs.lemmas.Bool.{eqb-true, eq-eqb}
use Rattle.keyed.specs.Keyed.{put}
use Rattle.keyed.proofs.Changes.{find_put}
use Rattle.shop_defs.specs.declared.entity.Entity.{Entity}
use Rattle.shop_defs.specs.declared.entity.Entity.TheVariants as E
use Rattle.shop_defs.specs.declared.row.Row.{Row}
use Rattle.shop_defs.specs.Entities.{entity_number}
use Rattle.shop_defs.specs.Joined.{Change}
use Rattle.shop_defs.specs.Keys.{key_cmp}
use Rattle.shop_defs.specs.Rows.{row_key, row_at, change_rows, IsInKeyOrder}
use Rattle.shop_defs.proofs.Keys.{key_cmp_total}
use Rattle.shop_operations.specs.References.{is_entity}
use Rattle.shop_rows.proofs.ChangedRows.{in_order-change_rows}
use Rattle.cart_price.specs.declared.priced.Delivery.{Delivery}
use Rattle.cart_price.specs.declared.priced.Discount.{Discount}
use Rattle.cart_price.specs.declared.priced.PricedLine.{PricedLine}
use Rattle.cart_price.specs.declared.priced.Settled.{Settled}
use Rattle.shop_order.specs.declared.parts.LineKind.{LineKind}
use Rattle.shop_order.specs.declared.parts.LineKind.TheVariants as K
use Rattle.shop_order.specs.declared.parts.OrderPart.{OrderPart}
use Rattle.shop_order.specs.declared.stock.Move.TheVariants as M
use Rattle.shop_order.specs.Held.{total, is_line, holds, held_by, held, AreStocked, pieces_in}
use Rattle.shop_order.specs.Keys.{stock_key, order_key, line_key}
use Rattle.shop_order.specs.OrderRows.{order_row, line_row, lines_from, tax_change, put_row}
use Rattle.shop_order.specs.Parts.{parts, line_part, discount_part, delivery_parts, line_want}
use Rattle.shop_order.specs.Placing.{cart_gone, placing_changes, wants}
use Rattle.shop_order.specs.Stock.{available, adjusted, moved, size_in}
use Rattle.shop_order.specs.Wants.{is_line_of, lines_of, want_of, pieces, wanted, stocks_moved, falls_short}
use Rattle.shop_order.proofs.Placed.{cart_stand, lines_stand, stocks_stand, taxes_stand}
use Rattle.shop_order.proofs.PlacedStock.{NotAt, IsNoLine, untouched, elsewhere, stocks_are, lines_are, taxes_are, gone_are, idle_all, none_found, same_total, lines_total, lines_sum, sum_of, GivesNone}
use Rattle.shop_order.proofs.Stepped.{have_after, all_after, orders_after, moved_all, enough, change_append, flip_eq}
use Rattle.shop_order.proofs.Stocked.{same_order, same_held}
use Rattle.shop_order.proofs.Totals.{total_changes}

-- what isn't a product holds none
discounts_none : (f : Row → ℕ) (order : ℕ) (kind : LineKind) (discounts : List Discount) → ((discount : Discount) → GivesNone f order (discount_part kind discount)) → AllByRecursion (GivesNone f order) (map (discount_part kind) discounts)
discounts_none f order kind [] none = tt
discounts_none f order kind (discount ∷ discounts) none = (none discount, discounts_none f order kind discounts none)

all_append : (P : OrderPart → Type 0) (xs ys : List OrderPart) → AllByRecursion P xs → AllByRecursion P ys → AllByRecursion P (xs ++ ys)
all_append P [] ys all more = more
all_append P (x ∷ xs) ys all more = (all.0, all_append P xs ys all.1 more)

module _ (rows : List Row) (cart order : ℕ) (moment : ℤ) (settled : Settled) (row : Row) (up : IsInKeyOrder rows) (free : lines_of rows order ≡ []) (missing : row_at rows (order_key order) ≡ None) (long : length settled.labels ≡ length (parts settled.cart)) where
  abbrev s : List Change
  s = stocks_moved rows M.Take (wants settled)

  abbrev g : List Change
  g = cart_gone rows cart

  abbrev placed : Row
  placed = order_row order row moment settled.cart

  abbrev o : List Change
  o = put_row placed ∷ []

  abbrev l : List Change
  l = lines_from order 1 (parts settled.cart) settled.labels

  abbrev t : List Change
  t = map (tax_change order) settled.cart.taxes

  abbrev r1 : List Row
  r1 = change_rows rows s

  abbrev r2 : List Row
  r2 = change_rows r1 g

  abbrev r3 : List Row
  r3 = change_rows r2 o

  abbrev r4 : List Row
  r4 = change_rows r3 l

  abbrev r5 : List Row
  r5 = change_rows r4 t

  in_steps : change_rows rows (placing_changes rows cart order moment row settled) ≡ r5
  in_steps =
      change_append (s ++ g) ((o ++ l) ++ t) rows
      ∙ (change_append (o ++ l) t (change_rows rows (s ++ g))
      ∙ (ap (λ (now : List Row). change_rows now t) (change_append o l (change_rows rows (s ++ g)))
      ∙ ap (λ (now : List Row). change_rows (change_rows (change_rows now o) l) t) (change_append s g rows)))

  up1 : IsInKeyOrder r1
  up1 = in_order-change_rows s rows up

  up2 : IsInKeyOrder r2
  up2 = in_order-change_rows g r1 up1

  up3 : IsInKeyOrder r3
  up3 = in_order-change_rows o r2 up2

  up4 : IsInKeyOrder r4
  up4 = in_order-change_rows l r3 up3

  stock_found : (product : ℕ) → row_at r5 (stock_key product) ≡ row_at r1 (stock_key product)
  stock_found product =
      untouched t r4 (stock_key product) up4 (taxes_stand order settled.cart.taxes) (elsewhere (stock_key product) t (taxes_are (NotAt (stock_key product)) order settled.cart.taxes refl))
      ∙ (untouched l r3 (stock_key product) up3 (lines_stand order 1 (parts settled.cart) settled.labels) (elsewhere (stock_key product) l (lines_are (NotAt (stock_key product)) order 1 (parts settled.cart) settled.labels refl))
      ∙ (untouched o r2 (stock_key product) up2 (refl, tt) (elsewhere (stock_key product) o (refl, tt))
      ∙ untouched g r1 (stock_key product) up1 (cart_stand rows cart) (elsewhere (stock_key product) g (gone_are (NotAt (stock_key product)) rows cart refl refl refl))))

  order_found : (other : ℕ) → row_at r5 (order_key other) ≡ (if order == other then Some placed else row_at rows (order_key other))
  order_found other =
      untouched t r4 (order_key other) up4 (taxes_stand order settled.cart.taxes) (elsewhere (order_key other) t (taxes_are (NotAt (order_key other)) order settled.cart.taxes refl))
      ∙ (untouched l r3 (order_key other) up3 (lines_stand order 1 (parts settled.cart) settled.labels) (elsewhere (order_key other) l (lines_are (NotAt (order_key other)) order 1 (parts settled.cart) settled.labels refl))
      ∙ (find_put key_cmp row_key key_cmp_total r2 placed (order_key other)
      ∙ (ap (λ (b : Bool). if b then Some placed else row_at r2 (order_key other)) (same_order order other)
      ∙ ap (λ (found : Option Row). if order == other then Some placed else found)
      (untouched g r1 (order_key other) up1 (cart_stand rows cart) (elsewhere (order_key other) g (gone_are (NotAt (order_key other)) rows cart refl refl refl)) ∙ orders_after rows M.Take (wants settled) (wants settled) rows other))))

  line_free : (at : ℕ) → row_at r3 (line_key order at) ≡ None
  line_free at =
      untouched o r2 (line_key order at) up2 (refl, tt) (elsewhere (line_key order at) o (refl, tt))
      ∙ (untouched g r1 (line_key order at) up1 (cart_stand rows cart) (elsewhere (line_key order at) g (gone_are (NotAt (line_key order at)) rows cart refl refl refl))
      ∙ (untouched s rows (line_key order at) up (stocks_stand rows (wants settled) (wants settled)) (elsewhere (line_key order at) s (stocks_are (NotAt (line_key order at)) rows M.Take (wants settled) (wants settled) refl)) ∙ none_found order at rows free))

  module _ (product : ℕ) where
    abbrev f : Row → ℕ
    f = held_by r5 product

    order_holds : holds (row_at r5 (order_key order)) ≡ true
    order_holds = ap holds (order_found order) ∙ ap (λ (b : Bool). holds (if b then Some placed else row_at rows (order_key order))) (eq-eqb order order refl)

    -- a line of the order holds what its row says
    line_holds : (position : ℕ) (part : OrderPart) (label : List ℕ) → f (line_row order position part label) ≡ pieces_in (want_of (line_row order position part label)) product
    line_holds position part label = ap (λ (b : Bool). if b then pieces_in (want_of (line_row order position part label)) product else 0) order_holds

    lines_hold : sum_of f order 1 (parts settled.cart) settled.labels ≡ wanted (wants settled) product
    lines_hold =
        let goods = map line_part settled.cart.lines in
        let off = map (discount_part K.Discount) settled.cart.discounts in
        let sent = delivery_parts settled.cart.delivery in
        let off_sent = map (discount_part K.DeliveryDiscount) settled.cart.delivery_discounts in
        let same : parts settled.cart ≡ goods ++ ((off ++ sent) ++ off_sent) = simp append_assoc in
        ap (λ (all : List OrderPart). sum_of f order 1 all settled.labels) same
        ∙ lines_sum f order product 1 settled.cart.lines ((off ++ sent) ++ off_sent) settled.labels (long ∙ ap (λ (all : List OrderPart). length all) same)
        (λ line position label. line_holds position (line_part line) label)
        (all_append (GivesNone f order) (off ++ sent) off_sent
        (all_append (GivesNone f order) off sent (discounts_none f order K.Discount settled.cart.discounts (λ discount position label. line_holds position (discount_part K.Discount discount) label)) (by settled.cart.delivery))
        (discounts_none f order K.DeliveryDiscount settled.cart.delivery_discounts (λ discount position label. line_holds position (discount_part K.DeliveryDiscount discount) label)))
      where
        by : (delivery : Option Delivery) → AllByRecursion (GivesNone f order) (delivery_parts delivery)
        by None = tt
        by (Some delivery) = ((λ position label. line_holds position (record { kind = K.Delivery; product = None; quantity = 1; unit = delivery.cost; total = delivery.cost; rate = Some delivery.rate }) label), tt)

    other_line : (line : Row) → is_line_of order line ≡ false → f line ≡ held_by rows product line
    other_line line e = by (is_entity E.OrderLine line.key.entity) refl (line.key.version == 0) refl (line.key.id == order) refl
      where
        by : (a : Bool) → is_entity E.OrderLine line.key.entity ≡ a → (b : Bool) → (line.key.version == 0) ≡ b → (c : Bool) → (line.key.id == order) ≡ c → f line ≡ held_by rows product line
        by false ea b eb c ec = rw ea refl
        by true ea false eb c ec = rw (ea, eb) refl
        by true ea true eb true ec = let yes : true ≡ false = rw (ea, eb, ec) at e in absurd (cc)
        by true ea true eb false ec =
            same_held rows r5 product line (ap holds (order_found line.key.id) ∙ ap (λ (b : Bool). holds (if b then Some placed else row_at rows (order_key line.key.id))) (flip_eq line.key.id order ec))

    held_then : held r5 product ≡ held rows product + wanted (wants settled) product
    unfolding held
    held_then =
        let taxes = total_changes f t r4 (taxes_stand order settled.cart.taxes) (idle_all r5 product t (taxes_are IsNoLine order settled.cart.taxes refl)) in
        let lines = lines_total f order 1 (parts settled.cart) settled.labels r3 (λ at low. line_free at) in
        let its = total_changes f o r2 (refl, tt) (idle_all r5 product o (refl, tt)) in
        let gone = total_changes f g r1 (cart_stand rows cart) (idle_all r5 product g (gone_are IsNoLine rows cart refl refl refl)) in
        let stocks = total_changes f s rows (stocks_stand rows (wants settled) (wants settled)) (idle_all r5 product s (stocks_are IsNoLine rows M.Take (wants settled) (wants settled) refl)) in
        let others = same_total order f (held_by rows product) rows free other_line in
        let hold = lines_hold in
        omega (arith, taxes, lines, its, gone, stocks, others, hold)

    stocked_then : falls_short rows (wants settled) ≡ None → available rows product + held rows product ≡ adjusted rows product → available r5 product + held r5 product ≡ adjusted r5 product
    stocked_then none was =
        let have : available r5 product ≡ available rows product - wanted (wants settled) product =
        ap (λ (found : Option Row). size_in found 1) (stock_found product) ∙ (have_after rows M.Take (wants settled) (wants settled) rows product ∙ moved_all M.Take (wants settled) (available rows product) product) in
        let all : adjusted r5 product ≡ adjusted rows product = ap (λ (found : Option Row). size_in found 2) (stock_found product) ∙ all_after rows M.Take (wants settled) (wants settled) rows product refl in
        let there_are : wanted (wants settled) product ≤ available rows product = enough rows (wants settled) product none in
        let then_held = held_then in
        omega (arith, have, all, there_are, then_held, was)

  pub placed_stocked : falls_short rows (wants settled) ≡ None → AreStocked rows → AreStocked (change_rows rows (placing_changes rows cart order moment row settled))
  placed_stocked none stocked product =
      subst (λ (after : List Row). available after product + held after product ≡ adjusted after product) (sym in_steps) (stocked_then product none (stocked product))
