-- The test of what two rounds give tells whether it is the same.
use Rattle.std.proofs.Common.{◌≡◌, ◌≢◌, ℕ, Bool, true, false, ◌&&◌, List, Option, Some, None, refl, ap, sym}
use Rattle.std.specs.Bool.{Decides}
use Rattle.std.specs.Ordering.{int_eq}
use Rattle.std.specs.Str.{bytes_eq}
use lib.Pointwise.{pointwise}
use Rattle.std.proofs.lemmas.Bool.Decides.{Decides-and, Decides-like, Decides-eqb, Decides-int_eq}
use Rattle.std.proofs.lemmas.Slice.Eq.{bytes_eq-Decides, slice_eq-Decides}
use Rattle.cart_price.specs.declared.priced.Block.{Block}
use Rattle.cart_price.specs.declared.priced.Delivery.{Delivery}
use Rattle.cart_price.specs.declared.priced.Discount.{Discount}
use Rattle.cart_price.specs.declared.priced.PricedCart.{PricedCart}
use Rattle.cart_price.specs.declared.priced.PricedLine.{PricedLine}
use Rattle.cart_price.specs.declared.priced.TaxSum.{TaxSum}
use Rattle.cart_loop.specs.declared.state.State.{State}
use Rattle.cart_loop.specs.SameCarts.{AreNumbersSame, ArePartsSame}
use Rattle.cart_loop.specs.Sameness.{same_line, same_discount, same_delivery, same_sum, same_block, same_numbers, same_parts, same_state}

line_told : (a b : PricedLine) → Decides (same_line a b) (a ≡ b)
line_told a b =
    Decides-like (same_line a b)
    (λ h i. record { id = h.0.0.0.0.0 i; product = h.0.0.0.0.1 i; quantity = h.0.0.0.1 i; rate = h.0.0.1 i; total = h.0.1 i; unit = h.1 i })
    (λ e. (((((ap (λ (x : PricedLine). x.id) e, ap (λ (x : PricedLine). x.product) e), ap (λ (x : PricedLine). x.quantity) e), ap (λ (x : PricedLine). x.rate) e), ap (λ (x : PricedLine). x.total) e), ap (λ (x : PricedLine). x.unit) e))
    (Decides-and _ _ (Decides-and _ _ (Decides-and _ _ (Decides-and _ _ (Decides-and _ _ (Decides-eqb a.id b.id) (Decides-eqb a.product b.product)) (Decides-eqb a.quantity b.quantity)) (Decides-eqb a.rate b.rate)) (Decides-int_eq a.total b.total)) (Decides-int_eq a.unit b.unit))

discount_told : (a b : Discount) → Decides (same_discount a b) (a ≡ b)
discount_told a b =
    Decides-like (same_discount a b)
    (λ h i. record { amount = h.0.0 i; discount = h.0.1 i; promotion = h.1 i })
    (λ e. ((ap (λ (x : Discount). x.amount) e, ap (λ (x : Discount). x.discount) e), ap (λ (x : Discount). x.promotion) e))
    (Decides-and _ _ (Decides-and _ _ (Decides-int_eq a.amount b.amount) (Decides-eqb a.discount b.discount)) (Decides-eqb a.promotion b.promotion))

sum_told : (a b : TaxSum) → Decides (same_sum a b) (a ≡ b)
sum_told a b =
    Decides-like (same_sum a b)
    (λ h i. record { amount = h.0.0 i; rate = h.0.1 i; tax = h.1 i })
    (λ e. ((ap (λ (x : TaxSum). x.amount) e, ap (λ (x : TaxSum). x.rate) e), ap (λ (x : TaxSum). x.tax) e))
    (Decides-and _ _ (Decides-and _ _ (Decides-int_eq a.amount b.amount) (Decides-eqb a.rate b.rate)) (Decides-int_eq a.tax b.tax))

block_told : (a b : Block) → Decides (same_block a b) (a ≡ b)
block_told a b =
    Decides-like (same_block a b)
    (λ h i. record { cause = h.0 i; line = h.1 i })
    (λ e. (ap (λ (x : Block). x.cause) e, ap (λ (x : Block). x.line) e))
    (Decides-and _ _ (bytes_eq-Decides a.cause b.cause) (Decides-eqb a.line b.line))

some_told : (a b : Delivery) → Decides (same_delivery (Some a) (Some b)) (Some a ≡ Some b)
some_told a b =
    Decides-like (same_delivery (Some a) (Some b))
    (λ h. let same : a ≡ b = λ i. record { cost = h.0.0 i; method = h.0.1 i; rate = h.1 i } in ap (λ (d : Delivery). Some d) same)
    (λ e. let same : a ≡ b = cc in ((ap (λ (d : Delivery). d.cost) same, ap (λ (d : Delivery). d.method) same), ap (λ (d : Delivery). d.rate) same))
    (Decides-and _ _ (Decides-and _ _ (Decides-int_eq a.cost b.cost) (Decides-eqb a.method b.method)) (Decides-eqb a.rate b.rate))

delivery_told : (a b : Option Delivery) → Decides (same_delivery a b) (a ≡ b)
delivery_told None None = (λ _. refl, λ _. refl)
delivery_told (Some a) (Some b) = some_told a b
delivery_told None (Some b) = (λ e. absurd (cc), λ e. absurd (cc))
delivery_told (Some a) None = (λ e. absurd (cc), λ e. absurd (cc))

numbers_told : (a b : PricedCart) → Decides (same_numbers a b) (AreNumbersSame a b)
numbers_told a b =
    Decides-like (same_numbers a b)
    (λ h. record { count = h.0.0.0.0.0; goods = h.0.0.0.0.1; raw = h.0.0.0.1; tax = h.0.0.1; total = h.0.1; weight = h.1 })
    (λ s. (((((s.count, s.goods), s.raw), s.tax), s.total), s.weight))
    (Decides-and _ _ (Decides-and _ _ (Decides-and _ _ (Decides-and _ _ (Decides-and _ _ (Decides-int_eq a.count b.count) (Decides-int_eq a.goods b.goods)) (Decides-int_eq a.raw b.raw)) (Decides-int_eq a.tax b.tax)) (Decides-int_eq a.total b.total)) (Decides-int_eq a.weight b.weight))

items_told : {A : Type 0} (same : A → A → Bool) → ((a b : A) → Decides (same a b) (a ≡ b)) → (xs ys : List A) → Decides (pointwise same xs ys) (xs ≡ ys)
items_told same each xs ys = slice_eq-Decides each xs ys (pointwise same xs ys) refl

parts_told : (a b : PricedCart) → Decides (same_parts a b) (ArePartsSame a b)
parts_told a b =
    Decides-like (same_parts a b)
    (λ h. record { delivery = h.0.0.0.0.0; delivery_discounts = h.0.0.0.0.1; discounts = h.0.0.0.1; lines = h.0.0.1; taxes = h.0.1; blocks = h.1 })
    (λ s. (((((s.delivery, s.delivery_discounts), s.discounts), s.lines), s.taxes), s.blocks))
    (Decides-and _ _ (Decides-and _ _ (Decides-and _ _ (Decides-and _ _ (Decides-and _ _ (delivery_told a.delivery b.delivery) (items_told same_discount discount_told a.delivery_discounts b.delivery_discounts)) (items_told same_discount discount_told a.discounts b.discounts)) (items_told same_line line_told a.lines b.lines)) (items_told same_sum sum_told a.taxes b.taxes)) (items_told same_block block_told a.blocks b.blocks))

cart_is : (a b : PricedCart) → AreNumbersSame a b → ArePartsSame a b → a ≡ b
cart_is a b n p = λ i. record { count = n.count i; goods = n.goods i; raw = n.raw i; tax = n.tax i; total = n.total i; weight = n.weight i; delivery = p.delivery i; delivery_discounts = p.delivery_discounts i; discounts = p.discounts i; lines = p.lines i; taxes = p.taxes i; blocks = p.blocks i }

state_is : (a b : State) → a.rules ≡ b.rules → a.cart ≡ b.cart → a ≡ b
state_is a b rules cart = λ i. record { cart = cart i; rules = rules i }

pub state_told : (a b : State) → Decides (same_state a b) (a ≡ b)
unfolding same_state
state_told a b =
    Decides-like (same_state a b)
    (λ h. state_is a b h.0.0 (cart_is a.cart b.cart h.0.1 h.1))
    (λ e. (
      (
        ap (λ (s : State). s.rules) e,
        record { count = ap (λ (s : State). s.cart.count) e; goods = ap (λ (s : State). s.cart.goods) e; raw = ap (λ (s : State). s.cart.raw) e; tax = ap (λ (s : State). s.cart.tax) e; total = ap (λ (s : State). s.cart.total) e; weight = ap (λ (s : State). s.cart.weight) e },
      ),
      record { delivery = ap (λ (s : State). s.cart.delivery) e; delivery_discounts = ap (λ (s : State). s.cart.delivery_discounts) e; discounts = ap (λ (s : State). s.cart.discounts) e; lines = ap (λ (s : State). s.cart.lines) e; taxes = ap (λ (s : State). s.cart.taxes) e; blocks = ap (λ (s : State). s.cart.blocks) e },
    ))
    (Decides-and _ _ (Decides-and _ _ (bytes_eq-Decides a.rules b.rules) (numbers_told a.cart b.cart)) (parts_told a.cart b.cart))
