use Rattle.std.proofs.Common.{◌≡◌, ◌∙◌, ℤ, None, Some, ap, sym, subst, w64}
use Rattle.std.proofs.lemmas.Int.{to_z-of_z}
use Rattle.shop_defs.specs.Rows.{row_at}
use Rattle.shop_order.specs.Keys.{cart_key}
use Rattle.shop_order.specs.Placing.{place}
use Rattle.shop_order.specs.Plans.{Plans}
use Rattle.shop_order.proofs.Placed.{by_cart, cart_there, place_missing}
use Rattle.shop_order.proofs.CartGone.{takes_cart}
use Rattle.shop_order.proofs.PlacedKept.{placed_keeps}
use Rattle.shop_order.proofs.placing.plan_place.Goals as goal

pub place_row-requires-clause-there : goal.place_row-requires-clause-there
place_row-requires-clause-there c =
    let rows = c.args.rows.now.list in
    let there : row_at rows (cart_key c.args.cart) ≡ Some c.in-Some.row.now = ap (row_at rows) (sym c.live_key.ensures) ∙ sym c.in-Some.ensures in
    cart_there rows c.args.cart c.in-Some.row.now there

pub returns-in-Some-clause-plan : goal.returns-in-Some-clause-plan
returns-in-Some-clause-plan c =
    let fits = c.ranges.moment in
    let rows = c.args.rows.now.list in
    let there : row_at rows (cart_key c.args.cart) ≡ Some c.in-Some.row.now = ap (row_at rows) (sym c.live_key.ensures) ∙ sym c.in-Some.ensures in
    by_cart rows c.args.cart c.args.order c.args.moment c.args.settled.now.cart.total c.args.settled.now c.in-Some.row.now c.place_row.result there
    (subst (λ (moment : ℤ). Plans rows (place rows c.in-Some.row.now.key.id c.args.order moment c.args.settled.now) c.args.settled.now.cart.total c.place_row.result) (to_z-of_z w64 c.args.moment fits) c.place_row.ensures)

pub returns-in-Some-clause-stock : goal.returns-in-Some-clause-stock
returns-in-Some-clause-stock c =
    let fits = c.ranges.moment in
    let rows = c.args.rows.now.list in
    let there : row_at rows (cart_key c.args.cart) ≡ Some c.in-Some.row.now = ap (row_at rows) (sym c.live_key.ensures) ∙ sym c.in-Some.ensures in
    let total = c.args.settled.now.cart.total in
    λ free stocked. placed_keeps rows c.args.cart c.args.order c.args.moment total c.args.settled.now c.place_row.result c.in_order.ensures free c.requires.tested c.requires.fits
    (by_cart rows c.args.cart c.args.order c.args.moment c.args.settled.now.cart.total c.args.settled.now c.in-Some.row.now c.place_row.result there
    (subst (λ (moment : ℤ). Plans rows (place rows c.in-Some.row.now.key.id c.args.order moment c.args.settled.now) c.args.settled.now.cart.total c.place_row.result) (to_z-of_z w64 c.args.moment fits) c.place_row.ensures)) stocked

pub returns-in-Some-clause-gone : goal.returns-in-Some-clause-gone
returns-in-Some-clause-gone c =
    let fits = c.ranges.moment in
    let rows = c.args.rows.now.list in
    let there : row_at rows (cart_key c.args.cart) ≡ Some c.in-Some.row.now = ap (row_at rows) (sym c.live_key.ensures) ∙ sym c.in-Some.ensures in
    let total = c.args.settled.now.cart.total in
    takes_cart c.args.rows.now.list c.args.cart c.args.order c.args.moment total c.args.settled.now c.place_row.result c.in_order.ensures
    (by_cart rows c.args.cart c.args.order c.args.moment c.args.settled.now.cart.total c.args.settled.now c.in-Some.row.now c.place_row.result there
    (subst (λ (moment : ℤ). Plans rows (place rows c.in-Some.row.now.key.id c.args.order moment c.args.settled.now) c.args.settled.now.cart.total c.place_row.result) (to_z-of_z w64 c.args.moment fits) c.place_row.ensures))

pub returns-in-None-clause-plan : goal.returns-in-None-clause-plan
returns-in-None-clause-plan c =
    let rows = c.args.rows.now.list in
    let none : row_at rows (cart_key c.args.cart) ≡ None = ap (row_at rows) (sym c.live_key.ensures) ∙ sym c.in-None.ensures in
    place_missing rows c.args.cart c.args.order c.args.moment c.args.settled.now _ none c.refused.ensures
