use Rattle.std.proofs.Common.{◌≡◌, ◌∙◌, sym, subst}
use Rattle.std.proofs.lemmas.Int.{to_z-of_z}
use Rattle.cart_price.specs.Lent.{cart_rows}
use Rattle.cart_process.specs.LinePrices.{quantity_of}
use Rattle.cart_process.specs.Priced as spec
use Rattle.cart_process.specs.Shown.{AddsUp}
use Rattle.cart_process.proofs.Assembled.{assembled}
use Rattle.cart_process.proofs.Chosen.{is_choice}
use Rattle.cart_process.proofs.ShippingChosen.{is_shipping_choice}
use Rattle.cart_process.proofs.Shown.{adds-up, interval-kept}
use Rattle.cart_process.proofs.round.process.Goals as goal

pub returns-clause-value : goal.returns-clause-value
returns-clause-value c =
    let goods : c.in_ok-goods.goods ≡ spec.goods_of c.state_of-state.result c.args.moment c.args.rules.now (cart_rows c.args.lent.now) = simp (to_z-of_z, c.ranges.moment) at c.in_ok-goods.ensures.value in
    let sending : c.in_ok-sending.sending ≡ spec.sending_of c.state_of-state.result c.args.moment c.args.rules.now (cart_rows c.args.lent.now) c.in_ok-goods.goods.measures = simp (to_z-of_z, c.ranges.moment) at c.in_ok-sending.ensures.value in
    let taxes = rw c.mode_of.ensures at c.in_ok-taxes.ensures.value in
    let lines = rw (c.as_slice.ensures, c.as_slice-2.ensures) at c.in_ok-lines.ensures in
    let blocks = rw (c.as_slice-3.ensures, c.as_slice-4.ensures) at c.in_ok-blocks.ensures in
    c.cart_of.ensures
    ∙ assembled (cart_rows c.args.lent.now) c.args.moment c.args.rules.now c.state_of-state.result c.in_ok-goods.goods c.in_ok-sending.sending c.in_ok-taxes.taxes c.in_ok-lines.lines.items _
    c.state_of-state.ensures goods sending taxes lines blocks

pub returns-clause-sum : goal.returns-clause-sum
returns-clause-sum c =
    let rows = cart_rows c.args.lent.now in
    let goods : c.in_ok-goods.goods ≡ spec.goods_of c.state_of-state.result c.args.moment c.args.rules.now rows = simp (to_z-of_z, c.ranges.moment) at c.in_ok-goods.ensures.value in
    let sending : c.in_ok-sending.sending ≡ spec.sending_of c.state_of-state.result c.args.moment c.args.rules.now rows c.in_ok-goods.goods.measures = simp (to_z-of_z, c.ranges.moment) at c.in_ok-sending.ensures.value in
    let lines = rw (c.as_slice.ensures, c.as_slice-2.ensures) at c.in_ok-lines.ensures in
    let up = adds-up rows c.args.moment c.args.rules.now c.state_of-state.result c.mode_of.result c.in_ok-goods.goods c.in_ok-sending.sending c.in_ok-taxes.taxes c.in_ok-lines.lines.items _
    goods sending lines c.in_ok-goods.ensures.fit c.in_ok-sending.ensures.fits c.in_ok-taxes.ensures.shown.each (interval-kept rows.cart c.requires.cart) c.in_ok-taxes.ensures.amounts in
    subst (λ state. AddsUp state (spec.interval_of rows.cart) c.cart_of.result) c.state_of-state.ensures
    (subst (λ cart. AddsUp c.state_of-state.result (spec.interval_of rows.cart) cart) (sym c.cart_of.ensures) up)

pub returns-clause-choice : goal.returns-clause-choice
returns-clause-choice c = λ line. is_choice c.args.rules.now (quantity_of line.line) line.prices

pub returns-clause-shipping : goal.returns-clause-shipping
returns-clause-shipping c = λ measures. is_shipping_choice c.args.rules.now measures (cart_rows c.args.lent.now).shipping

pub returns-clause-taxes : goal.returns-clause-taxes
returns-clause-taxes c =
    let shown = rw (c.state_of-state.ensures, c.mode_of.ensures) at c.in_ok-taxes.ensures.shown in
    rw c.cart_of.ensures shown
