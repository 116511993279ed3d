use Rattle.std.proofs.Common.{◌≡◌, ◌∙◌, sym, ap, w64}
use Rattle.std.proofs.lemmas.Int.{to_z-of_z}
use Rattle.cart_price.specs.Lent.{cart_rows}
use Rattle.cart_loop.specs.Settled.{IsRefused, IsSettled}
use Rattle.cart_loop.proofs.Answered.{handed_on, is_refused, is_settled}
use Rattle.cart_loop.proofs.Kept.{collected_kept}
use Rattle.cart_loop.proofs.cart.settle.Goals as goal

pub settle_by-requires : goal.settle_by-requires
settle_by-requires c =
    let fits = c.ranges.moment in
    (rw (to_z-of_z w64 c.args.moment fits) c.requires.moment, collected_kept c.args.rows.now.list c.args.cart (cart_rows c.in_ok-data.data) c.requires.rows c.in_ok-data.ensures.value)

pub returns-in_err-state : goal.returns-in_err-state
returns-in_err-state c =
    let fits = c.ranges.moment in
    let rows = c.args.rows.now.list in
    let fault = c.in_err-state.field-0.0 in
    handed_on (IsSettled rows c.args.cart c.args.moment) (IsRefused rows c.args.cart c.args.moment) c.from_residual-in_err-state.result fault c.from_residual-in_err-state.ensures.1
    (is_refused rows c.args.cart c.args.moment (cart_rows c.in_ok-data.data) c.in_ok-data.ensures.value c.in_ok-rules.rules c.in_ok-rules.ensures _ (to_z-of_z w64 c.args.moment fits) fault c.in_err-state.ensures)

pub returns : goal.returns
returns c =
    let fits = c.ranges.moment in
    is_settled c.args.rows.now.list c.args.cart c.args.moment (cart_rows c.in_ok-data.data) c.in_ok-data.ensures.value c.in_ok-rules.rules c.in_ok-rules.ensures _ (to_z-of_z w64 c.args.moment fits)
    (c.in_ok-state.state, c.in_ok-state.rounds) c.in_ok-labels.labels c.in_ok-state.ensures c.in_ok-labels.ensures
