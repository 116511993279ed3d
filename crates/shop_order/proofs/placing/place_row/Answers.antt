use Rattle.std.proofs.Common.{◌≡◌, ◌++◌, [], ◌∙◌, None, Some, List, ap, sym, w64}
use Rattle.std.proofs.lemmas.Int.{to_z-of_z}
use Rattle.shop_defs.specs.Joined.{Change, add_changes}
use Rattle.shop_order.specs.declared.stock.Move.TheVariants as M
use Rattle.shop_order.specs.OrderRows.{order_changes}
use Rattle.shop_order.specs.Placing.{breaks, cart_gone, wants}
use Rattle.shop_order.specs.Wants.{stocks_moved}
use Rattle.shop_order.proofs.Placed.{amount_fits, placed_plan, placed_fault}
use Rattle.shop_order.proofs.placing.place_row.Goals as goal

pub returns-in-Some : goal.returns-in-Some
returns-in-Some c =
    let some : breaks c.args.rows.now.list c.args.settled.now ≡ Some c.in-Some.broken = sym c.in_ok-broken.ensures ∙ c.in-Some.is in
    placed_fault c.args.rows.now.list c.args.cart.now.key.id c.args.order c.args.moment c.args.settled.now c.args.cart.now c.in-Some.broken _ c.requires.there some c.refused.ensures

pub returns : goal.returns
returns c =
    let fits = c.ranges.moment in
    let rows = c.args.rows.now.list in
    let settled = c.args.settled.now in
    let id = c.args.cart.now.key.id in
    let same = to_z-of_z w64 c.args.moment fits in
    let none : breaks rows settled ≡ None = sym c.in_ok-broken.ensures ∙ c.in-None.is in
    let slice : c.as_slice-in-None.result.now ≡ wants settled = c.as_slice-in-None.ensures.value ∙ c.in_ok-wants.ensures.wants in
    let one : c.push_stocks.new.changes ≡ stocks_moved rows M.Take (wants settled) = c.in_ok-push_stocks-in-None.ensures ∙ (λ i. c.new-changes.ensures i ++ stocks_moved rows M.Take (slice i)) in
    let two : c.push_cart_gone.new.changes ≡ stocks_moved rows M.Take (wants settled) ++ cart_gone rows id = c.in_ok-push_cart_gone-in-None.ensures ∙ ap (λ (all : List Change). all ++ cart_gone rows id) one in
    let three : c.push_order.new.changes ≡ (stocks_moved rows M.Take (wants settled) ++ cart_gone rows id) ++ order_changes c.args.order c.args.cart.now c.args.moment settled =
    c.in_ok-push_order-in-None.ensures ∙ (λ i. two i ++ order_changes c.args.order c.args.cart.now (same i) settled) in (
      placed_plan rows id c.args.order c.args.moment settled c.args.cart.now c.in_ok-delta-in-None.delta.changes c.in_order.ensures c.requires.there none
          (c.in_ok-delta-in-None.ensures.changes ∙ ap (add_changes []) three) c.in_ok-delta-in-None.ensures.ascend,
      to_z-of_z w64 settled.cart.total (amount_fits settled.cart.total c.requires.fits.total),
    )
