use Rattle.std.proofs.Common.{◌≡◌, ◌++◌, ◌∷◌, [], ◌∙◌, ℤ, List, Some, ap, map, w64}
use Rattle.std.proofs.lemmas.Int.{to_z-of_z}
use Rattle.shop_defs.specs.declared.value.Value.{Value}
use Rattle.cart_price.specs.declared.priced.TaxSum.{TaxSum}
use Rattle.shop_order.specs.OrderRows.{order_row_with, order_row, put_row, lines_from, tax_change}
use Rattle.shop_order.specs.Parts as said
use Rattle.shop_order.proofs.Placed.{three_more}
use Rattle.shop_order.proofs.placing.push_order.Goals as goal

pub returns : goal.returns
returns c =
    let fits = c.ranges.moment in
    let cart = c.args.settled.now.cart in
    let row : c.in_ok-row.row ≡ order_row c.args.order c.args.cart.now c.args.moment cart =
    c.in_ok-row.ensures
    ∙ (ap (λ (moment : ℤ). order_row_with c.args.order c.args.cart.now moment cart c.rounding_of-rounding.result) (to_z-of_z w64 c.args.moment fits)
    ∙ ap (λ (rounding : Value). order_row_with c.args.order c.args.cart.now c.args.moment cart rounding) c.rounding_of-rounding.ensures) in
    three_more c.args.changes.now (put_row (order_row c.args.order c.args.cart.now c.args.moment cart) ∷ []) (lines_from c.args.order 1 (said.parts cart) c.args.settled.now.labels) (map (tax_change c.args.order) cart.taxes)
    c.push.new.self c.push_lines.new.changes c.push_taxes.new.changes
    (c.in_ok-push.ensures.ok ∙ (λ i. c.args.changes.now ++ (c.live_key.ensures i, Some (row i)) ∷ []))
    (c.in_ok-push_lines.ensures ∙ (λ i. c.push.new.self ++ lines_from c.args.order 1 (c.requires.parts i) (c.as_slice.ensures i)))
    (c.in_ok-push_taxes.ensures ∙ ap (λ (sums : List TaxSum). c.push_lines.new.changes ++ map (tax_change c.args.order) sums) c.as_slice-2.ensures)
