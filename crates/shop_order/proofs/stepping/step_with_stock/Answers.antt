use Rattle.std.proofs.Common.{◌≡◌, ◌++◌, ◌∷◌, [], ◌∙◌, None, List, ap, sym}
use Rattle.shop_defs.specs.Joined.{add_changes}
use Rattle.shop_order.specs.declared.wants.Want.{Want}
use Rattle.shop_order.specs.Steps.{state_change}
use Rattle.shop_order.specs.Wants.{wants_of, short_for, stocks_moved}
use Rattle.shop_order.proofs.Plans.{stepped_plan}
use Rattle.shop_order.proofs.stepping.step_with_stock.Goals as goal

pub returns : goal.returns
returns c =
    let rows = c.args.rows.now.list in
    let one : c.as_slice.result.now ≡ wants_of rows c.args.order = c.as_slice.ensures.value ∙ c.in_ok-wants.ensures.wants in
    let two : c.as_slice-in-None.result.now ≡ wants_of rows c.args.order = c.as_slice-in-None.ensures.value ∙ c.in_ok-wants.ensures.wants in
    let none : short_for c.args.way rows (wants_of rows c.args.order) ≡ None = ap (short_for c.args.way rows) (sym one) ∙ sym c.in-None.ensures in
    stepped_plan rows c.args.order c.args.row.now c.args.to c.in_order.ensures c.requires.there c.args.way _ none
    (c.in_ok-changes_of-in-None.ensures.changes ∙ ap (λ (wants : List Want). add_changes [] (stocks_moved rows c.args.way wants ++ state_change c.args.order c.args.row.now c.args.to ∷ [])) two) c.in_ok-changes_of-in-None.ensures.ascend
