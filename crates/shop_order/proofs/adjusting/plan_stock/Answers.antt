use Rattle.std.proofs.Common.{◌≡◌, ◌∙◌, ℤ, pos, None, Some, ap, sym, w64}
use Rattle.std.proofs.lemmas.Int.{to_z-of_z}
use Rattle.shop_order.specs.Adjusting.{adjusting_breaks, adjusting_changes, available_after}
use Rattle.shop_order.proofs.Plans.{adjusted_plan, adjusted_fault}
use Rattle.shop_order.proofs.Stocked.{adjust_stocked, amount_few}
use Rattle.shop_order.proofs.adjusting.plan_stock.Goals as goal

pub change_of-requires-clause-few : goal.change_of-requires-clause-few
change_of-requires-clause-few c =
    let fits = c.ranges.amount in
    let rows = c.args.rows.now.list in
    let none : adjusting_breaks rows c.args.product c.args.amount ≡ None = ap (adjusting_breaks rows c.args.product) (sym (to_z-of_z w64 c.args.amount fits)) ∙ (sym c.in_ok-broken.ensures ∙ c.in-None.is) in
    rw (to_z-of_z w64 c.args.amount fits) (amount_few rows c.args.product c.args.amount none)

pub returns-in-Some-clause-plan : goal.returns-in-Some-clause-plan
returns-in-Some-clause-plan c =
    let fits = c.ranges.amount in
    let rows = c.args.rows.now.list in
    let some : adjusting_breaks rows c.args.product c.args.amount ≡ Some c.in-Some.broken = ap (adjusting_breaks rows c.args.product) (sym (to_z-of_z w64 c.args.amount fits)) ∙ (sym c.in_ok-broken.ensures ∙ c.in-Some.is) in
    adjusted_fault rows c.args.product c.args.amount c.in-Some.broken _ some c.refused.ensures

pub returns-in_ok-change_of-in-None-clause-plan : goal.returns-in_ok-change_of-in-None-clause-plan
returns-in_ok-change_of-in-None-clause-plan c =
    let fits = c.ranges.amount in
    let rows = c.args.rows.now.list in
    let same = to_z-of_z w64 c.args.amount fits in
    let none : adjusting_breaks rows c.args.product c.args.amount ≡ None = ap (adjusting_breaks rows c.args.product) (sym same) ∙ (sym c.in_ok-broken.ensures ∙ c.in-None.is) in (
      adjusted_plan rows c.args.product c.args.amount c.in_ok-change_of-in-None.field-0.0.changes none (c.in_ok-change_of-in-None.ensures.changes ∙ ap (adjusting_changes rows c.args.product) same),
      c.in_ok-change_of-in-None.ensures.value ∙ ap (λ (amount : ℤ). pos (available_after rows c.args.product amount)) same,
    )

pub returns-in_ok-change_of-in-None-clause-stock : goal.returns-in_ok-change_of-in-None-clause-stock
returns-in_ok-change_of-in-None-clause-stock c =
    let fits = c.ranges.amount in
    let rows = c.args.rows.now.list in
    let same = to_z-of_z w64 c.args.amount fits in
    let none : adjusting_breaks rows c.args.product c.args.amount ≡ None = ap (adjusting_breaks rows c.args.product) (sym same) ∙ (sym c.in_ok-broken.ensures ∙ c.in-None.is) in
    λ stocked. adjust_stocked rows c.args.product c.args.amount _
    (adjusted_plan rows c.args.product c.args.amount c.in_ok-change_of-in-None.field-0.0.changes none (c.in_ok-change_of-in-None.ensures.changes ∙ ap (adjusting_changes rows c.args.product) same)).rows stocked
