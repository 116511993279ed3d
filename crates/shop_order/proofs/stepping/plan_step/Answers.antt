use Rattle.std.proofs.Common.{◌≡◌, ◌∙◌, None, Some, ap, sym}
use Rattle.shop_defs.specs.declared.broken.Broken.TheVariants as B
use Rattle.shop_defs.specs.declared.key.Key.{Key}
use Rattle.shop_defs.specs.declared.refused.PlanFault.TheVariants as F
use Rattle.shop_defs.specs.Rows.{row_at}
use Rattle.shop_order.specs.Keys.{order_key}
use Rattle.shop_order.specs.Steps.{step_value}
use Rattle.shop_order.proofs.Kept.{step_keeps, step_state}
use Rattle.shop_order.proofs.Plans.{step_there, step_missing}
use Rattle.shop_order.proofs.stepping.plan_step.Goals as goal

pub returns-in-Some-clause-plan : goal.returns-in-Some-clause-plan
returns-in-Some-clause-plan c =
    let rows = c.args.rows.now.list in
    let there : row_at rows (order_key c.args.order) ≡ Some c.in-Some.row.now = ap (row_at rows) (sym c.live_key-key.ensures) ∙ sym c.in-Some.ensures in
    step_there rows c.args.order c.args.action c.in-Some.row.now (step_value rows c.args.order c.args.action) c.step_from.result there c.step_from.ensures

pub returns-in-Some-clause-stock : goal.returns-in-Some-clause-stock
returns-in-Some-clause-stock c =
    let rows = c.args.rows.now.list in
    let there : row_at rows (order_key c.args.order) ≡ Some c.in-Some.row.now = ap (row_at rows) (sym c.live_key-key.ensures) ∙ sym c.in-Some.ensures in
    let value = step_value rows c.args.order c.args.action in
    step_keeps rows c.args.order c.args.action value c.step_from.result c.requires.each (step_there rows c.args.order c.args.action c.in-Some.row.now value c.step_from.result there c.step_from.ensures)

pub returns-in-Some-clause-state : goal.returns-in-Some-clause-state
returns-in-Some-clause-state c =
    let rows = c.args.rows.now.list in
    let there : row_at rows (order_key c.args.order) ≡ Some c.in-Some.row.now = ap (row_at rows) (sym c.live_key-key.ensures) ∙ sym c.in-Some.ensures in
    let value = step_value rows c.args.order c.args.action in
    step_state rows c.args.order c.args.action value c.step_from.result c.requires.each (step_there rows c.args.order c.args.action c.in-Some.row.now value c.step_from.result there c.step_from.ensures)

pub returns-in-None-clause-plan : goal.returns-in-None-clause-plan
returns-in-None-clause-plan c =
    let rows = c.args.rows.now.list in
    let none : row_at rows (order_key c.args.order) ≡ None = ap (row_at rows) (sym c.live_key-key.ensures) ∙ sym c.in-None.ensures in
    step_missing rows c.args.order c.args.action _ none (c.refused.ensures ∙ ap (λ (key : Key). F.Refused (record { op = 0; broken = B.NoSuchRow key })) c.live_key-key.ensures)
