use Rattle.std.proofs.Common.{Option, sym, subst}
use Rattle.shop_order.specs.declared.stock.Move.{Move}
use Rattle.shop_order.specs.declared.stock.Move.TheVariants as M
use Rattle.shop_order.specs.Plans.{IsPlanOf}
use Rattle.shop_order.specs.Steps.{step_to}
use Rattle.shop_order.proofs.Plans.{moved_plan}
use Rattle.shop_order.proofs.stepping.step_to.Goals as goal

pub returns-in_ok-changes_of-in-None : goal.returns-in_ok-changes_of-in-None
returns-in_ok-changes_of-in-None c =
    let rows = c.args.rows.now.list in
    subst (λ (way : Option Move). IsPlanOf rows (step_to rows c.args.order c.args.row.now c.args.to way) c.in_ok-changes_of-in-None.field-0.changes) (sym c.in-None.is)
    (moved_plan rows c.args.order c.args.row.now c.args.to c.in_order.ensures c.requires.there M.Give _ c.in_ok-changes_of-in-None.ensures.changes c.in_ok-changes_of-in-None.ensures.ascend)
