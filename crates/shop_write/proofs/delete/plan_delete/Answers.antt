use Rattle.std.proofs.Common.{sym, subst, ◌∙◌, ap}
use Rattle.shop_defs.specs.declared.key.Key.{Key}
use Rattle.shop_defs.specs.declared.table.TheConstants.{REFERENCES}
use Rattle.shop_operations.specs.Upserts.{row_in}
use Rattle.shop_write.specs.Deleting.{Plans, removal, Misses}
use Rattle.shop_write.proofs.Deletions.{planned_removal, planned_missing}
use Rattle.shop_write.proofs.delete.plan_delete.Goals as goal

pub returns-in-Some : goal.returns-in-Some
returns-in-Some g c =
    let view = g.V.View.seen c.args.view.now in
    planned_removal view c.args.op.now c.args.replay c.in-Some.row.now c.remove.result c.requires
    (ap (row_in view.rows) (sym c.place_of-key.ensures) ∙ sym c.in-Some.ensures.row)
    (subst (λ (key : Key). Plans view (removal REFERENCES view.rows key) c.remove.result) c.place_of-key.ensures c.remove.ensures)

pub returns-in-None : goal.returns-in-None
returns-in-None g c =
    let view = g.V.View.seen c.args.view.now in
    planned_missing view c.args.op.now c.args.replay c.missing.result c.requires
    (ap (row_in view.rows) (sym c.place_of-key.ensures) ∙ sym c.in-None.ensures.row)
    (subst (λ (key : Key). Misses key c.args.replay c.missing.result) c.place_of-key.ensures c.missing.ensures)
