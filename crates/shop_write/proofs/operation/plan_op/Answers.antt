use Rattle.shop_write.proofs.Wordings.{plan_leaves}
use Rattle.shop_write.proofs.operation.plan_op.Goals as goal

pub returns-in-Upsert : goal.returns-in-Upsert
returns-in-Upsert g c = record { plan = c.plan_upsert.ensures c.args.replay; leaves = plan_leaves _ _ c.args.replay _ (c.plan_upsert.ensures c.args.replay) }

pub returns-in-Delete : goal.returns-in-Delete
returns-in-Delete g c = record { plan = c.plan_delete.ensures; leaves = plan_leaves _ _ c.args.replay _ c.plan_delete.ensures }
