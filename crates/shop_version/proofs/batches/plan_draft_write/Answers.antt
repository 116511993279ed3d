use Rattle.std.proofs.Common.{sym}
use Rattle.shop_version.proofs.DraftAnswers.{missing_fault}
use Rattle.shop_version.proofs.DraftBatches.{leaves_others}
use Rattle.shop_version.proofs.batches.plan_draft_write.Goals as goal

pub returns-in-Some : goal.returns-in-Some
returns-in-Some c = record {
  plan = c.write.ensures.plan;
  others = leaves_others c.args.rows.now.list c.args.version c.args.ops.now c.write.result c.requires.drafted.in_order c.requires.not_live c.write.ensures.plan;
  batch = c.write.ensures.batch;
}

pub returns-in-None : goal.returns-in-None
returns-in-None c = record { plan = missing_fault c.args.rows.now.list c.args.version c.args.ops.now c.no_draft.result (sym c.in-None.ensures) c.no_draft.ensures; others = tt; batch = tt }
