use Rattle.std.proofs.Common.{sym}
use Rattle.shop_version.proofs.DraftAnswers.{rootless_fault}
use Rattle.shop_version.proofs.batches.write.Goals as goal

pub returns-in-None : goal.returns-in-None
returns-in-None c = record { plan = rootless_fault c.args.rows.now.list c.args.version c.args.draft.now c.args.ops.now c.no_draft.result c.requires.draft (sym c.in-None.ensures) c.no_draft.ensures; batch = tt }
