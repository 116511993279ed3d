use Rattle.std.proofs.Common.{sym}
use Rattle.shop_version.proofs.Assembled.{merge_missing}
use Rattle.shop_version.proofs.Leaves.{merge_answer}
use Rattle.shop_version.proofs.merging.plan_merge.Goals as goal

pub merged-requires-clause-draft : goal.merged-requires-clause-draft
merged-requires-clause-draft c = sym c.in-Some.ensures

pub returns-in-None : goal.returns-in-None
returns-in-None c = record { plan = merge_missing c.args.rows.now.list c.args.version _ (sym c.in-None.ensures) c.refused.ensures; leaves = tt }

pub returns-in-Some-clause-leaves : goal.returns-in-Some-clause-leaves
returns-in-Some-clause-leaves c = merge_answer c.args.rows.now.list c.args.version c.merged.result c.requires.drafted c.requires.not_live c.merged.ensures
