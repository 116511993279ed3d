use Rattle.std.proofs.Common.{sym}
use Rattle.shop_version.proofs.Dropped.{drop_plan, drop_fault}
use Rattle.shop_version.proofs.Leaves.{drop_leaves}
use Rattle.shop_version.proofs.dropping.plan_drop.Goals as goal

pub losses-requires-clause-draft : goal.losses-requires-clause-draft
losses-requires-clause-draft c = sym c.in-Some.ensures

pub returns-in_ok-losses-in-Some : goal.returns-in_ok-losses-in-Some
returns-in_ok-losses-in-Some c =
    let plan = drop_plan c.args.rows.now.list c.args.version c.in-Some.draft.now _ c.requires.drafted.in_order (sym c.in-Some.ensures) c.in_ok-losses-in-Some.ensures in
    record { plan = plan; leaves = drop_leaves c.args.rows.now.list c.args.version _ c.requires.drafted c.requires.not_live plan }

pub returns-in-None : goal.returns-in-None
returns-in-None c = record { plan = drop_fault c.args.rows.now.list c.args.version _ (sym c.in-None.ensures) c.refused.ensures; leaves = tt }
