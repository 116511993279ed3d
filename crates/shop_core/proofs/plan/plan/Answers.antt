use Rattle.shop_core.proofs.Planning.{command_planned}
use Rattle.shop_core.proofs.plan.plan.Goals as goal

pub returns : goal.returns
returns c = command_planned c.args.rows.now.list c.args.command.now c.in-Sync.version c.in-Sync.ops c.args.moment c.in_ok-delta-in-Sync.delta.changes c.len.result c.in-Sync.is c.requires.built c.requires.sound c.in_ok-delta-in-Sync.ensures.plan c.len.ensures
