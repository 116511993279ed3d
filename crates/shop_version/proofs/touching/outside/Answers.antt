use Rattle.std.proofs.Common.{◌∙◌}
use Rattle.shop_version.proofs.Outsides.{upsert_outside_is}
use Rattle.shop_version.proofs.touching.outside.Goals as goal

pub returns-in-Upsert : goal.returns-in-Upsert
returns-in-Upsert c = c.upsert_outside.ensures ∙ upsert_outside_is c.args.overlay.now c.args.op.now c.args.reached.now.left c.args.op.now.kind c.in-Upsert.is c.requires.reach.left
