use Rattle.std.proofs.Common.{◌∙◌}
use Rattle.shop_write.proofs.Counted.{entity_above}
use Rattle.shop_write.proofs.limit.is_entity_full.Goals as goal

pub returns : goal.returns
returns g c = c.is_above.ensures ∙ entity_above (g.V.View.seen c.args.view.now).rows c.args.row.now c.get.ensures.order (g.V.View.seen c.args.view.now).hidden _ c.count.result c.get.result c.is_none-is_new.result c.count.ensures c.get.ensures.row c.is_none-is_new.ensures
