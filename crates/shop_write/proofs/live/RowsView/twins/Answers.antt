use Rattle.std.proofs.Common.{ap, ◌∙◌}
use Rattle.shop_rows.specs.Lookups.{twins}
use Rattle.shop_write.proofs.LiveLooks.{twins-at_live}
use Rattle.shop_write.proofs.live.RowsView.twins.Goals as goal

pub returns : goal.returns
returns c = c.in_ok-keys.ensures.keys ∙ (ap (twins c.args.self.now.list) c.in_ok-live.ensures ∙ twins-at_live c.args.self.now.list c.args.row.now)
