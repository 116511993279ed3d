use Rattle.std.proofs.Common.{◌∙◌}
use Rattle.shop_write.proofs.LiveLooks.{count_of-live}
use Rattle.shop_write.proofs.live.RowsView.count.Goals as goal

pub returns : goal.returns
returns c = c.count.ensures ∙ count_of-live c.args.self.now.list c.args.entity
