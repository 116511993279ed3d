use Rattle.std.proofs.Common.{ap, sym, ◌∙◌}
use Rattle.shop_defs.specs.Rows.{row_at}
use Rattle.shop_write.proofs.LivePlaces.{row_in-live, live_in_order}
use Rattle.shop_write.proofs.live.RowsView.get.Goals as goal

pub returns-clause-row : goal.returns-clause-row
returns-clause-row c =
    c.get.ensures
    ∙ (ap (row_at c.args.self.now.list) c.live_key.ensures
    ∙ sym (row_in-live c.args.self.now.list c.args.key.now c.len-order.ensures.order))

pub returns-clause-order : goal.returns-clause-order
returns-clause-order c = live_in_order c.args.self.now.list c.len-order.ensures.order
