use Rattle.std.proofs.Common.{sym, ◌∙◌}
use Rattle.shop_write.proofs.WrittenRows.{row_here, row_elsewhere}
use Rattle.shop_write.proofs.written.row_at.Goals as goal

pub returns-then-stands_at : goal.returns-then-stands_at
returns-then-stands_at g c = row_here (g.V.View.seen c.args.view.now).rows c.args.row.now c.args.key.now (sym c.stands_at.ensures ∙ c.if-stands_at.true)

pub returns : goal.returns
returns g c = row_elsewhere (g.V.View.seen c.args.view.now).rows c.args.row.now c.args.key.now _ (sym c.stands_at.ensures ∙ c.if-stands_at.false) c.get.ensures.row
