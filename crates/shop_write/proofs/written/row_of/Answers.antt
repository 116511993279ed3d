use Rattle.std.proofs.Common.{sym, ◌∙◌}
use Rattle.shop_write.proofs.OnePart.{one_with}
use Rattle.shop_write.proofs.written.row_of.Goals as goal

pub returns : goal.returns
returns g c = c.row_at.ensures ∙ sym (one_with (g.V.View.seen c.args.view.now) c.args.row.now c.requires.write c.args.of c.args.id c.requires.one)
