use Rattle.std.proofs.Common.{ap, sym, ◌∙◌}
use Rattle.shop_defs.specs.Rows.{row_at}
use Rattle.shop_version.proofs.Shown.{shows_own, shows_live}
use Rattle.shop_version.proofs.showing.shown_at.Goals as goal

pub returns-in-Some : goal.returns-in-Some
returns-in-Some c = shows_own c.args.rows.now.list c.args.version c.args.root.now c.len-order.ensures.order c.args.key.now c.in-Some.row.now (sym (c.in-Some.ensures ∙ ap (row_at c.args.rows.now.list) c.key_at.ensures))

pub returns-in-None : goal.returns-in-None
returns-in-None c = c.live_outside.ensures ∙ shows_live c.args.rows.now.list c.args.version c.args.root.now c.len-order.ensures.order c.args.key.now (sym (c.in-None.ensures ∙ ap (row_at c.args.rows.now.list) c.key_at.ensures))
