use Rattle.std.proofs.Common.{sym, ◌∙◌}
use Rattle.shop_write.proofs.OnePart.{kept_none, kept_absent, kept_there}
use Rattle.shop_write.proofs.missing.is_kept.Goals as goal

pub returns-in-None : goal.returns-in-None
returns-in-None g c = kept_none (g.V.View.seen c.args.view.now) c.args.row.now c.requires.write c.args.reference.now (sym c.in-None.ensures)

pub returns-in-None-row_of : goal.returns-in-None-row_of
returns-in-None-row_of g c = kept_absent (g.V.View.seen c.args.view.now) c.args.row.now c.requires.write c.args.reference.now c.in-Some.id (sym c.in-Some.ensures) c.requires.one c.in-None-row_of.ensures

pub returns-in-Some-row_of : goal.returns-in-Some-row_of
returns-in-Some-row_of g c = c.agree_within.ensures ∙ kept_there (g.V.View.seen c.args.view.now) c.args.row.now c.requires.write c.args.reference.now c.in-Some.id c.in-Some-row_of.other.now (sym c.in-Some.ensures) c.requires.one c.in-Some-row_of.ensures
