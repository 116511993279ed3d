use Rattle.std.proofs.Common.{Some, None, sym, ap, ◌∙◌}
use Rattle.std.specs.Option.{option_copied}
use Rattle.shop_write.proofs.Twins.{duplicate_is}
use Rattle.shop_write.proofs.duplicate.duplicate.Goals as goal

pub returns-in-Some : goal.returns-in-Some
returns-in-Some g c = duplicate_is (g.V.View.seen c.args.view.now).rows c.args.row.now (Some c.in-Some.other.now) (sym (ap option_copied c.in-Some.is) ∙ c.in_ok-other.ensures)

pub returns-in-None : goal.returns-in-None
returns-in-None g c = duplicate_is (g.V.View.seen c.args.view.now).rows c.args.row.now None (sym (ap option_copied c.in-None.is) ∙ c.in_ok-other.ensures)
