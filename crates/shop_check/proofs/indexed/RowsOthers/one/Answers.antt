use Rattle.std.proofs.Common.{sym, ◌∙◌}
use Rattle.shop_check.proofs.Ones.{one_found}
use Rattle.shop_check.proofs.indexed.RowsOthers.one.Goals as goal

pub returns : goal.returns
returns c = c.get.ensures ∙ sym (one_found c.args.entity c.requires.one c.args.id c.args.self.now.list c.requires.formed)
