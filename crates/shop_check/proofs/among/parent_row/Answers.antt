use Rattle.std.proofs.Common.{sym}
use Rattle.shop_check.proofs.Ones.{parent_has_one_part}
use Rattle.shop_check.proofs.among.parent_row.Goals as goal

pub one-requires-clause-one : goal.one-requires-clause-one
one-requires-clause-one g c = parent_has_one_part c.args.row.now c.in-Some.id (sym c.in-Some.ensures)
