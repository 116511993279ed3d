use Rattle.std.proofs.Common.{sym}
use Rattle.shop_write.proofs.LevelTable.{parent_one_part}
use Rattle.shop_write.proofs.cycle.parent_of.Goals as goal

pub row_of-requires-clause-one : goal.row_of-requires-clause-one
row_of-requires-clause-one g c = parent_one_part c.args.of.now c.in-Some.id (sym c.in-Some.ensures)
