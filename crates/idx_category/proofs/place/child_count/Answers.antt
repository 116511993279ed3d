use Rattle.std.proofs.Common.{arith}
use Rattle.idx_category.proofs.Steps.{children_few}
use Rattle.idx_category.proofs.place.child_count.Goals as goal

pub overflow_cast-result : goal.overflow_cast-result
overflow_cast-result c = let few = children_few c.args.rows.now.list c.requires c.args.id in omega (arith, few, c.count_children.ensures)
