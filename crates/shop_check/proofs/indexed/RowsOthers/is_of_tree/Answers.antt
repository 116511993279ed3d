use Rattle.std.proofs.Common.{None, Some, sym, ◌∙◌}
use Rattle.shop_operations.specs.References.{live}
use Rattle.shop_check.proofs.Ones.{tree_of_none, tree_of_found}
use Rattle.shop_check.proofs.indexed.RowsOthers.is_of_tree.Goals as goal

pub returns-in-None : goal.returns-in-None
returns-in-None c = sym (tree_of_none c.args.reference.now (live c.args.self.now.list) c.args.row.now (sym c.in-None.ensures))

pub returns-in-None-one : goal.returns-in-None-one
returns-in-None-one c =
    sym (tree_of_found c.args.reference.now c.args.self.now.list c.args.row.now c.in-Some.id None c.len-order.ensures.order c.requires.formed c.requires.one (sym c.in-Some.ensures) c.in-None-one.ensures)

pub returns-in-Some-one : goal.returns-in-Some-one
returns-in-Some-one c =
    c.agree_within.ensures
    ∙ sym (tree_of_found c.args.reference.now c.args.self.now.list c.args.row.now c.in-Some.id (Some c.in-Some-one.other.now) c.len-order.ensures.order c.requires.formed c.requires.one (sym c.in-Some.ensures) c.in-Some-one.ensures)
