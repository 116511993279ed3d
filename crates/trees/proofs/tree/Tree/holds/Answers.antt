use Rattle.std.proofs.Common.{◌≡◌, ◌∙◌, ap, List, length, None}
use Rattle.shop_defs.specs.declared.row.Row.{Row}
use Rattle.trees.specs.Holding.{answers, is_all_yes, tree_holds}
use Rattle.trees.specs.Counts.{all_yes_by}
use Rattle.trees.proofs.Counting.{all_yes-counts}
use Rattle.trees.proofs.Leaves.{turned_tree, same_tree}
use Rattle.trees.proofs.Orders as orders
use Rattle.trees.proofs.Meanings.{tree_means}
use Rattle.trees.proofs.tree.Tree.holds.Goals as goal

pub returns : goal.returns
returns g c =
    let says = g.T.Test.says c.args.test.now in
    let nodes : List Row = c.as_slice-nodes.result.now in
    let value : c.is_all_yes.result ≡ tree_holds says c.args.self.now =
    c.is_all_yes.ensures ∙ (ap all_yes_by c.answers_below.ensures ∙ (all_yes-counts (answers says nodes (length nodes) None)
    ∙ ap (λ (rows : List Row). is_all_yes (answers says rows (length rows) None)) c.as_slice-nodes.ensures)) in
    record {
      value = value;
      words = λ own meaning is. value ∙ tree_means says c.args.self.now own meaning is;
      turned = λ root turned is. value ∙ turned_tree says c.args.self.now root turned is;
      order = λ others moved. value ∙ orders.same_tree says c.args.self.now others moved;
      leaves = λ other agree. value ∙ same_tree says other c.args.self.now agree;
    }
