use Rattle.reply_json.specs.Trees.{tree_data}
use Rattle.reply_json.proofs.Printed.{printed}
use Rattle.reply_json.proofs.tree.tree_text.Goals as goal

pub returns : goal.returns
returns c = printed (tree_data c.args.front c.args.path.now c.args.level c.args.children) _ _ _ c.over-out.ensures c.in_ok-put_tree.ensures c.into_room.ensures
