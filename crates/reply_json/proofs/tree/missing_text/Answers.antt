use Rattle.reply_json.specs.Trees.{missing_data}
use Rattle.reply_json.proofs.Printed.{printed}
use Rattle.reply_json.proofs.tree.missing_text.Goals as goal

pub returns : goal.returns
returns c = printed (missing_data c.args.front c.args.key.now) _ _ _ c.in_ok-out.ensures c.in_ok-put_missing.ensures c.finish.ensures
