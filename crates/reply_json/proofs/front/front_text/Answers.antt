use Rattle.reply_json.specs.Fronts.{front_data}
use Rattle.reply_json.proofs.Printed.{printed}
use Rattle.reply_json.proofs.front.front_text.Goals as goal

pub returns : goal.returns
returns c = printed (front_data c.args.accepted c.args.published) _ _ _ c.in_ok-out.ensures c.in_ok-put_front.ensures c.finish.ensures
