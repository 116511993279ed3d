use Rattle.reply_json.specs.Fronts.{front_unknown_data}
use Rattle.reply_json.proofs.Printed.{printed}
use Rattle.reply_json.proofs.front.front_unknown_text.Goals as goal

pub returns : goal.returns
returns c = printed (front_unknown_data c.args.asked c.args.have) _ _ _ c.in_ok-out.ensures c.in_ok-put_front_unknown.ensures c.finish.ensures
