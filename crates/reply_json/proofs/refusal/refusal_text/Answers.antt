use Rattle.reply_json.specs.Refusals.{refusal_data}
use Rattle.reply_json.proofs.Printed.{printed}
use Rattle.reply_json.proofs.refusal.refusal_text.Goals as goal

pub returns : goal.returns
returns c = printed (refusal_data c.args.refused.now) _ _ _ c.in_ok-out.ensures c.in_ok-put_broken.ensures c.finish.ensures
