use Rattle.reply_json.proofs.Printed.{printed}
use Rattle.cart_json.specs.CartReplies.{settled_data}
use Rattle.cart_json.proofs.settled.settled_text.Goals as goal

pub returns : goal.returns
returns c = printed (settled_data c.args.front c.args.settled.now) _ _ _ c.over-out.ensures c.in_ok-put_settled.ensures c.into_room.ensures
