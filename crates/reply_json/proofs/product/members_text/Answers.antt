use Rattle.reply_json.specs.Products.{members_data}
use Rattle.reply_json.proofs.Printed.{printed}
use Rattle.reply_json.proofs.product.members_text.Goals as goal

pub returns : goal.returns
returns c = printed (members_data c.args.front c.args.members.now) _ _ _ c.over-out.ensures c.in_ok-put_members.ensures c.into_room.ensures
