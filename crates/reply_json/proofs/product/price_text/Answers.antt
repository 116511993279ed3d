use Rattle.reply_json.specs.Products.{price_data}
use Rattle.reply_json.proofs.Printed.{printed}
use Rattle.reply_json.proofs.product.price_text.Goals as goal

pub returns : goal.returns
returns c = printed (price_data c.args.front c.args.price.now) _ _ _ c.over-out.ensures c.in_ok-put_price.ensures c.into_room.ensures
