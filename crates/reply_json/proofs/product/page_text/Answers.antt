use Rattle.reply_json.specs.Products.{page_data}
use Rattle.reply_json.proofs.Printed.{printed}
use Rattle.reply_json.proofs.product.page_text.Goals as goal

pub returns : goal.returns
returns c = printed (page_data c.args.front c.args.page.now) _ _ _ c.over-out.ensures c.in_ok-put_page.ensures c.into_room.ensures
