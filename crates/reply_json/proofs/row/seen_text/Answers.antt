use Rattle.std.specs.Option.{option_map}
use Rattle.shop_chain.specs.Showing.{lent}
use Rattle.reply_json.specs.RowReplies.{row_data}
use Rattle.reply_json.proofs.Printed.{printed}
use Rattle.reply_json.proofs.row.seen_text.Goals as goal

pub returns : goal.returns
returns c = printed (row_data c.args.row.now (option_map (λ given. lent given.now) c.args.shown)) _ _ _ c.over-out.ensures c.in_ok-put_seen.ensures c.into_room.ensures
