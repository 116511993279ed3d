use Rattle.std.specs.Option.{option_map}
use Rattle.reply_json.specs.RowReplies.{row_data}
use Rattle.reply_json.proofs.Printed.{printed}
use Rattle.reply_json.proofs.row.row_text.Goals as goal

pub returns : goal.returns
returns c = printed (row_data c.args.row.now (option_map (λ given. given.now) c.args.shown)) _ _ _ c.in_ok-out.ensures c.in_ok-put_row.ensures c.finish.ensures
