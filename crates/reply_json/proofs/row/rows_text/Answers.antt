use Rattle.std.proofs.Common.{map}
use Rattle.reply_json.specs.RowReplies.{rows_data}
use Rattle.reply_json.proofs.Printed.{printed}
use Rattle.reply_json.proofs.row.rows_text.Goals as goal

pub returns : goal.returns
returns c = printed (rows_data (map (λ row. row.now) c.args.rows.now)) _ _ _ c.over-out.ensures c.in_ok-put_rows.ensures c.into_room.ensures
