use Rattle.std.proofs.Common.{◌≡◌, ◌++◌, map, drop}
use Rattle.reply_json.specs.RowReplies.{row_items}
use Rattle.reply_json.specs.Tokens.{rest_of_array}
use Rattle.reply_json.proofs.row.put_each.Given as goal

abbrev pub invariant-loop-row : goal.invariant-loop-row
invariant-loop-row l =
    l.out ++ rest_of_array (row_items (map (λ row. row.now) (drop l.row-index l.rows))) ≡ l.initial.out ++ rest_of_array (row_items (map (λ row. row.now) l.rows))
