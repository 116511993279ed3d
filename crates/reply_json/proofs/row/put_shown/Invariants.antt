use Rattle.std.proofs.Common.{◌≡◌, ◌++◌, drop}
use Rattle.reply_json.specs.RowReplies.{shown_members}
use Rattle.reply_json.specs.Tokens.{rest_of_object}
use Rattle.reply_json.proofs.row.put_shown.Given as goal

abbrev pub invariant-loop-name : goal.invariant-loop-name
invariant-loop-name l =
    l.out ++ rest_of_object (shown_members (drop l.name-index l.shown))
    ≡ l.initial.out ++ rest_of_object (shown_members l.shown)
