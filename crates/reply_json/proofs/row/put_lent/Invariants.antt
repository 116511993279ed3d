use Rattle.std.proofs.Common.{◌≡◌, ◌++◌, drop}
use Rattle.shop_chain.specs.Showing.{lent}
use Rattle.reply_json.specs.RowReplies.{shown_members}
use Rattle.reply_json.specs.Tokens.{rest_of_object}
use Rattle.reply_json.proofs.row.put_lent.Given as goal

abbrev pub invariant-loop-value : goal.invariant-loop-value
invariant-loop-value l =
    l.out ++ rest_of_object (shown_members (lent (drop l.value-index l.shown)))
    ≡ l.initial.out ++ rest_of_object (shown_members (lent l.shown))
