use Rattle.std.proofs.Common.{◌≡◌, ◌++◌, drop}
use Rattle.reply_json.specs.Tokens.{rest_of_array}
use Rattle.cart_json.specs.CartReplies.{line_data, items_by}
use Rattle.cart_json.proofs.cart.put_lines.Given as goal

abbrev pub invariant-loop-line : goal.invariant-loop-line
invariant-loop-line l =
    l.out ++ rest_of_array (items_by line_data (drop l.line-index l.lines)) ≡ l.initial.out ++ rest_of_array (items_by line_data l.lines)
