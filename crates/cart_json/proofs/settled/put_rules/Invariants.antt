use Rattle.std.proofs.Common.{◌≡◌, ◌++◌, drop}
use Rattle.reply_json.specs.Objects.{id_data}
use Rattle.reply_json.specs.Tokens.{rest_of_array}
use Rattle.cart_json.specs.CartReplies.{items_by}
use Rattle.cart_json.proofs.settled.put_rules.Given as goal

abbrev pub invariant-loop-rule : goal.invariant-loop-rule
invariant-loop-rule l =
    l.out ++ rest_of_array (items_by id_data (drop l.rule-index l.rules)) ≡ l.initial.out ++ rest_of_array (items_by id_data l.rules)
