use Rattle.std.proofs.Common.{◌≡◌, ◌++◌, drop}
use Rattle.serde_json.specs.Data.{string}
use Rattle.reply_json.specs.Tokens.{rest_of_array}
use Rattle.cart_json.specs.CartReplies.{items_by}
use Rattle.cart_json.proofs.settled.put_labels.Given as goal

abbrev pub invariant-loop-label : goal.invariant-loop-label
invariant-loop-label l =
    l.out ++ rest_of_array (items_by string (drop l.label-index l.labels)) ≡ l.initial.out ++ rest_of_array (items_by string l.labels)
