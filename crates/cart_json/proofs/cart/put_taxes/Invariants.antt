use Rattle.std.proofs.Common.{◌≡◌, ◌++◌, drop}
use Rattle.reply_json.specs.Tokens.{rest_of_array}
use Rattle.cart_json.specs.CartReplies.{tax_data, items_by}
use Rattle.cart_json.proofs.cart.put_taxes.Given as goal

abbrev pub invariant-loop-sum : goal.invariant-loop-sum
invariant-loop-sum l =
    l.out ++ rest_of_array (items_by tax_data (drop l.sum-index l.taxes)) ≡ l.initial.out ++ rest_of_array (items_by tax_data l.taxes)
