use Rattle.std.proofs.Common.{◌≡◌, ◌++◌, drop}
use Rattle.reply_json.specs.Tokens.{rest_of_array}
use Rattle.cart_json.specs.CartReplies.{discount_data, items_by}
use Rattle.cart_json.proofs.cart.put_discounts.Given as goal

abbrev pub invariant-loop-discount : goal.invariant-loop-discount
invariant-loop-discount l =
    l.out ++ rest_of_array (items_by discount_data (drop l.discount-index l.discounts)) ≡ l.initial.out ++ rest_of_array (items_by discount_data l.discounts)
