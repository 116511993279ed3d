use Rattle.std.proofs.Common.{◌≡◌, ◌++◌, drop}
use Rattle.reply_json.specs.Tokens.{rest_of_array}
use Rattle.cart_json.specs.CartReplies.{block_data, items_by}
use Rattle.cart_json.proofs.settled.put_blocks.Given as goal

abbrev pub invariant-loop-block : goal.invariant-loop-block
invariant-loop-block l =
    l.out ++ rest_of_array (items_by block_data (drop l.block-index l.blocks)) ≡ l.initial.out ++ rest_of_array (items_by block_data l.blocks)
