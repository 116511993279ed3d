use Rattle.std.proofs.Common.{◌≡◌, ◌++◌, drop}
use Rattle.reply_json.specs.Products.{page_items}
use Rattle.reply_json.specs.Tokens.{rest_of_array}
use Rattle.reply_json.proofs.product.put_items.Given as goal

abbrev pub invariant-loop-item : goal.invariant-loop-item
invariant-loop-item l = l.out ++ rest_of_array (page_items (drop l.item-index l.items)) ≡ l.initial.out ++ rest_of_array (page_items l.items)
