use Rattle.std.proofs.Common.{◌≡◌, ◌++◌, drop}
use Rattle.reply_json.specs.Trees.{id_items}
use Rattle.reply_json.specs.Tokens.{rest_of_array}
use Rattle.reply_json.proofs.tree.put_ids.Given as goal

abbrev pub invariant-loop-id : goal.invariant-loop-id
invariant-loop-id l = l.out ++ rest_of_array (id_items (drop l.id-index l.ids)) ≡ l.initial.out ++ rest_of_array (id_items l.ids)
