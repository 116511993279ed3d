use Rattle.std.proofs.Common.{◌≡◌, ◌++◌, take}
use Rattle.shop_rows.specs.Mentions.{reference_mentions}
use Rattle.shop_rows.proofs.moves.push_references.Given as goal

abbrev pub invariant-loop-reference : goal.invariant-loop-reference
invariant-loop-reference l = l.all.items ≡ l.initial.all.items ++ reference_mentions (take l.reference-index l.table) l.row
