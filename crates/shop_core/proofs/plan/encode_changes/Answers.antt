use Rattle.std.proofs.lemmas.List.Elements.{All-from_recursion}
use Rattle.std.specs.Option.{IfSome}
use Rattle.shop_kept.specs.Spelling.{FitsRow}
use Rattle.shop_core.proofs.plan.encode_changes.Goals as goal

pub encode_change-requires : goal.encode_change-requires
encode_change-requires c = rw c.loop-key-item.is (All-from_recursion (λ change. IfSome change.1 FitsRow) c.args.changes.now c.requires c.loop-key.key-index _ c.loop-key-test.true)
