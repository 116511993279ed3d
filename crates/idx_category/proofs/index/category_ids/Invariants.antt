use Rattle.std.proofs.Common.{◌≡◌, take, map}
use Rattle.shop_defs.specs.declared.key.Key.{Key}
use Rattle.idx_category.proofs.index.category_ids.Given as goal

abbrev pub invariant-loop-key : goal.invariant-loop-key
invariant-loop-key l = l.ids.items ≡ map (λ (key : Key). key.id) (take l.key-index l.key-items)
