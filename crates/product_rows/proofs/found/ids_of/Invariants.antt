use Rattle.std.proofs.Common.{◌≡◌, take}
use Rattle.std.proofs.Common.{map}
use Rattle.shop_defs.specs.declared.key.Key.{Key}
use Rattle.product_rows.proofs.found.ids_of.Given as goal

abbrev pub invariant-loop-key : goal.invariant-loop-key
invariant-loop-key l = l.ids.items ≡ map (λ (key : Key). key.id) (take l.key-index l.keys)
