use Rattle.std.proofs.Common.{◌≡◌, ◌++◌, length}
use Rattle.shop_write.specs.Growth.{keys_below, keys_above}
use Rattle.shop_write.proofs.merging.push_below.Given as goal

abbrev pub invariant-loop-rest : goal.invariant-loop-rest
invariant-loop-rest l = record {
  below : l.joined.items ++ keys_below l.rest l.key ≡ l.initial.joined.items ++ keys_below l.keys l.key;
  above : keys_above l.rest l.key ≡ keys_above l.keys l.key;
}

abbrev pub decreases-loop-rest : goal.decreases-loop-rest
decreases-loop-rest l = length l.rest
