use Rattle.std.proofs.Common.{◌≡◌, ◌++◌, drop}
use Rattle.shop_write.specs.Growth.{joined_keys}
use Rattle.shop_write.proofs.merging.joined_keys.Given as goal

abbrev pub invariant-loop-other : goal.invariant-loop-other
invariant-loop-other l = l.joined.items ++ joined_keys l.rest (drop l.other-index l.others) ≡ joined_keys l.keys l.others
