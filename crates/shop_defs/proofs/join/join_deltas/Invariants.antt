use Rattle.std.proofs.Common.{◌≡◌, take}
use Rattle.shop_defs.specs.Joined.{joined}
use Rattle.shop_defs.proofs.join.join_deltas.Given as goal

abbrev pub invariant-loop-delta : goal.invariant-loop-delta
invariant-loop-delta l = joined (take l.delta-index l.deltas) ≡ l.all.list
