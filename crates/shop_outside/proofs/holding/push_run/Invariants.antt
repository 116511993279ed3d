use Rattle.std.proofs.Common.{◌≡◌, ◌++◌, map, take}
use Rattle.paged.specs.Pairs.{pair_of}
use Rattle.shop_outside.proofs.holding.push_run.Given as goal

abbrev pub invariant-loop-key : goal.invariant-loop-key
invariant-loop-key l = l.copies ≡ l.initial.copies ++ map pair_of (take l.key-index l.run)
