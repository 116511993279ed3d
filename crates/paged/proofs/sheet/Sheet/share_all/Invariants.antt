use Rattle.std.proofs.Common.{◌≡◌, ◌++◌, map, take}
use Rattle.paged.specs.Pairs.{pair_by}
use Rattle.paged.proofs.sheet.Sheet.share_all.Given as goal

abbrev pub invariant-loop-key : goal.invariant-loop-key
invariant-loop-key g l = l.self ≡ l.fn.self ++ map (pair_by g.C.Leaf.leaf_value) (take l.key-index l.entries)
