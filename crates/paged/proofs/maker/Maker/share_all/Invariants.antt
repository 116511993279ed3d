use Rattle.std.proofs.Common.{◌≡◌, ◌++◌, map, take}
use Rattle.paged.specs.Pairs.{pair_by}
use Rattle.paged.specs.Bound.{made, IsMade}
use Rattle.paged.proofs.maker.Maker.share_all.Given as goal

abbrev pub invariant-loop-key : goal.invariant-loop-key
invariant-loop-key g l = record {
  pairs : made l.self ≡ made l.fn.self ++ map (pair_by g.C.Leaf.leaf_value) (take l.key-index l.pairs);
  makes : IsMade l.self;
}
