use Rattle.std.proofs.Common.{◌≡◌, ◌++◌, map, drop}
use Rattle.std.specs.Option.{option_map}
use Rattle.keyed.specs.Keyed.{Ascends}
use Rattle.paged.specs.Pairs.{pair_by, key_of}
use Rattle.paged.specs.Bound.{made, IsMade}
use Rattle.paged.specs.Changed.{changed}
use Rattle.paged.proofs.changing.change_pairs.Given as goal

abbrev pub invariant-loop-key : goal.invariant-loop-key
invariant-loop-key g l = record {
  pairs : made l.maker ++ changed g.K.Ord.cmp (option_map g.C.Leaf.leaf_value) (map (pair_by g.C.Leaf.leaf_value) l.rest) (drop l.key-index l.changes) ≡ made l.fn.maker ++ changed g.K.Ord.cmp (option_map g.C.Leaf.leaf_value) (map (pair_by g.C.Leaf.leaf_value) l.fn.pairs) l.changes;
  makes : IsMade l.maker;
  order : Ascends g.K.Ord.cmp key_of l.rest;
}
