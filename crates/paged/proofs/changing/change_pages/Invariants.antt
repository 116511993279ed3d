use Rattle.std.proofs.Common.{◌≡◌, ◌++◌, map, drop}
use Rattle.std.specs.Option.{option_map}
use Rattle.keyed.specs.Keyed.{Ascends}
use Rattle.paged.specs.Pairs.{pair_of, key_of}
use Rattle.paged.specs.Parts.{parts}
use Rattle.paged.specs.Bound.{made, IsMade}
use Rattle.paged.specs.Changed.{changed}
use Rattle.paged.proofs.changing.change_pages.Given as goal

abbrev pub invariant-loop-at : goal.invariant-loop-at
invariant-loop-at g l = record {
  pairs : made l.maker ++ changed g.K.Ord.cmp (option_map g.C.Leaf.leaf_value) (parts (map pair_of (drop l.at l.pages))) l.later ≡ made l.fn.maker ++ changed g.K.Ord.cmp (option_map g.C.Leaf.leaf_value) (parts (map pair_of l.pages)) l.changes;
  makes : IsMade l.maker;
  order : Ascends g.K.Ord.cmp key_of l.later;
}
