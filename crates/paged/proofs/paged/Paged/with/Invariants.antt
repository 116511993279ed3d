use Rattle.std.proofs.Common.{◌≡◌, drop}
use Rattle.std.specs.Option.{option_map}
use Rattle.paged.specs.Changed.{changed}
use Rattle.paged.specs.Paged.{all_pairs}
use Rattle.paged.proofs.paged.Paged.with.Given as goal

abbrev pub invariant-loop-at : goal.invariant-loop-at
invariant-loop-at g l = changed g.K.Ord.cmp (option_map g.C.Leaf.leaf_value) (all_pairs l.next) (drop l.at l.changes) ≡ changed g.K.Ord.cmp (option_map g.C.Leaf.leaf_value) (all_pairs l.self) l.changes
