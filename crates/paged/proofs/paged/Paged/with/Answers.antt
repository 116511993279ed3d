use Rattle.std.specs.Option.{option_map}
use Rattle.paged.specs.Paged.{all_pairs}
use Rattle.paged.proofs.Edits.{one_more}
use Rattle.paged.proofs.paged.Paged.with.Goals as goal

pub loop-at-preserved : goal.loop-at-preserved
loop-at-preserved g c = one_more g.K.Ord.cmp (option_map g.C.Leaf.leaf_value) (all_pairs c.loop-at.next) (all_pairs c.change_one.new.self) _ c.args.changes.now c.loop-at.at c.in_ok-change_one.ensures.ok c.loop-at.invariant
