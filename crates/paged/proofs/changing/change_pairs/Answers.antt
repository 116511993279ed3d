use Rattle.std.proofs.Common.{subst, sym, ◌++◌, map}
use Rattle.std.specs.Option.{option_map}
use Rattle.keyed.specs.Keyed.{Ascends}
use Rattle.paged.specs.Pairs.{key_of, pair_by}
use Rattle.paged.specs.Bound.{made}
use Rattle.paged.specs.Changed.{changed}
use Rattle.paged.proofs.Changes.{back_ascends}
use Rattle.paged.proofs.Stepping.{pairs_step}
use Rattle.paged.proofs.changing.change_pairs.Goals as goal

pub loop-key-preserved : goal.loop-key-preserved
loop-key-preserved g c = record {
  pairs = pairs_step g.K.Ord.cmp g.met.K.Ord.total (option_map g.C.Leaf.leaf_value) g.C.Leaf.leaf_value (made c.args.maker.now ++ changed g.K.Ord.cmp (option_map g.C.Leaf.leaf_value) (map (pair_by g.C.Leaf.leaf_value) c.args.pairs.now) c.args.changes.now) (made c.loop-key.maker) (made c.share_all.new.self) (made c.give.new.maker) c.loop-key.rest.now c.around.result.0.now c.around.result.1.now c.args.changes.now c.loop-key.key-index c.loop-key-item.result c.loop-key.invariant.order c.requires.changes c.loop-key-test.true c.loop-key-item.is c.around.ensures.front c.around.ensures.back c.loop-key.invariant.pairs c.in_ok-share_all.ensures.pairs c.in_ok-give.ensures.pairs;
  makes = c.in_ok-give.ensures.makes;
  order = subst (Ascends g.K.Ord.cmp key_of) (sym c.around.ensures.back) (back_ascends g.K.Ord.cmp g.met.K.Ord.total c.loop-key.rest.now c.loop-key-item.result.0 c.loop-key.invariant.order);
}
