use Rattle.std.proofs.Common.{◌++◌, ◌+◌, ◌-◌, length, map, take, drop, arith}
use Rattle.std.specs.Option.{option_map}
use Rattle.std.proofs.lemmas.List.{take_rest}
use Rattle.paged.specs.Pairs.{pair_of}
use Rattle.paged.specs.Parts.{parts}
use Rattle.paged.specs.Bound.{made}
use Rattle.paged.specs.Changed.{changed}
use Rattle.paged.proofs.Stepping.{chunk_at, chunks_next}
use Rattle.paged.proofs.changing.change_chunks.Goals as goal

pub change_chunk-requires-clause-head : goal.change_chunk-requires-clause-head
change_chunk-requires-clause-head g c = (chunk_at g.K.Ord.cmp g.met.K.Ord.total c.args.chunks.now c.loop-at.at c.index-chunks-at.result (omega (arith, c.loop-at-test.true)) c.index-chunks-at.is c.requires.chunks).head

pub change_chunk-requires-clause-pages : goal.change_chunk-requires-clause-pages
change_chunk-requires-clause-pages g c = (chunk_at g.K.Ord.cmp g.met.K.Ord.total c.args.chunks.now c.loop-at.at c.index-chunks-at.result (omega (arith, c.loop-at-test.true)) c.index-chunks-at.is c.requires.chunks).pages

pub loop-at-preserved : goal.loop-at-preserved
loop-at-preserved g c = record {
  pairs = chunks_next g.K.Ord.cmp g.met.K.Ord.total (option_map g.C.Leaf.leaf_value) (made c.loop-at.maker) (made c.change_chunk.new.maker) (made c.args.maker.now ++ changed g.K.Ord.cmp (option_map g.C.Leaf.leaf_value) (parts (parts (map pair_of c.args.chunks.now))) c.args.changes.now) c.args.chunks.now (take (length c.args.chunks.now - (c.loop-at.at + 1)) (drop (c.loop-at.at + 1) c.args.chunks.now)) c.loop-at.at c.index-chunks-at.result c.loop-at.later.now c.split_changes.result.0.now c.split_changes.result.1.now (omega (arith, c.loop-at-test.true)) c.index-chunks-at.is c.requires.chunks (take_rest c.args.chunks.now (c.loop-at.at + 1)) c.split_changes.ensures.whole c.split_changes.ensures.below c.split_changes.ensures.others c.split_changes.ensures.none c.in_ok-change_chunk.ensures.pairs c.loop-at.invariant.pairs;
  makes = c.in_ok-change_chunk.ensures.makes;
  order = c.split_changes.ensures.later_order;
}
