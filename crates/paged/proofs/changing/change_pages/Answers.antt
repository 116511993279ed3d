use Rattle.std.proofs.Common.{◌++◌, ◌+◌, ◌-◌, length, map, take, drop, arith}
use Rattle.std.specs.Option.{option_map}
use Rattle.std.proofs.lemmas.List.{take_rest}
use Rattle.paged.specs.Pairs.{pair_of}
use Rattle.paged.specs.Parts.{parts}
use Rattle.paged.specs.Bound.{made}
use Rattle.paged.specs.Changed.{changed}
use Rattle.paged.proofs.Stepping.{page_at, pages_next}
use Rattle.paged.proofs.changing.change_pages.Goals as goal

pub change_page-requires-clause-head : goal.change_page-requires-clause-head
change_page-requires-clause-head g c = (page_at g.K.Ord.cmp g.met.K.Ord.total c.args.pages.now c.loop-at.at c.index-pages-at.result (omega (arith, c.loop-at-test.true)) c.index-pages-at.is c.requires.pages).head

pub change_page-requires-clause-most : goal.change_page-requires-clause-most
change_page-requires-clause-most g c = (page_at g.K.Ord.cmp g.met.K.Ord.total c.args.pages.now c.loop-at.at c.index-pages-at.result (omega (arith, c.loop-at-test.true)) c.index-pages-at.is c.requires.pages).most

pub change_page-requires-clause-order : goal.change_page-requires-clause-order
change_page-requires-clause-order g c = (page_at g.K.Ord.cmp g.met.K.Ord.total c.args.pages.now c.loop-at.at c.index-pages-at.result (omega (arith, c.loop-at-test.true)) c.index-pages-at.is c.requires.pages).order

pub loop-at-preserved : goal.loop-at-preserved
loop-at-preserved g c = record {
  pairs = pages_next g.K.Ord.cmp g.met.K.Ord.total (option_map g.C.Leaf.leaf_value) (made c.loop-at.maker) (made c.change_page.new.maker) (made c.args.maker.now ++ changed g.K.Ord.cmp (option_map g.C.Leaf.leaf_value) (parts (map pair_of c.args.pages.now)) c.args.changes.now) c.args.pages.now (take (length c.args.pages.now - (c.loop-at.at + 1)) (drop (c.loop-at.at + 1) c.args.pages.now)) c.loop-at.at c.index-pages-at.result c.loop-at.later.now c.split_changes.result.0.now c.split_changes.result.1.now (omega (arith, c.loop-at-test.true)) c.index-pages-at.is c.requires.pages (take_rest c.args.pages.now (c.loop-at.at + 1)) c.split_changes.ensures.whole c.split_changes.ensures.below c.split_changes.ensures.others c.split_changes.ensures.none c.in_ok-change_page.ensures.pairs c.loop-at.invariant.pairs;
  makes = c.in_ok-change_page.ensures.makes;
  order = c.split_changes.ensures.later_order;
}
