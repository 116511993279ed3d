use Rattle.std.proofs.Common.{subst, sym, map}
use Rattle.std.specs.Option.{option_map}
use Rattle.keyed.specs.Keyed.{Ascends}
use Rattle.paged.specs.Pairs.{key_of, pair_of}
use Rattle.paged.specs.Parts.{parts}
use Rattle.paged.specs.Bound.{made}
use Rattle.paged.proofs.Changes.{ascends_changed}
use Rattle.paged.proofs.Looking.{with_pairs, with_all}
use Rattle.paged.proofs.paged.Paged.remade.Goals as goal

pub invariant_of-result : goal.invariant_of-result
invariant_of-result g c = record {
  heads = c.in_ok-chunks.ensures.chunk_heads;
  pages = record {
    heads = c.in_ok-chunks.ensures.page_heads;
    sized = c.in_ok-chunks.ensures.sized;
    order = subst (Ascends g.K.Ord.cmp key_of) (sym (with_pairs g.K.Ord.cmp g.met.K.Ord.total (option_map g.C.Leaf.leaf_value) c.self.inside.chunks c.in_ok-chunks.chunks (map pair_of c.entries.result.now) (made c.new-maker.result) (made c.change_chunks.new.maker) c.args.changes.now c.entries.ensures c.in_ok-chunks.ensures.pairs c.in_ok-change_chunks.ensures.pairs c.new-maker.ensures.pairs)) (ascends_changed g.K.Ord.cmp g.met.K.Ord.total (option_map g.C.Leaf.leaf_value) (parts (parts c.self.inside.chunks)) c.args.changes.now c.self.invariant.pages.order);
  };
}

pub returns : goal.returns
returns g c = with_all g.K.Ord.cmp g.met.K.Ord.total (option_map g.C.Leaf.leaf_value) c.self.inside.chunks c.in_ok-chunks.chunks c.args.self.now c.args.changes.now c.self.view_is (with_pairs g.K.Ord.cmp g.met.K.Ord.total (option_map g.C.Leaf.leaf_value) c.self.inside.chunks c.in_ok-chunks.chunks (map pair_of c.entries.result.now) (made c.new-maker.result) (made c.change_chunks.new.maker) c.args.changes.now c.entries.ensures c.in_ok-chunks.ensures.pairs c.in_ok-change_chunks.ensures.pairs c.new-maker.ensures.pairs)
