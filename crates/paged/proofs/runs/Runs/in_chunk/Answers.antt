use Rattle.std.proofs.Common.{[], ◌++◌, map, subst, sym, ap, ◌∙◌}
use Rattle.keyed.specs.Keyed.{Ascends}
use Rattle.std.specs.Arc.{arc_value}
use Rattle.paged.specs.Pairs.{key_of, pair_of, pair_by}
use Rattle.paged.specs.Parts.{HasHead, parts}
use Rattle.paged.specs.Walk.{from}
use Rattle.paged.proofs.Heads.{all_join}
use Rattle.paged.proofs.Walking.{entries_ascend, page_started, no_page, all_ahead, behind}
use Rattle.paged.proofs.runs.Runs.in_chunk.Goals as goal

pub first_parts-requires : goal.first_parts-requires
first_parts-requires g c = entries_ascend g.K.Ord.cmp g.met.K.Ord.total c.entries.result.now c.args.chunk.now c.entries.ensures c.requires.pages

pub run_from-requires : goal.run_from-requires
run_from-requires g c = subst (Ascends g.K.Ord.cmp key_of) (sym (c.deref.ensures ∙ ap (λ (e : _). arc_value e.1) (sym c.index-page-0.is))) (page_started g.K.Ord.cmp g.met.K.Ord.total c.entries.result.now c.first_parts.result.now c.args.chunk.now c.args.key.now c.index-page-0.result c.entries.ensures c.requires.pages c.first_parts.ensures c.in-len1-up.len_at_least c.index-page-0.is).order

pub invariant_of-result : goal.invariant_of-result
invariant_of-result g c = record {
  chunk_heads = c.requires.chunk_heads;
  page_heads = all_join HasHead (map pair_of (behind c.first_parts.result.now)) (parts (map pair_of c.args.more.now)) (page_started g.K.Ord.cmp g.met.K.Ord.total c.entries.result.now c.first_parts.result.now c.args.chunk.now c.args.key.now c.index-page-0.result c.entries.ensures c.requires.pages c.first_parts.ensures c.in-len1-up.len_at_least c.index-page-0.is).heads c.requires.page_heads;
}

pub returns-in-len1-up : goal.returns-in-len1-up
returns-in-len1-up g c = all_ahead (map (pair_by g.C.Leaf.leaf_value) c.run_from.result.now) (from g.K.Ord.cmp (parts c.args.chunk.now) c.args.key.now) (map pair_of (behind c.first_parts.result.now)) (map pair_of c.args.more.now) (ap (λ (l : _). l ++ parts (map pair_of (behind c.first_parts.result.now))) (c.run_from.ensures ∙ ap (λ (l : _). from g.K.Ord.cmp l c.args.key.now) (c.deref.ensures ∙ ap (λ (e : _). arc_value e.1) (sym c.index-page-0.is))) ∙ (page_started g.K.Ord.cmp g.met.K.Ord.total c.entries.result.now c.first_parts.result.now c.args.chunk.now c.args.key.now c.index-page-0.result c.entries.ensures c.requires.pages c.first_parts.ensures c.in-len1-up.len_at_least c.index-page-0.is).from)

pub returns-in-empty : goal.returns-in-empty
returns-in-empty g c = all_ahead [] (from g.K.Ord.cmp (parts c.args.chunk.now) c.args.key.now) [] (map pair_of c.args.more.now) (no_page g.K.Ord.cmp g.met.K.Ord.total c.entries.result.now c.first_parts.result.now c.args.chunk.now c.args.key.now c.entries.ensures c.requires.pages c.first_parts.ensures c.in-empty.len_below)
