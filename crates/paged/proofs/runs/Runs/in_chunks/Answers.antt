use Rattle.std.proofs.Common.{◌++◌, map, subst, sym, ap, ◌∙◌}
use Rattle.std.specs.Arc.{arc_value}
use Rattle.paged.specs.Pairs.{pair_of}
use Rattle.paged.specs.Parts.{parts}
use Rattle.paged.specs.Paged.{ArePages}
use Rattle.paged.specs.Walk.{from}
use Rattle.paged.proofs.Walking.{chunks_ascend, chunk_started, no_chunk, behind}
use Rattle.paged.proofs.runs.Runs.in_chunks.Goals as goal

pub first_parts-requires : goal.first_parts-requires
first_parts-requires g c = chunks_ascend g.K.Ord.cmp g.met.K.Ord.total c.args.chunks.now c.requires

pub in_chunk-requires-clause-pages : goal.in_chunk-requires-clause-pages
in_chunk-requires-clause-pages g c = subst (ArePages g.K.Ord.cmp) (sym (c.deref.ensures ∙ ap (λ (e : _). arc_value e.1) (sym c.index-chunk-0.is))) (chunk_started g.K.Ord.cmp g.met.K.Ord.total c.args.chunks.now c.first_parts.result.now c.args.key.now c.index-chunk-0.result c.requires c.first_parts.ensures c.in-len1-up.len_at_least c.index-chunk-0.is).pages

pub in_chunk-requires-clause-chunk_heads : goal.in_chunk-requires-clause-chunk_heads
in_chunk-requires-clause-chunk_heads g c = (chunk_started g.K.Ord.cmp g.met.K.Ord.total c.args.chunks.now c.first_parts.result.now c.args.key.now c.index-chunk-0.result c.requires c.first_parts.ensures c.in-len1-up.len_at_least c.index-chunk-0.is).chunk_heads

pub in_chunk-requires-clause-page_heads : goal.in_chunk-requires-clause-page_heads
in_chunk-requires-clause-page_heads g c = (chunk_started g.K.Ord.cmp g.met.K.Ord.total c.args.chunks.now c.first_parts.result.now c.args.key.now c.index-chunk-0.result c.requires c.first_parts.ensures c.in-len1-up.len_at_least c.index-chunk-0.is).page_heads

pub returns-in-len1-up : goal.returns-in-len1-up
returns-in-len1-up g c = c.in_chunk.ensures ∙ (ap (λ (l : _). from g.K.Ord.cmp (parts l) c.args.key.now ++ parts (parts (map pair_of (behind c.first_parts.result.now)))) (c.deref.ensures ∙ ap (λ (e : _). arc_value e.1) (sym c.index-chunk-0.is)) ∙ (chunk_started g.K.Ord.cmp g.met.K.Ord.total c.args.chunks.now c.first_parts.result.now c.args.key.now c.index-chunk-0.result c.requires c.first_parts.ensures c.in-len1-up.len_at_least c.index-chunk-0.is).from)

pub returns-in-empty : goal.returns-in-empty
returns-in-empty g c = no_chunk g.K.Ord.cmp g.met.K.Ord.total c.args.chunks.now c.first_parts.result.now c.args.key.now c.requires c.first_parts.ensures c.in-empty.len_below
