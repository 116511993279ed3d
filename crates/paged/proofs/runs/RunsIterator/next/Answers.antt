use Rattle.std.proofs.Common.{map, sym, ◌∙◌, ap}
use Rattle.std.specs.Arc.{arc_value}
use Rattle.paged.specs.Pairs.{pair_by, pair_of, value_of}
use Rattle.paged.specs.Walk.{ahead}
use Rattle.paged.proofs.Walking.{opened, run_first, empty_of, behind}
use Rattle.paged.proofs.runs.RunsIterator.next.Goals as goal

pub invariant_of-self-in-len1-up-entries : goal.invariant_of-self-in-len1-up-entries
invariant_of-self-in-len1-up-entries g c = (opened c.self.inside.pages.now c.self.inside.chunks.now c.index-chunk-0.result c.deref.result.now c.entries.result.now c.index-page-0.result c.self.invariant c.in-empty.len_below c.in-len1-up-chunks.len_at_least c.index-chunk-0.is (c.deref.ensures ∙ ap (λ (e : _). arc_value e.1) (sym c.index-chunk-0.is)) c.entries.ensures c.in-len1-up-entries.len_at_least c.index-page-0.is).left

pub returns-in-len1-up-entries-clause-steps : goal.returns-in-len1-up-entries-clause-steps
returns-in-len1-up-entries-clause-steps g c =
    run_first (map (pair_by g.C.Leaf.leaf_value) c.self.inside.run.now) (map (pair_by g.C.Leaf.leaf_value) c.entries-in-len1-up-entries.result.now) (map value_of (ahead (map pair_of c.self.inside.pages.now) (map pair_of c.self.inside.chunks.now))) (map value_of (ahead (map pair_of (behind c.entries.result.now)) (map pair_of (behind c.self.inside.chunks.now)))) c.args.self.now _
    (ap (λ (xs : _). map (pair_by g.C.Leaf.leaf_value) xs) (empty_of c.self.inside.run.now c.if-not-is_empty.ensures))
    c.self.view_is
    (opened c.self.inside.pages.now c.self.inside.chunks.now c.index-chunk-0.result c.deref.result.now c.entries.result.now c.index-page-0.result c.self.invariant c.in-empty.len_below c.in-len1-up-chunks.len_at_least c.index-chunk-0.is (c.deref.ensures ∙ ap (λ (e : _). arc_value e.1) (sym c.index-chunk-0.is)) c.entries.ensures c.in-len1-up-entries.len_at_least c.index-page-0.is).pages
    (c.entries-in-len1-up-entries.ensures ∙ (c.deref-in-len1-up-entries.ensures ∙ ap (λ (e : _). arc_value e.1) (sym c.index-page-0.is)))
