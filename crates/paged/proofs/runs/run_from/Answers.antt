use Rattle.std.proofs.Common.{map, subst, sym, ap, ◌∙◌}
use Rattle.std.proofs.lemmas.List.{take_rest}
use Rattle.keyed.specs.Keyed.{Ascends}
use Rattle.paged.specs.Pairs.{key_of, pair_by}
use Rattle.paged.specs.Walk.{from}
use Rattle.paged.proofs.Places.{ascends_map, from_map}
use Rattle.paged.proofs.runs.run_from.Goals as goal

pub count_below-requires : goal.count_below-requires
count_below-requires g c = ascends_map g.K.Ord.cmp g.C.Leaf.leaf_value c.entries-pairs.result.now (subst (Ascends g.K.Ord.cmp key_of) (sym c.entries-pairs.ensures) c.requires)

pub returns : goal.returns
returns g c =
    ap (λ (xs : _). map (pair_by g.C.Leaf.leaf_value) xs) (take_rest c.entries-pairs.result.now c.count_below.result ∙ sym c.count_below.ensures.from)
    ∙ (sym (from_map g.K.Ord.cmp g.C.Leaf.leaf_value c.entries-pairs.result.now c.args.key.now) ∙ ap (λ (xs : _). from g.K.Ord.cmp xs c.args.key.now) c.entries-pairs.ensures)
