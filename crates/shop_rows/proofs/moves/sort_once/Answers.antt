use Rattle.std.proofs.Common.{◌∙◌, sym}
use Rattle.std.specs.Ordering.{is_eq}
use Rattle.std.proofs.lemmas.List.Filters.{dedup_is}
use Rattle.std.proofs.lemmas.List.Kept.{IsStrictlySortedBy-dedup}
use Rattle.std.proofs.lemmas.List.Sorted.{list_any-IsPermutation}
use Rattle.shop_rows.proofs.SortedOnce.{ascends_from_sorted, any-dedup}
use Rattle.shop_rows.proofs.moves.sort_once.Goals as goal

pub returns-clause-ascends : goal.returns-clause-ascends
returns-clause-ascends g c =
    rw (dedup_is _ _ _ c.dedup.ensures.filtered)
    (ascends_from_sorted g.T.Ord.cmp _ (IsStrictlySortedBy-dedup g.met.T.Ord.total g.met.T.Ord.matches_eq _ c.sort_unstable.ensures.sorted))

pub returns-clause-same : goal.returns-clause-same
returns-clause-same g c = λ x.
    rw (dedup_is _ _ _ c.dedup.ensures.filtered)
    (any-dedup g.T.Ord.cmp g.met.T.Ord.total g.T.PartialEq.eq g.met.T.Ord.matches_eq x _
    ∙ sym (list_any-IsPermutation (λ y. is_eq (g.T.Ord.cmp y x)) _ _ c.sort_unstable.ensures.permutation))
