use Rattle.std.proofs.Common.{refl, sym, ◌∙◌}
use Rattle.std.specs.Ordering.{is_eq, eq_by_cmp}
use Rattle.std.proofs.lemmas.List.Filters.{dedup_is}
use Rattle.std.proofs.lemmas.List.Kept.{IsStrictlySortedBy-dedup}
use Rattle.std.proofs.lemmas.List.Sorted.{list_any-IsPermutation}
use Rattle.shop_rows.proofs.SameLists.{same_lists}
use Rattle.shop_rows.proofs.SortedOnce.{ascends_from_sorted, any-dedup}
use Rattle.cart_collect.specs.Ranks.{rank_cmp}
use Rattle.cart_collect.specs.RankOrder.{rank_cmp_total}
use Rattle.cart_collect.specs.Looking.{in_rank}
use Rattle.cart_collect.proofs.Ranked.{rank_is, in_rank-held, in_rank-ascends}
use Rattle.cart_collect.proofs.ordering.rank.Goals as goal

pub returns : goal.returns
returns c =
    rw (dedup_is _ _ _ c.dedup.ensures.filtered)
    (same_lists rank_cmp rank_cmp_total rank_is _ (in_rank c.args.ranks.now.items)
    (ascends_from_sorted rank_cmp _ (IsStrictlySortedBy-dedup rank_cmp_total (λ x y. refl) _ c.sort_unstable.ensures.sorted))
    (in_rank-ascends c.args.ranks.now.items)
    (λ q. any-dedup rank_cmp rank_cmp_total (eq_by_cmp rank_cmp) (λ x y. refl) q _
    ∙ (sym (list_any-IsPermutation (λ y. is_eq (rank_cmp y q)) _ _ c.sort_unstable.ensures.permutation)
    ∙ sym (in_rank-held c.args.ranks.now.items q))))
