-- A sorted list of which each element is left once.
use Rattle.std.proofs.Common.{◌≡◌, Bool, true, false, ◌||◌, List, [], ◌∷◌, refl, sym, ap, ◌∙◌}
use Rattle.std.specs.declared.cmp.Ordering.{Ordering}
use Rattle.std.specs.Cmp.{IsTotalOrder}
use Rattle.std.specs.Ordering.{is_eq, eq_by_cmp}
use Rattle.std.specs.List.{list_any, dedup, dedup_from}
use Rattle.std.specs.List.Sorted.{IsStrictlySortedBy}
use Rattle.keyed.specs.Keyed.{Ascends}
use Rattle.shop_rows.proofs.Same.{is_equal}

module _ {K : Type 0} (cmp : K → K → Ordering) where
  -- strictly sorted is ascending
  pub ascends_from_sorted : (xs : List K) → IsStrictlySortedBy cmp xs → Ascends cmp (λ x. x) xs
  unfolding IsStrictlySortedBy
  ascends_from_sorted [] sorted = tt
  ascends_from_sorted (x ∷ xs) sorted = (sorted.0, ascends_from_sorted xs sorted.1)

  module _ (order : IsTotalOrder cmp) (same : K → K → Bool) (ties : (x y : K) → same x y ≡ eq_by_cmp cmp x y) where
    -- what is left of equal elements is found as all of them are
    any-dedup_from : (q x : K) (xs : List K) → list_any (λ y. is_eq (cmp y q)) (dedup_from same x xs) ≡ (is_eq (cmp x q) || list_any (λ y. is_eq (cmp y q)) xs)
    any-dedup_from q x [] = refl
    any-dedup_from q x (y ∷ ys) = by (any-dedup_from q x ys) (any-dedup_from q y ys) (same y x) refl
      where
        twice : (a b c : Bool) → a ≡ b → (a || c) ≡ (a || (b || c))
        twice true b c e = refl
        twice false true c e = absurd (cc)
        twice false false c e = refl

        by : list_any (λ z. is_eq (cmp z q)) (dedup_from same x ys) ≡ (is_eq (cmp x q) || list_any (λ z. is_eq (cmp z q)) ys) → list_any (λ z. is_eq (cmp z q)) (dedup_from same y ys) ≡ (is_eq (cmp y q) || list_any (λ z. is_eq (cmp z q)) ys) → (b : Bool) → same y x ≡ b → list_any (λ z. is_eq (cmp z q)) (dedup_from same x (y ∷ ys)) ≡ (is_eq (cmp x q) || list_any (λ z. is_eq (cmp z q)) (y ∷ ys))
        by more other true e = rw e (more ∙ twice (is_eq (cmp x q)) (is_eq (cmp y q)) (list_any (λ z. is_eq (cmp z q)) ys) (ap is_eq (sym (order.congr y x q (is_equal (cmp y x) (sym (ties y x) ∙ e))))))
        by more other false e = rw e (ap (λ (b : Bool). is_eq (cmp x q) || b) other)

    pub any-dedup : (q : K) (xs : List K) → list_any (λ y. is_eq (cmp y q)) (dedup same xs) ≡ list_any (λ y. is_eq (cmp y q)) xs
    any-dedup q [] = refl
    any-dedup q (x ∷ xs) = any-dedup_from q x xs
