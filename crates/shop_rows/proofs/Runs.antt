-- Parts of a list in the order of a place: what stands at it, and what stands behind it.
use Rattle.std.proofs.Common.{◌≡◌, ℕ, zero, suc, ◌+◌, ◌-◌, ◌<◌, ◌≤◌, Bool, true, false, List, [], ◌∷◌, length, get_or, take, drop, filter, refl, ap, ◌∙◌, arith}
use Rattle.std.specs.declared.cmp.Ordering.{Ordering}
use Rattle.std.specs.declared.cmp.Ordering.TheVariants.{Less, Equal, Greater}
use Rattle.std.specs.Ordering.{is_lt, is_eq, is_gt, is_le, ordering_index}
use Rattle.std.specs.List.Sorted.{IsNonDecreasingBy, IsPartitionedBy, IsPartitionPoint}
use Rattle.std.proofs.lemmas.List.{take_rest, length-drop, get_or-drop}

module _ {X : Type 0} (p : X → Bool) where
  -- where the front fails the test and the rest passes it, the rest is what passes
  pub drop_is_filter : (xs : List X) (i : ℕ) → ((k : ℕ) (d : X) → k < i → k < length xs → p (get_or xs k d) ≡ false) → ((k : ℕ) (d : X) → i ≤ k → k < length xs → p (get_or xs k d) ≡ true) → drop i xs ≡ filter p xs
  drop_is_filter [] zero before after = refl
  drop_is_filter [] (suc i) before after = refl
  drop_is_filter (x ∷ xs) zero before after =
      rw (after 0 x (omega arith) (omega arith)) (ap (λ (ys : List X). x ∷ ys) (drop_is_filter xs zero (λ k d l r. absurd (omega arith)) (λ k d l r. after (suc k) d (omega arith) (omega arith))))
  drop_is_filter (x ∷ xs) (suc i) before after =
      rw (before 0 x (omega arith) (omega arith)) (drop_is_filter xs i (λ k d l r. before (suc k) d (omega arith) (omega arith)) (λ k d l r. after (suc k) d (omega arith) (omega arith)))

  -- where the front passes the test and the rest fails it, the front is what passes
  pub take_is_filter : (xs : List X) (n : ℕ) → ((k : ℕ) (d : X) → k < n → k < length xs → p (get_or xs k d) ≡ true) → ((k : ℕ) (d : X) → n ≤ k → k < length xs → p (get_or xs k d) ≡ false) → take n xs ≡ filter p xs
  take_is_filter [] zero before after = refl
  take_is_filter [] (suc n) before after = refl
  take_is_filter (x ∷ xs) zero before after =
      rw (after 0 x (omega arith) (omega arith)) (take_is_filter xs zero (λ k d l r. absurd (omega arith)) (λ k d l r. after (suc k) d (omega arith) (omega arith)))
  take_is_filter (x ∷ xs) (suc n) before after =
      rw (before 0 x (omega arith) (omega arith)) (ap (λ (ys : List X). x ∷ ys) (take_is_filter xs n (λ k d l r. before (suc k) d (omega arith) (omega arith)) (λ k d l r. after (suc k) d (omega arith) (omega arith))))

  -- where the front fails the test, what passes is in the rest
  pub filter_of_rest : (xs : List X) (i : ℕ) → ((k : ℕ) (d : X) → k < i → k < length xs → p (get_or xs k d) ≡ false) → filter p (drop i xs) ≡ filter p xs
  filter_of_rest [] zero before = refl
  filter_of_rest [] (suc i) before = refl
  filter_of_rest (x ∷ xs) zero before = refl
  filter_of_rest (x ∷ xs) (suc i) before = rw (before 0 x (omega arith) (omega arith)) (filter_of_rest xs i (λ k d l r. before (suc k) d (omega arith) (omega arith)))

lt_from_index : (a b : Ordering) → ordering_index a ≤ ordering_index b → is_lt b ≡ true → is_lt a ≡ true
lt_from_index Less b h e = refl
lt_from_index Equal Less h e = absurd (omega arith)
lt_from_index Equal Equal h e = absurd (cc)
lt_from_index Equal Greater h e = absurd (cc)
lt_from_index Greater Less h e = absurd (omega arith)
lt_from_index Greater Equal h e = absurd (cc)
lt_from_index Greater Greater h e = absurd (cc)

le_from_index : (a b : Ordering) → ordering_index a ≤ ordering_index b → is_le b ≡ true → is_le a ≡ true
le_from_index Less b h e = refl
le_from_index Equal b h e = refl
le_from_index Greater Less h e = absurd (omega arith)
le_from_index Greater Equal h e = absurd (omega arith)
le_from_index Greater Greater h e = absurd (cc)

no_eq_below : (o : Ordering) → is_lt o ≡ true → is_eq o ≡ false
no_eq_below Less e = refl
no_eq_below Equal e = absurd (cc)
no_eq_below Greater e = absurd (cc)

eq_between : (o : Ordering) → is_lt o ≡ false → is_le o ≡ true → is_eq o ≡ true
eq_between Less e f = absurd (cc)
eq_between Equal e f = refl
eq_between Greater e f = absurd (cc)

no_eq_above : (o : Ordering) → is_le o ≡ false → is_eq o ≡ false
no_eq_above Less e = absurd (cc)
no_eq_above Equal e = absurd (cc)
no_eq_above Greater e = refl

no_gt : (o : Ordering) → is_le o ≡ true → is_gt o ≡ false
no_gt Less e = refl
no_gt Equal e = refl
no_gt Greater e = absurd (cc)

gt_above : (o : Ordering) → is_le o ≡ false → is_gt o ≡ true
gt_above Less e = absurd (cc)
gt_above Equal e = absurd (cc)
gt_above Greater e = refl

module _ {X : Type 0} (place : X → Ordering) (xs : List X) where
  abbrev Rises : List X → Type 0
  Rises ys = IsNonDecreasingBy (λ x. ordering_index (place x)) ys

  pub parted_lt : (ys : List X) → Rises ys → IsPartitionedBy (λ x. is_lt (place x)) ys
  parted_lt ys up i j d l r e = lt_from_index _ _ (up i j d l r) e

  pub parted_le : (ys : List X) → Rises ys → IsPartitionedBy (λ x. is_le (place x)) ys
  parted_le ys up i j d l r e = le_from_index _ _ (up i j d l r) e

  -- what stands behind the place
  pub behind : (i : ℕ) → IsPartitionPoint (λ x. is_le (place x) ≡ true) (λ x. is_le (place x) ≡ false) xs i → take (length xs - i) (drop i xs) ≡ filter (λ x. is_gt (place x)) xs
  behind i point =
      take_rest xs i
      ∙ drop_is_filter (λ x. is_gt (place x)) xs i (λ k d l r. no_gt _ (point.0 k d (omega arith) l)) (λ k d l r. gt_above _ (point.1 k d l r))

  -- what stands at the place
  pub run : (i n : ℕ) → IsPartitionPoint (λ x. is_lt (place x) ≡ true) (λ x. is_lt (place x) ≡ false) xs i → IsPartitionPoint (λ x. is_le (place x) ≡ true) (λ x. is_le (place x) ≡ false) (drop i xs) n
      → take n (drop i xs) ≡ filter (λ x. is_eq (place x)) xs
  run i n from len =
      take_is_filter (λ x. is_eq (place x)) (drop i xs) n
      (λ k d l r. eq_between (place (get_or (drop i xs) k d)) (rw (get_or-drop i xs k d) (from.1 (i + k) d (omega arith) (omega (arith, length-drop i xs)))) (len.0 k d (omega arith) l))
      (λ k d l r. no_eq_above _ (len.1 k d l r))
      ∙ filter_of_rest (λ x. is_eq (place x)) xs i (λ k d l r. no_eq_below _ (from.0 k d (omega arith) l))
