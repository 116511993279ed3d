-- What a list in key order has at a place, and what an edit at that place does.
use Rattle.std.proofs.Common.{◌≡◌, ℕ, false, zero, suc, ◌+◌, ◌<◌, ◌≤◌, List, [], ◌∷◌, length, get_or, set, Some, None, Result, Ok, Err, IfOk, IfErr, refl, sym, ap, ◌∙◌, arith}
use Rattle.std.specs.declared.cmp.Ordering.{Ordering}
use Rattle.std.specs.declared.cmp.Ordering.TheVariants.{Less, Equal, Greater}
use Rattle.std.specs.Cmp.{IsTotalOrder}
use Rattle.std.specs.Ordering.{is_lt, ordering_index, ordering_reverse}
use Rattle.std.specs.List.{AllByRecursion, insert, remove}
use Rattle.std.specs.List.Sorted.{IsSearchInRange, IsBinarySearchResult, IsNonDecreasingBy, IsSortedBy}
use Rattle.std.proofs.lemmas.List.Sorted.{searchable_from_sorted}
use Rattle.keyed.specs.Keyed.{Ascends, find, put, without}

module _ {K X : Type 0} (cmp : K → K → Ordering) (key : X → K) where
  -- the elements before place i have keys below q
  abbrev pub BelowBefore : List X → K → ℕ → Type 0
  BelowBefore xs q i = (j : ℕ) (d : X) → j < i → j < length xs → cmp (key (get_or xs j d)) q ≡ Less

  -- place i has the key q
  pub record IsAt (xs : List X) (q : K) (i : ℕ) : Type 0 where
    pub in_range : i < length xs
    pub equal : (d : X) → cmp (key (get_or xs i d)) q ≡ Equal
    pub below : BelowBefore xs q i

  -- the key q would go at place i
  pub record IsGap (xs : List X) (q : K) (i : ℕ) : Type 0 where
    pub in_range : i ≤ length xs
    pub below : BelowBefore xs q i
    pub above : (j : ℕ) (d : X) → i ≤ j → j < length xs → cmp (key (get_or xs j d)) q ≡ Greater

  -- the place in the list without its first element
  at_tail : (x : X) (xs : List X) (q : K) (i : ℕ) → IsAt (x ∷ xs) q (suc i) → IsAt xs q i
  at_tail x xs q i at = record {
    in_range = omega (arith, at.in_range);
    equal = at.equal;
    below = λ j d l r. at.below (suc j) d (omega arith) (omega arith);
  }

  -- the gap in the list without its first element
  gap_tail : (x : X) (xs : List X) (q : K) (i : ℕ) → IsGap (x ∷ xs) q (suc i) → IsGap xs q i
  gap_tail x xs q i gap = record {
    in_range = omega (arith, gap.in_range);
    below = λ j d l r. gap.below (suc j) d (omega arith) (omega arith);
    above = λ j d l r. gap.above (suc j) d (omega arith) (omega arith);
  }

  -- the element at the place of a key is the one that is found
  pub find_at : (xs : List X) (q : K) (i : ℕ) (d : X) → IsAt xs q i → find cmp key xs q ≡ Some (get_or xs i d)
  find_at [] q i d at = absurd (omega (arith, at.in_range))
  find_at (x ∷ xs) q zero d at = rw (at.equal d) refl
  find_at (x ∷ xs) q (suc i) d at = rw (at.below 0 d (omega arith) (omega arith)) (find_at xs q i d (at_tail x xs q i at))

  -- where a key has a gap nothing is found
  pub find_gap : (xs : List X) (q : K) (i : ℕ) → IsGap xs q i → find cmp key xs q ≡ None
  find_gap [] q i gap = refl
  find_gap (x ∷ xs) q zero gap = rw (gap.above 0 x (omega arith) (omega arith)) (find_gap xs q zero (record {
    in_range = omega arith;
    below = λ j d l r. absurd (omega arith);
    above = λ j d l r. gap.above (suc j) d (omega arith) (omega arith);
  }))
  find_gap (x ∷ xs) q (suc i) gap = rw (gap.below 0 x (omega arith) (omega arith)) (find_gap xs q i (gap_tail x xs q i gap))

  -- a put where the key is there writes over its element
  pub put_at : (xs : List X) (y : X) (i : ℕ) → IsAt xs (key y) i → put cmp key xs y ≡ set xs i y
  put_at [] y i at = absurd (omega (arith, at.in_range))
  put_at (x ∷ xs) y zero at = rw (at.equal x) refl
  put_at (x ∷ xs) y (suc i) at = rw (at.below 0 x (omega arith) (omega arith)) (ap (λ zs. x ∷ zs) (put_at xs y i (at_tail x xs (key y) i at)))

  -- a put where the key has a gap inserts there
  pub put_gap : (xs : List X) (y : X) (i : ℕ) → IsGap xs (key y) i → put cmp key xs y ≡ insert xs i y
  put_gap [] y zero gap = refl
  put_gap [] y (suc i) gap = absurd (omega (arith, gap.in_range))
  put_gap (x ∷ xs) y zero gap = rw (gap.above 0 x (omega arith) (omega arith)) refl
  put_gap (x ∷ xs) y (suc i) gap = rw (gap.below 0 x (omega arith) (omega arith)) (ap (λ zs. x ∷ zs) (put_gap xs y i (gap_tail x xs (key y) i gap)))

  -- a removal where the key is there takes its element out
  pub without_at : (xs : List X) (q : K) (i : ℕ) → IsAt xs q i → without cmp key xs q ≡ remove xs i
  without_at [] q i at = absurd (omega (arith, at.in_range))
  without_at (x ∷ xs) q zero at = rw (at.equal x) refl
  without_at (x ∷ xs) q (suc i) at = rw (at.below 0 x (omega arith) (omega arith)) (ap (λ zs. x ∷ zs) (without_at xs q i (at_tail x xs q i at)))

  -- a removal where the key has a gap changes nothing
  pub without_gap : (xs : List X) (q : K) (i : ℕ) → IsGap xs q i → without cmp key xs q ≡ xs
  without_gap [] q i gap = refl
  without_gap (x ∷ xs) q zero gap = rw (gap.above 0 x (omega arith) (omega arith)) (ap (λ zs. x ∷ zs) (without_gap xs q zero (record {
    in_range = omega arith;
    below = λ j d l r. absurd (omega arith);
    above = λ j d l r. gap.above (suc j) d (omega arith) (omega arith);
  })))
  without_gap (x ∷ xs) q (suc i) gap = rw (gap.below 0 x (omega arith) (omega arith)) (ap (λ zs. x ∷ zs) (without_gap xs q i (gap_tail x xs q i gap)))

  -- what holds of each element holds of the one at a place
  all_at : (P : X → Type 0) (xs : List X) (i : ℕ) (d : X) → AllByRecursion P xs → i < length xs → P (get_or xs i d)
  all_at P [] i d all l = absurd (omega arith)
  all_at P (x ∷ xs) zero d all l = all.0
  all_at P (x ∷ xs) (suc i) d all l = all_at P xs i d all.1 (omega arith)

  -- of two places, the earlier has the lesser key
  pub less_by_place : (xs : List X) (i j : ℕ) (d : X) → Ascends cmp key xs → i < j → j < length xs → cmp (key (get_or xs i d)) (key (get_or xs j d)) ≡ Less
  less_by_place [] i j d up l r = absurd (omega arith)
  less_by_place (x ∷ xs) i zero d up l r = absurd (omega arith)
  less_by_place (x ∷ xs) zero (suc j) d up l r = all_at (λ y. cmp (key x) (key y) ≡ Less) xs j d up.0 (omega arith)
  less_by_place (x ∷ xs) (suc i) (suc j) d up l r = less_by_place xs i j d up.1 (omega arith) (omega arith)

  module _ (order : IsTotalOrder cmp) where
    -- what is below is not above
    back_less : (a b : K) → cmp a b ≡ Less → is_lt (cmp b a) ≡ false
    back_less a b h = rw (order.antisymm b a, h) refl

    -- a list in key order is sorted
    sorted : (xs : List X) → Ascends cmp key xs → IsSortedBy (λ a b. is_lt (cmp (key a) (key b))) xs
    sorted xs up k d low high = back_less _ _ (less_by_place xs k (k + 1) d up (omega arith) high)

    -- its comparisons with a key rise along the list
    comparisons_rise : (xs : List X) (q : K) → Ascends cmp key xs → IsNonDecreasingBy (λ y. ordering_index (cmp (key y) q)) xs
    comparisons_rise xs q up = searchable_from_sorted order key xs q (sorted xs up)

    -- a key is below what equals a key that it is below
    same_order : (a b c : K) → cmp b c ≡ Equal → cmp a b ≡ Less → cmp a c ≡ Less
    same_order a b c e l =
        let e2 : cmp b c ≡ Equal = e in
        let k = order.congr b c a e in
        order.antisymm a c ∙ (ap ordering_reverse (sym k) ∙ (sym (order.antisymm a b) ∙ l))

    -- where the key is there, a binary search ends at its place
    pub searched_at : (xs : List X) (q : K) (i : ℕ) → Ascends cmp key xs → IsSearchInRange (Ok i) (length xs) → IsBinarySearchResult (λ y. cmp (key y) q) xs (Ok i) → IsAt xs q i
    searched_at xs q i up in_range equal = record {
      in_range = in_range;
      equal = λ d. equal d;
      below = λ j d l r. same_order _ _ _ (equal d) (less_by_place xs j i d up l in_range);
    }

    -- where the key is absent, a binary search ends at its gap
    pub searched_gap : (xs : List X) (q : K) (i : ℕ) → Ascends cmp key xs → IsSearchInRange (Err i) (length xs) → IsBinarySearchResult (λ y. cmp (key y) q) xs (Err i) → IsGap xs q i
    searched_gap xs q i up in_range parted = record {
      in_range = in_range;
      below = λ j d l r. (parted (comparisons_rise xs q up)).0 j d (omega arith) l;
      above = λ j d l r. (parted (comparisons_rise xs q up)).1 j d l r;
    }

    -- both at once, for the answer of the search
    pub searched : (xs : List X) (q : K) (r : Result ℕ ℕ) → Ascends cmp key xs → IsSearchInRange r (length xs) → IsBinarySearchResult (λ y. cmp (key y) q) xs r → record { found : IfOk r (IsAt xs q); absent : IfErr r (IsGap xs q) }
    searched xs q (Ok i) up in_range is = record { found = searched_at xs q i up in_range is; absent = tt }
    searched xs q (Err i) up in_range is = record { found = tt; absent = searched_gap xs q i up in_range is }
