-- What stands at the places that a search found.
use Rattle.std.proofs.Common.{◌≡◌, ℕ, false, true, zero, suc, ◌+◌, ◌<◌, ◌≤◌, List, [], ◌∷◌, length, map, take, drop, get_or, Option, Some, None, if◌then◌else◌, refl, sym, ap, ◌∙◌, arith, add-one}
use Rattle.std.specs.declared.cmp.Ordering.{Ordering}
use Rattle.std.specs.declared.cmp.Ordering.TheVariants.{Less, Equal, Greater}
use Rattle.std.specs.Cmp.{IsTotalOrder}
use Rattle.std.specs.Option.{option_map, option_or}
use Rattle.std.specs.Ordering.{is_lt, is_eq, is_gt, ordering_reverse}
use Rattle.std.specs.List.{AllByRecursion}
use Rattle.keyed.specs.Keyed.{Ascends, find}
use Rattle.keyed.proofs.Places.{IsAt, IsGap, find_at, find_gap}
use Rattle.paged.specs.Walk.{from, parts_from}
use Rattle.paged.specs.Pairs.{key_of, value_of, pair_by, part_at, first_above, front, back, first_of}

greater_not_less : (o : Ordering) → o ≡ Greater → is_lt o ≡ false
greater_not_less o e = rw e refl

equal_not_less : (o : Ordering) → o ≡ Equal → is_lt o ≡ false
equal_not_less o e = rw e refl

first_in : {Y : Type 0} (xs : List Y) (n : ℕ) (d : Y) → n < length xs → first_of (drop n xs) ≡ Some (get_or xs n d)
first_in [] n d h = absurd (omega arith)
first_in (x ∷ xs) zero d h = refl
first_in (x ∷ xs) (suc n) d h = first_in xs n d (omega arith)

first_out : {Y : Type 0} (xs : List Y) (n : ℕ) → length xs ≤ n → first_of (drop n xs) ≡ None
first_out [] zero h = refl
first_out [] (suc n) h = refl
first_out (x ∷ xs) zero h = absurd (omega arith)
first_out (x ∷ xs) (suc n) h = first_out xs n (omega arith)

module _ {K : Type 0} (cmp : K → K → Ordering) where
  -- what is above a key is above an equal one
  above_equal : IsTotalOrder cmp → (a b c : K) → cmp a b ≡ Equal → cmp a c ≡ Less → cmp c b ≡ Greater
  above_equal order a b c e l = order.antisymm c b ∙ ap ordering_reverse (sym (order.congr a b c e) ∙ l)

  module _ {X : Type 0} where
    AtTail : (x : K × X) (xs : List (K × X)) (q : K) (i : ℕ) → IsAt cmp key_of (x ∷ xs) q (suc i) → IsAt cmp key_of xs q i
    AtTail x xs q i at = record {
      in_range = omega (arith, at.in_range);
      equal = at.equal;
      below = λ j d l r. at.below (suc j) d (omega arith) (omega arith);
    }

    GapTail : (x : K × X) (xs : List (K × X)) (q : K) (i : ℕ) → IsGap cmp key_of (x ∷ xs) q (suc i) → IsGap cmp key_of xs q i
    GapTail x xs q i gap = record {
      in_range = omega (arith, gap.in_range);
      below = λ j d l r. gap.below (suc j) d (omega arith) (omega arith);
      above = λ j d l r. gap.above (suc j) d (omega arith) (omega arith);
    }

    GapAbove : (x : K × X) (xs : List (K × X)) (q : K) → IsGap cmp key_of (x ∷ xs) q zero → IsGap cmp key_of xs q zero
    GapAbove x xs q gap = record {
      in_range = omega arith;
      below = λ j d l r. absurd (omega arith);
      above = λ j d l r. gap.above (suc j) d (omega arith) (omega arith);
    }

    -- where all keys are above q, no part begins at or below it
    pub part_none : (xs : List (K × X)) (q : K) → IsGap cmp key_of xs q zero → part_at cmp xs q ≡ None
    part_none [] q gap = refl
    part_none (x ∷ xs) q gap = rw (gap.above 0 x (omega arith) (omega arith)) refl

    pub part_gap : (xs : List (K × X)) (q : K) (i : ℕ) (d : K × X) → IsGap cmp key_of xs q (suc i) → part_at cmp xs q ≡ Some (get_or xs i d).1
    part_gap [] q i d gap = absurd (omega (arith, gap.in_range))
    part_gap (x ∷ xs) q zero d gap = rw (gap.below 0 d (omega arith) (omega arith), part_none xs q (GapTail x xs q zero gap)) refl
    part_gap (x ∷ xs) q (suc i) d gap = rw (gap.below 0 d (omega arith) (omega arith), part_gap xs q i d (GapTail x xs q (suc i) gap)) refl

    pub front_at : (xs : List (K × X)) (q : K) (i : ℕ) → IsAt cmp key_of xs q i → front cmp xs q ≡ take i xs
    front_at [] q i at = absurd (omega (arith, at.in_range))
    front_at (x ∷ xs) q zero at = rw (at.equal x) refl
    front_at (x ∷ xs) q (suc i) at = rw (at.below 0 x (omega arith) (omega arith)) (ap (λ (zs : List (K × X)). x ∷ zs) (front_at xs q i (AtTail x xs q i at)))

    pub front_gap : (xs : List (K × X)) (q : K) (i : ℕ) → IsGap cmp key_of xs q i → front cmp xs q ≡ take i xs
    front_gap [] q zero gap = refl
    front_gap [] q (suc i) gap = refl
    front_gap (x ∷ xs) q zero gap = rw (gap.above 0 x (omega arith) (omega arith)) refl
    front_gap (x ∷ xs) q (suc i) gap = rw (gap.below 0 x (omega arith) (omega arith)) (ap (λ (zs : List (K × X)). x ∷ zs) (front_gap xs q i (GapTail x xs q i gap)))

    pub back_at : (xs : List (K × X)) (q : K) (i : ℕ) → IsAt cmp key_of xs q i → back cmp xs q ≡ drop (suc i) xs
    back_at [] q i at = absurd (omega (arith, at.in_range))
    back_at (x ∷ xs) q zero at = rw (at.equal x) refl
    back_at (x ∷ xs) q (suc i) at = rw (at.below 0 x (omega arith) (omega arith)) (back_at xs q i (AtTail x xs q i at))

    pub back_gap : (xs : List (K × X)) (q : K) (i : ℕ) → IsGap cmp key_of xs q i → back cmp xs q ≡ drop i xs
    back_gap [] q zero gap = refl
    back_gap [] q (suc i) gap = refl
    back_gap (x ∷ xs) q zero gap = rw (gap.above 0 x (omega arith) (omega arith)) refl
    back_gap (x ∷ xs) q (suc i) gap = rw (gap.below 0 x (omega arith) (omega arith)) (back_gap xs q i (GapTail x xs q i gap))

    pub above_gap : (xs : List (K × X)) (q : K) (i : ℕ) → IsGap cmp key_of xs q i → first_above cmp xs q ≡ first_of (drop i xs)
    above_gap [] q zero gap = refl
    above_gap [] q (suc i) gap = refl
    above_gap (x ∷ xs) q zero gap = rw (gap.above 0 x (omega arith) (omega arith)) refl
    above_gap (x ∷ xs) q (suc i) gap = rw (gap.below 0 x (omega arith) (omega arith)) (above_gap xs q i (GapTail x xs q i gap))

    pub take_gap : (xs : List (K × X)) (q : K) (i : ℕ) → IsGap cmp key_of xs q i → AllByRecursion (λ c. cmp c.0 q ≡ Less) (take i xs)
    take_gap [] q zero gap = tt
    take_gap [] q (suc i) gap = tt
    take_gap (x ∷ xs) q zero gap = tt
    take_gap (x ∷ xs) q (suc i) gap = (gap.below 0 x (omega arith) (omega arith), take_gap xs q i (GapTail x xs q i gap))

    pub take_at : (xs : List (K × X)) (q : K) (i : ℕ) → IsAt cmp key_of xs q i → AllByRecursion (λ c. cmp c.0 q ≡ Less) (take i xs)
    take_at [] q zero at = tt
    take_at [] q (suc i) at = tt
    take_at (x ∷ xs) q zero at = tt
    take_at (x ∷ xs) q (suc i) at = (at.below 0 x (omega arith) (omega arith), take_at xs q i (AtTail x xs q i at))

    drop_none : (xs : List (K × X)) (q : K) → IsGap cmp key_of xs q zero → AllByRecursion (λ c. is_lt (cmp c.0 q) ≡ false) xs
    drop_none [] q gap = tt
    drop_none (x ∷ xs) q gap = (greater_not_less (cmp x.0 q) (gap.above 0 x (omega arith) (omega arith)), drop_none xs q (GapAbove x xs q gap))

    pub drop_gap : (xs : List (K × X)) (q : K) (i : ℕ) → IsGap cmp key_of xs q i → AllByRecursion (λ c. is_lt (cmp c.0 q) ≡ false) (drop i xs)
    drop_gap [] q zero gap = tt
    drop_gap [] q (suc i) gap = tt
    drop_gap (x ∷ xs) q zero gap = drop_none (x ∷ xs) q gap
    drop_gap (x ∷ xs) q (suc i) gap = drop_gap xs q i (GapTail x xs q i gap)

    pub from_at : (xs : List (K × X)) (q : K) (i : ℕ) → IsAt cmp key_of xs q i → from cmp xs q ≡ drop i xs
    from_at [] q i at = absurd (omega (arith, at.in_range))
    from_at (x ∷ xs) q zero at = rw (at.equal x) refl
    from_at (x ∷ xs) q (suc i) at = rw (at.below 0 x (omega arith) (omega arith)) (from_at xs q i (AtTail x xs q i at))

    pub from_gap : (xs : List (K × X)) (q : K) (i : ℕ) → IsGap cmp key_of xs q i → from cmp xs q ≡ drop i xs
    from_gap [] q zero gap = refl
    from_gap [] q (suc i) gap = refl
    from_gap (x ∷ xs) q zero gap = rw (gap.above 0 x (omega arith) (omega arith)) refl
    from_gap (x ∷ xs) q (suc i) gap = rw (gap.below 0 x (omega arith) (omega arith)) (from_gap xs q i (GapTail x xs q i gap))

    not_above : (x : K × X) (xs : List (K × X)) (q : K) (i : ℕ) → IsAt cmp key_of (x ∷ xs) q i → is_gt (cmp x.0 q) ≡ false
    not_above x xs q zero at = rw (at.equal x) refl
    not_above x xs q (suc i) at = rw (at.below 0 x (omega arith) (omega arith)) refl

    whole_gap : (xs : List (K × X)) (q : K) → IsGap cmp key_of xs q zero → parts_from cmp xs q ≡ xs
    whole_gap [] q gap = refl
    whole_gap (x ∷ []) q gap = refl
    whole_gap (x ∷ y ∷ xs) q gap = let above : cmp y.0 q ≡ Greater = gap.above 1 x (omega arith) (omega arith) in rw above refl

    behind_gap : (xs : List (K × X)) (q : K) (i : ℕ) → IsGap cmp key_of xs q (suc i) → parts_from cmp xs q ≡ drop i xs
    behind_gap [] q i gap = absurd (omega (arith, gap.in_range))
    behind_gap (x ∷ []) q zero gap = refl
    behind_gap (x ∷ []) q (suc i) gap = absurd (omega (arith, gap.in_range))
    behind_gap (x ∷ y ∷ xs) q zero gap = let above : cmp y.0 q ≡ Greater = gap.above 1 x (omega arith) (omega arith) in rw above refl
    behind_gap (x ∷ y ∷ xs) q (suc i) gap = let below : cmp y.0 q ≡ Less = gap.below 1 x (omega arith) (omega arith) in rw below (behind_gap (y ∷ xs) q i (GapTail x (y ∷ xs) q (suc i) gap))

    -- the count of the keys up to q
    pub counted_gap : (xs : List (K × X)) (q : K) (i : ℕ) → IsGap cmp key_of xs q i → record {
      bound : i ≤ length xs;
      above : first_above cmp xs q ≡ first_of (drop i xs);
      none : i ≡ 0 → part_at cmp xs q ≡ None;
      part : (n : ℕ) (d : K × X) → i ≡ n + 1 → part_at cmp xs q ≡ Some (get_or xs n d).1;
      up_to : (n : ℕ) (d : K × X) → i ≡ n + 1 → is_gt (cmp (get_or xs n d).0 q) ≡ false;
      whole : i ≡ 0 → parts_from cmp xs q ≡ xs;
      from : (n : ℕ) → i ≡ n + 1 → parts_from cmp xs q ≡ drop n xs;
    }
    counted_gap xs q i gap = record {
      bound = gap.in_range;
      above = above_gap xs q i gap;
      none = λ e. part_none xs q (rw e at gap);
      part = λ n d e. part_gap xs q n d (rw (e, add-one) at gap);
      up_to = λ n d e. let under : cmp (get_or xs n d).0 q ≡ Less = gap.below n d (omega arith) (omega (arith, gap.in_range)) in rw under refl;
      whole = λ e. whole_gap xs q (rw e at gap);
      from = λ n e. behind_gap xs q n (rw (e, add-one) at gap);
    }

    module _ (order : IsTotalOrder cmp) where
      -- behind the place of the key, all keys are above it
      gap_behind : (x : K × X) (xs : List (K × X)) (q : K) → cmp x.0 q ≡ Equal → AllByRecursion (λ y. cmp x.0 y.0 ≡ Less) xs → AllByRecursion (λ y. cmp y.0 q ≡ Greater) xs
      gap_behind x [] q e above = tt
      gap_behind x (y ∷ ys) q e above = (above_equal order x.0 q y.0 e above.0, gap_behind x ys q e above.1)

      no_part : (xs : List (K × X)) (q : K) → AllByRecursion (λ y. cmp y.0 q ≡ Greater) xs → part_at cmp xs q ≡ None
      no_part [] q above = refl
      no_part (x ∷ xs) q above = rw above.0 refl

      first_is_above : (xs : List (K × X)) (q : K) → AllByRecursion (λ y. cmp y.0 q ≡ Greater) xs → first_above cmp xs q ≡ first_of xs
      first_is_above [] q above = refl
      first_is_above (x ∷ xs) q above = rw above.0 refl

      not_less : (xs : List (K × X)) (q : K) → AllByRecursion (λ y. cmp y.0 q ≡ Greater) xs → AllByRecursion (λ c. is_lt (cmp c.0 q) ≡ false) xs
      not_less [] q above = tt
      not_less (x ∷ xs) q above = (greater_not_less (cmp x.0 q) above.0, not_less xs q above.1)

      pub part_found : (xs : List (K × X)) (q : K) (i : ℕ) (d : K × X) → Ascends cmp key_of xs → IsAt cmp key_of xs q i → part_at cmp xs q ≡ Some (get_or xs i d).1
      part_found [] q i d up at = absurd (omega (arith, at.in_range))
      part_found (x ∷ xs) q zero d up at = rw (at.equal d, no_part xs q (gap_behind x xs q (at.equal d) up.0)) refl
      part_found (x ∷ xs) q (suc i) d up at = rw (at.below 0 d (omega arith) (omega arith), part_found xs q i d up.1 (AtTail x xs q i at)) refl

      pub above_at : (xs : List (K × X)) (q : K) (i : ℕ) → Ascends cmp key_of xs → IsAt cmp key_of xs q i → first_above cmp xs q ≡ first_of (drop (suc i) xs)
      above_at [] q i up at = absurd (omega (arith, at.in_range))
      above_at (x ∷ xs) q zero up at = rw (at.equal x) (first_is_above xs q (gap_behind x xs q (at.equal x) up.0))
      above_at (x ∷ xs) q (suc i) up at = rw (at.below 0 x (omega arith) (omega arith)) (above_at xs q i up.1 (AtTail x xs q i at))

      pub drop_at : (xs : List (K × X)) (q : K) (i : ℕ) → Ascends cmp key_of xs → IsAt cmp key_of xs q i → AllByRecursion (λ c. is_lt (cmp c.0 q) ≡ false) (drop i xs)
      drop_at [] q i up at = absurd (omega (arith, at.in_range))
      drop_at (x ∷ xs) q zero up at = (equal_not_less (cmp x.0 q) (at.equal x), not_less xs q (gap_behind x xs q (at.equal x) up.0))
      drop_at (x ∷ xs) q (suc i) up at = drop_at xs q i up.1 (AtTail x xs q i at)

      parts_at : (xs : List (K × X)) (q : K) (i : ℕ) → Ascends cmp key_of xs → IsAt cmp key_of xs q i → parts_from cmp xs q ≡ drop i xs
      parts_at [] q i up at = absurd (omega (arith, at.in_range))
      parts_at (x ∷ []) q zero up at = refl
      parts_at (x ∷ []) q (suc i) up at = absurd (omega (arith, at.in_range))
      parts_at (x ∷ y ∷ xs) q zero up at = rw ((gap_behind x (y ∷ xs) q (at.equal x) up.0).0) refl
      parts_at (x ∷ y ∷ xs) q (suc i) up at = rw (not_above y xs q i (AtTail x (y ∷ xs) q i at)) (parts_at (y ∷ xs) q i up.1 (AtTail x (y ∷ xs) q i at))

      pub counted_at : (xs : List (K × X)) (q : K) (i : ℕ) → Ascends cmp key_of xs → IsAt cmp key_of xs q i → record {
        bound : i + 1 ≤ length xs;
        above : first_above cmp xs q ≡ first_of (drop (i + 1) xs);
        none : i + 1 ≡ 0 → part_at cmp xs q ≡ None;
        part : (n : ℕ) (d : K × X) → i + 1 ≡ n + 1 → part_at cmp xs q ≡ Some (get_or xs n d).1;
        up_to : (n : ℕ) (d : K × X) → i + 1 ≡ n + 1 → is_gt (cmp (get_or xs n d).0 q) ≡ false;
        whole : i + 1 ≡ 0 → parts_from cmp xs q ≡ xs;
        from : (n : ℕ) → i + 1 ≡ n + 1 → parts_from cmp xs q ≡ drop n xs;
      }
      counted_at xs q i up at = record {
        bound = omega (arith, at.in_range);
        above = rw add-one (above_at xs q i up at);
        none = λ e. absurd (omega arith);
        part = λ n d e. let same : i ≡ n = omega arith in rw (← same) (part_found xs q i d up at);
        up_to = λ n d e. let same : i ≡ n = omega arith in rw (← same) (let equal : cmp (get_or xs i d).0 q ≡ Equal = at.equal d in rw equal refl);
        whole = λ e. absurd (omega arith);
        from = λ n e. let same : i ≡ n = omega arith in rw (← same) (parts_at xs q i up at);
      }

  -- looking up among entries and among what they stand for
  module _ {X C : Type 0} (read : C → X) where
    find_if : (b : _) (e : K × C) (o : Option (K × C)) (p : Option (K × X)) → p ≡ option_map (pair_by read) o → (if b then Some ((pair_by read) e) else p) ≡ option_map (pair_by read) (if b then Some e else o)
    find_if true e o p h = refl
    find_if false e o p h = h

    pub find_map : (xs : List (K × C)) (q : K) → find cmp key_of (map (pair_by read) xs) q ≡ option_map (pair_by read) (find cmp key_of xs q)
    find_map [] q = refl
    find_map (x ∷ xs) q = find_if (is_eq (cmp x.0 q)) x _ _ (find_map xs q)

    pub above_map : (xs : List (K × C)) (q : K) → first_above cmp (map (pair_by read) xs) q ≡ option_map (pair_by read) (first_above cmp xs q)
    above_map [] q = refl
    above_map (x ∷ xs) q = find_if (is_gt (cmp x.0 q)) x _ _ (above_map xs q)

    all_map : (k : K) (xs : List (K × C)) → AllByRecursion (λ y. cmp k (key_of y) ≡ Less) (map (pair_by read) xs) → AllByRecursion (λ y. cmp k (key_of y) ≡ Less) xs
    all_map k [] all = tt
    all_map k (x ∷ xs) all = (all.0, all_map k xs all.1)

    pub ascends_map : (xs : List (K × C)) → Ascends cmp key_of (map (pair_by read) xs) → Ascends cmp key_of xs
    ascends_map [] up = tt
    ascends_map (x ∷ xs) up = (all_map x.0 xs up.0, ascends_map xs up.1)

    part_if : (b : _) (e : K × C) (o : Option (C)) (p : Option X) → p ≡ option_map read o → (if b then None else option_or p (Some (read e.1))) ≡ option_map read (if b then None else option_or o (Some e.1))
    part_if true e o p h = refl
    part_if false e None p h = rw h refl
    part_if false e (Some a) p h = rw h refl

    pub part_map : (xs : List (K × C)) (q : K) → part_at cmp (map (pair_by read) xs) q ≡ option_map read (part_at cmp xs q)
    part_map [] q = refl
    part_map (x ∷ xs) q = part_if (is_gt (cmp x.0 q)) x _ _ (part_map xs q)

    -- what is got at a place, as the look-up among what entries stand for
    pub get_found : (xs : List (K × C)) (q : K) (i : ℕ) (e : K × C) (a : X) → IsAt cmp key_of xs q i → e ≡ get_or xs i e → a ≡ read e.1 → Some a ≡ option_map value_of (find cmp key_of (map (pair_by read) xs) q)
    get_found xs q i e a at is v = rw (find_map xs q, find_at cmp key_of xs q i e at, ← is, v) refl

    pub get_absent : (xs : List (K × C)) (q : K) (i : ℕ) → IsGap cmp key_of xs q i → None ≡ option_map value_of (find cmp key_of (map (pair_by read) xs) q)
    get_absent xs q i gap = rw (find_map xs q, find_gap cmp key_of xs q i gap) refl

    pub part_is : (xs : List (K × C)) (q : K) (e : K × C) (a : X) (n : ℕ) → part_at cmp xs q ≡ Some (get_or xs n e).1 → e ≡ get_or xs n e → a ≡ read e.1 → Some a ≡ part_at cmp (map (pair_by read) xs) q
    part_is xs q e a n found is v = rw (part_map xs q, found, ← is, v) refl

    pub part_isnt : (xs : List (K × C)) (q : K) → part_at cmp xs q ≡ None → None ≡ part_at cmp (map (pair_by read) xs) q
    part_isnt xs q absent = rw (part_map xs q, absent) refl

    pub above_is : (xs : List (K × C)) (q : K) (n : ℕ) (e : K × C) (a : X) → first_above cmp xs q ≡ first_of (drop n xs) → n < length xs → e ≡ get_or xs n e → a ≡ read e.1 → Some (e.0, a) ≡ first_above cmp (map (pair_by read) xs) q
    above_is xs q n e a above h got v = rw (above_map xs q, above, first_in xs n e h, ← got, v) refl

    pub above_isnt : (xs : List (K × C)) (q : K) (n : ℕ) → first_above cmp xs q ≡ first_of (drop n xs) → length xs ≤ n → None ≡ first_above cmp (map (pair_by read) xs) q
    above_isnt xs q n above h = rw (above_map xs q, above, first_out xs n h) refl

    from_if : (b : _) (e : K × C) (xs ys : List (K × C)) (zs : List (K × X)) → zs ≡ map (pair_by read) xs → (if b then zs else map (pair_by read) ys) ≡ map (pair_by read) (if b then xs else ys)
    from_if true e xs ys zs h = h
    from_if false e xs ys zs h = refl

    pub from_map : (xs : List (K × C)) (q : K) → from cmp (map (pair_by read) xs) q ≡ map (pair_by read) (from cmp xs q)
    from_map [] q = refl
    from_map (x ∷ xs) q = from_if (is_lt (cmp x.0 q)) x _ (x ∷ xs) _ (from_map xs q)

    parts_if : (b : _) (xs ys : List (K × C)) (zs : List (K × X)) → zs ≡ map (pair_by read) xs → (if b then map (pair_by read) ys else zs) ≡ map (pair_by read) (if b then ys else xs)
    parts_if true xs ys zs h = refl
    parts_if false xs ys zs h = h

    pub parts_map : (xs : List (K × C)) (q : K) → parts_from cmp (map (pair_by read) xs) q ≡ map (pair_by read) (parts_from cmp xs q)
    parts_map [] q = refl
    parts_map (x ∷ []) q = refl
    parts_map (x ∷ y ∷ xs) q = parts_if (is_gt (cmp y.0 q)) _ (x ∷ y ∷ xs) _ (parts_map (y ∷ xs) q)
