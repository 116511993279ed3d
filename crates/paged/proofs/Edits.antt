-- A change in place: of a page, and of the page and the chunk where its key belongs.
use Rattle.std.proofs.Common.{Bool, false, true, ◌≡◌, ℕ, zero, suc, ◌+◌, ◌-◌, ◌<◌, ◌≤◌, List, [], ◌∷◌, ◌++◌, length, map, set, take, drop, get_or, Option, Some, None, refl, sym, ap, ◌∙◌, subst, arith, append_assoc, add-one, length-append}
use Rattle.std.specs.declared.cmp.Ordering.{Ordering}
use Rattle.std.specs.declared.cmp.Ordering.TheVariants.{Less, Equal, Greater}
use Rattle.std.specs.Cmp.{IsTotalOrder}
use Rattle.std.specs.Ordering.{is_gt}
use Rattle.std.specs.Bool.{OnTrue, OnFalse}
use Rattle.std.specs.List.{AllByRecursion, insert, remove}
use Rattle.std.proofs.lemmas.List.{append-nil, length-set, length-map, map-set, map-append, get_or-set_same}
use Rattle.std.proofs.Math.Seq.{map-set_same}
use Rattle.std.proofs.lemmas.List.Edits.{length-insert, length-remove}
use Rattle.keyed.specs.Keyed.{Ascends}
use Rattle.keyed.proofs.Places.{IsAt, IsGap, without_gap}
use Rattle.keyed.proofs.Edits.{set_puts, insert_puts, remove_takes}
use Rattle.paged.specs.Pairs.{key_of, value_of, pair_by, first_above, first_of}
use Rattle.paged.specs.Parts.{HasHead, HasMost, HasLeast, parts}
use Rattle.paged.specs.Paged.{all_pairs, ArePages, AreChunks}
use Rattle.paged.specs.Changed.{changed, changed_at}
use Rattle.paged.specs.Edited.{IsEdited, AreEdited}
use Rattle.paged.proofs.Heads.{all_join, all_first, all_second, parts_join}
use Rattle.paged.proofs.Changes.{Below, Above, flip_back, changed_at_front, changed_at_back, all_weaken, above_head, below_head, ascends_first, ascends_second, ascends_changed_at}
use Rattle.paged.proofs.Stepping.{head_of_parts, head_in}
use Rattle.paged.proofs.Looking.{all_pages}

-- ---- a page

module _ {K V : Type 0} where
  set_head : (p : List (K × V)) (i : ℕ) (y : K × V) (h : K) → 1 ≤ i → HasHead (h, p) → HasHead (h, set p i y)
  set_head [] i y h some head = absurd head
  set_head (x ∷ p) zero y h some head = absurd (omega arith)
  set_head (x ∷ p) (suc i) y h some head = head

  insert_head : (p : List (K × V)) (i : ℕ) (y : K × V) (h : K) → 1 ≤ i → HasHead (h, p) → HasHead (h, insert p i y)
  insert_head [] i y h some head = absurd head
  insert_head (x ∷ p) zero y h some head = absurd (omega arith)
  insert_head (x ∷ p) (suc i) y h some head = head

  remove_head : (p : List (K × V)) (i : ℕ) (h : K) → 1 ≤ i → HasHead (h, p) → HasHead (h, remove p i)
  remove_head [] i h some head = absurd head
  remove_head (x ∷ p) zero h some head = absurd (omega arith)
  remove_head (x ∷ p) (suc i) h some head = head

module _ {K V D : Type 0} (see : D → V) where
  map_insert : (xs : List (K × D)) (i : ℕ) (y : K × D) → map (pair_by see) (insert xs i y) ≡ insert (map (pair_by see) xs) i (pair_by see y)
  map_insert xs zero y = refl
  map_insert [] (suc i) y = refl
  map_insert (x ∷ xs) (suc i) y = ap (λ (l : List (K × V)). pair_by see x ∷ l) (map_insert xs i y)

  map_remove : (xs : List (K × D)) (i : ℕ) → map (pair_by see) (remove xs i) ≡ remove (map (pair_by see) xs) i
  map_remove [] zero = refl
  map_remove [] (suc i) = refl
  map_remove (x ∷ xs) zero = refl
  map_remove (x ∷ xs) (suc i) = ap (λ (l : List (K × V)). pair_by see x ∷ l) (map_remove xs i)

  -- what a search found among entries stands there among what they stand for
  key_same : (xs : List (K × D)) (j : ℕ) (d : K × D) (e : K × V) → j < length xs → (get_or (map (pair_by see) xs) j e).0 ≡ (get_or xs j d).0
  key_same [] j d e l = absurd (omega arith)
  key_same (x ∷ xs) zero d e l = refl
  key_same (x ∷ xs) (suc j) d e l = key_same xs j d e (omega arith)

module _ {K V : Type 0} (cmp : K → K → Ordering) (order : IsTotalOrder cmp) where
  pub edited_set : {D : Type 0} (see : D → V) (xs : List (K × D)) (p : List (K × V)) (q : K) (d : D) (i : ℕ) → map (pair_by see) xs ≡ p → Ascends cmp key_of p → IsAt cmp key_of p q i → 1 ≤ i → IsEdited cmp p (map (pair_by see) (set xs i (q, d))) q (Some (see d))
  edited_set see xs p q d i view up at some =
      let same : map (pair_by see) (set xs i (q, d)) ≡ set p i (q, see d) = map-set (pair_by see) xs i (q, d) ∙ ap (λ (l : List (K × V)). set l i (q, see d)) view in
      rw same (record {
        pairs = (set_puts cmp key_of order p up (q, see d) i at).list;
        most = λ m. rw length-set m;
        least = λ m. rw length-set m;
        head = λ h. set_head p i (q, see d) h some;
      })

  pub edited_insert : {D : Type 0} (see : D → V) (xs : List (K × D)) (p : List (K × V)) (q : K) (d : D) (i : ℕ) → map (pair_by see) xs ≡ p → Ascends cmp key_of p → IsGap cmp key_of p q i → 1 ≤ i → length p < 64 → IsEdited cmp p (map (pair_by see) (insert xs i (q, d))) q (Some (see d))
  edited_insert see xs p q d i view up gap some room =
      let same : map (pair_by see) (insert xs i (q, d)) ≡ insert p i (q, see d) = map_insert see xs i (q, d) ∙ ap (λ (l : List (K × V)). insert l i (q, see d)) view in
      let size : length (insert p i (q, see d)) ≡ length p + 1 = length-insert p i (q, see d) gap.in_range in
      rw same (record {
        pairs = (insert_puts cmp key_of order p up (q, see d) i gap).list;
        most = λ m. omega (arith, size, room);
        least = λ m. omega (arith, size, m);
        head = λ h. insert_head p i (q, see d) h some;
      })

  pub edited_remove : {D : Type 0} (see : D → V) (xs : List (K × D)) (p : List (K × V)) (q : K) (i : ℕ) → map (pair_by see) xs ≡ p → Ascends cmp key_of p → IsAt cmp key_of p q i → 1 ≤ i → 16 < length p → IsEdited cmp p (map (pair_by see) (remove xs i)) q None
  edited_remove see xs p q i view up at some enough =
      let same : map (pair_by see) (remove xs i) ≡ remove p i = map_remove see xs i ∙ ap (λ (l : List (K × V)). remove l i) view in
      let size : length (remove p i) + 1 ≡ length p = length-remove p i at.in_range in
      rw same (record {
        pairs = (remove_takes cmp key_of order p up q i at).list;
        most = λ m. omega (arith, size, m);
        least = λ m. omega (arith, size, enough);
        head = λ h. remove_head p i h some;
      })

  pub edited_none : (p : List (K × V)) (q : K) (i : ℕ) → IsGap cmp key_of p q i → IsEdited cmp p p q None
  edited_none p q i gap = record {
    pairs = sym (without_gap cmp key_of p q i gap);
    most = λ m. m;
    least = λ m. m;
    head = λ h m. m;
  }

module _ {K V D : Type 0} (cmp : K → K → Ordering) (see : D → V) where
  pub at_seen : (xs : List (K × D)) (q : K) (i : ℕ) → IsAt cmp key_of xs q i → IsAt cmp key_of (map (pair_by see) xs) q i
  at_seen [] q i at = absurd (omega (arith, at.in_range))
  at_seen (x ∷ xs) q i at = seen xs x (λ d. at.equal d) (λ j d. at.below j d) at.in_range
    where
      seen : (ys : List (K × D)) (y : K × D) → ((d : K × D) → cmp (get_or (y ∷ ys) i d).0 q ≡ Equal) → ((j : ℕ) (d : K × D) → j < i → j < length (y ∷ ys) → cmp (get_or (y ∷ ys) j d).0 q ≡ Less) → i < length (y ∷ ys) → IsAt cmp key_of (map (pair_by see) (y ∷ ys)) q i
      seen ys y equal below inside = record {
        in_range = rw length-map inside;
        equal = λ d. rw (key_same see (y ∷ ys) i y d inside) (equal y);
        below = λ j d l r. let r2 : j < length (y ∷ ys) = rw length-map at r in rw (key_same see (y ∷ ys) j y d r2) (below j y l r2);
      }

  pub gap_seen : (xs : List (K × D)) (q : K) (i : ℕ) → IsGap cmp key_of xs q i → IsGap cmp key_of (map (pair_by see) xs) q i
  gap_seen [] q i gap = record { in_range = gap.in_range; below = λ j d l r. absurd (omega arith); above = λ j d l r. absurd (omega arith) }
  gap_seen (x ∷ xs) q i gap = record {
    in_range = rw length-map gap.in_range;
    below = λ j d l r. let r2 : j < length (x ∷ xs) = rw length-map at r in rw (key_same see (x ∷ xs) j x d r2) (gap.below j x l r2);
    above = λ j d l r. let r2 : j < length (x ∷ xs) = rw length-map at r in rw (key_same see (x ∷ xs) j x d r2) (gap.above j x l r2);
  }

-- ---- a part among others

split_at : {X : Type 0} (xs : List X) (n : ℕ) (e : X) → n < length xs → e ≡ get_or xs n e → xs ≡ take n xs ++ (e ∷ drop (suc n) xs)
split_at [] n e l is = absurd (omega arith)
split_at (x ∷ xs) zero e l is = ap (λ y. y ∷ xs) (sym is)
split_at (x ∷ xs) (suc n) e l is = ap (λ (t : List _). x ∷ t) (split_at xs n e (omega arith) is)

set_at : {X : Type 0} (xs : List X) (n : ℕ) (y : X) → n < length xs → set xs n y ≡ take n xs ++ (y ∷ drop (suc n) xs)
set_at [] n y l = absurd (omega arith)
set_at (x ∷ xs) zero y l = refl
set_at (x ∷ xs) (suc n) y l = ap (λ (t : List _). x ∷ t) (set_at xs n y (omega arith))

module _ {K : Type 0} (cmp : K → K → Ordering) (order : IsTotalOrder cmp) where
  below_through : (d k q : K) → cmp d k ≡ Less → is_gt (cmp k q) ≡ false → cmp d q ≡ Less
  below_through d k q l n = by (cmp k q) refl n
    where
      by : (o : Ordering) → cmp k q ≡ o → is_gt o ≡ false → cmp d q ≡ Less
      by Less e f = order.trans d k q l e
      by Equal e f = flip_back cmp order q d (order.congr q k d (order.antisymm q k ∙ rw e refl) ∙ (order.antisymm k d ∙ rw l refl))
      by Greater e f = absurd (cc)

  above_first : {P : Type 0} (xs : List (K × P)) (q : K) (y : K × P) → first_above cmp xs q ≡ Some y → cmp q y.0 ≡ Less
  above_first [] q y found = absurd (cc)
  above_first (x ∷ xs) q y found = by (above_first xs q y) (cmp x.0 q) refl
    where
      same : Some x ≡ Some y → x ≡ y
      same e = cc

      by : (first_above cmp xs q ≡ Some y → cmp q y.0 ≡ Less) → (o : Ordering) → cmp x.0 q ≡ o → cmp q y.0 ≡ Less
      by more Less e = more (rw e at found)
      by more Equal e = more (rw e at found)
      by more Greater e = let first : x ≡ y = same (rw e at found) in rw (← first) (flip_back cmp order x.0 q e)

module _ {K V : Type 0} (cmp : K → K → Ordering) (order : IsTotalOrder cmp) where
  -- pairs between those below the key and those above it
  edit_middle : (a p b : List (K × V)) (h q : K) (o : Option V) → HasHead (h, p) → is_gt (cmp h q) ≡ false → Above cmp order q b → Ascends cmp key_of (a ++ (p ++ b)) → a ++ (changed_at cmp p q o ++ b) ≡ changed_at cmp (a ++ (p ++ b)) q o
  edit_middle a p b h q o head up_to over up =
      let under : Below cmp order q a = all_weaken cmp order (λ z. cmp z h ≡ Less) (λ z. cmp z q ≡ Less) a (λ z l. below_through cmp order z h q l up_to) (below_head cmp order h a (p ++ b) (head_of_parts h p b head) up) in
      sym (changed_at_front cmp order q o a (p ++ b) under ∙ ap (λ (l : List (K × V)). a ++ l) (changed_at_back cmp order q o p b over))

  no_head : (h : K) (c : List (K × List (K × V))) → HasHead (h, parts c) → c ≡ [] → ⊥
  no_head h [] head e = head
  no_head h (x ∷ c) head e = cc

  head_more : (h : K) (c d : List (K × List (K × V))) → HasHead (h, c) → HasHead (h, c ++ d)
  head_more h [] d head = absurd head
  head_more h (x ∷ c) d head = head

  head_less : (h : K) (c d : List (K × List (K × V))) → (c ≡ [] → ⊥) → HasHead (h, c ++ d) → HasHead (h, c)
  head_less h [] d some head = absurd (some refl)
  head_less h (x ∷ c) d some head = head

  parts_three : (a c b : List (K × List (K × V))) → parts (a ++ (c ++ b)) ≡ parts a ++ (parts c ++ parts b)
  parts_three a c b = parts_join a (c ++ b) ∙ ap (λ (l : List (K × V)). parts a ++ l) (parts_join c b)

  same_length : (a c d b : List (K × List (K × V))) → length d ≡ length c → length (a ++ (d ++ b)) ≡ length (a ++ (c ++ b))
  same_length [] c d b e = length-append d b ∙ (ap (λ n. n + length b) e ∙ sym (length-append c b))
  same_length (x ∷ a) c d b e = ap suc (same_length a c d b e)

  -- pages between others are edited
  edited_inside : (a c d b : List (K × List (K × V))) (h q : K) (o : Option V) → HasHead (h, parts c) → is_gt (cmp h q) ≡ false → Above cmp order q (parts b) → Ascends cmp key_of (parts (a ++ (c ++ b))) → AreEdited cmp c d q o → AreEdited cmp (a ++ (c ++ b)) (a ++ (d ++ b)) q o
  edited_inside a c d b h q o head up_to over up edit = record {
    pairs =
        parts_three a d b
        ∙ (rw edit.pairs (edit_middle (parts a) (parts c) (parts b) h q o head up_to over (subst (Ascends cmp key_of) (parts_three a c b) up))
        ∙ ap (λ (l : List (K × V)). changed_at cmp l q o) (sym (parts_three a c b)));
    count = same_length a c d b edit.count;
    most = λ m. all_join HasMost a (d ++ b) (all_first HasMost a (c ++ b) m) (let rest = all_second HasMost a (c ++ b) m in all_join HasMost d b (edit.most (all_first HasMost c b rest)) (all_second HasMost c b rest));
    least = λ m. all_join HasLeast a (d ++ b) (all_first HasLeast a (c ++ b) m) (let rest = all_second HasLeast a (c ++ b) m in all_join HasLeast d b (edit.least (all_first HasLeast c b rest)) (all_second HasLeast c b rest));
    heads = λ m. all_join HasHead a (d ++ b) (all_first HasHead a (c ++ b) m) (let rest = all_second HasHead a (c ++ b) m in all_join HasHead d b (edit.heads (all_first HasHead c b rest)) (all_second HasHead c b rest));
    head = λ k m. front a k m;
  }
    where
      front : (f : List (K × List (K × V))) (k : K) → HasHead (k, f ++ (c ++ b)) → HasHead (k, f ++ (d ++ b))
      front [] k m = head_more k d b (edit.head k (head_less k c b (no_head h c head) m))
      front (x ∷ f) k m = m

  -- one page is edited
  edited_one : (h q : K) (p r : List (K × V)) (o : Option V) → IsEdited cmp p r q o → AreEdited cmp ((h, p) ∷ []) ((h, r) ∷ []) q o
  edited_one h q p r o edit = record {
    pairs = append-nil r ∙ (edit.pairs ∙ ap (λ (l : List (K × V)). changed_at cmp l q o) (sym (append-nil p)));
    count = refl;
    most = λ m. (edit.most m.0, tt);
    least = λ m. (edit.least m.0, tt);
    heads = λ m. (edit.head h m.0, tt);
    head = λ k m. m;
  }

  pages_above : (bs : List (K × List (K × V))) (q : K) → ((y : K × List (K × V)) → first_of bs ≡ Some y → cmp q y.0 ≡ Less) → AllByRecursion HasHead bs → Ascends cmp key_of (parts bs) → Above cmp order q (parts bs)
  pages_above [] q first heads up = tt
  pages_above (y ∷ bs) q first heads up = above_head cmp order q y.0 (parts (y ∷ bs)) (head_of_parts y.0 y.1 (parts bs) heads.0) up (first y refl)

  chunks_above : (bs : List (K × List (K × List (K × V)))) (q : K) → ((y : K × List (K × List (K × V))) → first_of bs ≡ Some y → cmp q y.0 ≡ Less) → AllByRecursion HasHead bs → AllByRecursion HasHead (parts bs) → Ascends cmp key_of (parts (parts bs)) → Above cmp order q (parts (parts bs))
  chunks_above [] q first heads ones up = tt
  chunks_above (y ∷ bs) q first heads ones up =
      above_head cmp order q y.0 (parts (parts (y ∷ bs))) (head_in y.0 (parts (y ∷ bs)) (head_more y.0 y.1 (parts bs) heads.0) ones) up (first y refl)

module _ {K V D : Type 0} (cmp : K → K → Ordering) (order : IsTotalOrder cmp) (see : D → V) where
  seen_above : (xs : List (K × D)) (q : K) → (n : ℕ) → first_above cmp xs q ≡ first_of (drop (suc n) xs) → (y : K × V) → first_of (map (pair_by see) (drop (suc n) xs)) ≡ Some y → cmp q y.0 ≡ Less
  seen_above xs q n found y first = by (drop (suc n) xs) found first
    where
      by : (l : List (K × D)) → first_above cmp xs q ≡ first_of l → first_of (map (pair_by see) l) ≡ Some y → cmp q y.0 ≡ Less
      by [] f e = absurd (cc)
      by (z ∷ l) f e = let same : z.0 ≡ y.0 = cc in rw (← same) (above_first cmp order xs q z f)

module _ {K V D : Type 0} (cmp : K → K → Ordering) (order : IsTotalOrder cmp) (see : D → List (K × V)) where
  -- the pages, parted at the one at place n
  pages_parted : (xs : List (K × D)) (s : List (K × List (K × V))) (n : ℕ) (e : K × D) → map (pair_by see) xs ≡ s → n < length xs → e ≡ get_or xs n e → s ≡ map (pair_by see) (take n xs) ++ ((e.0, see e.1) ∷ map (pair_by see) (drop (suc n) xs))
  pages_parted xs s n e view l is = sym view ∙ (ap (λ (ys : List (K × D)). map (pair_by see) ys) (split_at xs n e l is) ∙ map-append (pair_by see) (take n xs) (e ∷ drop (suc n) xs))

  pages_set : (xs : List (K × D)) (n : ℕ) (y : K × D) → n < length xs → map (pair_by see) (set xs n y) ≡ map (pair_by see) (take n xs) ++ (pair_by see y ∷ map (pair_by see) (drop (suc n) xs))
  pages_set xs n y l = ap (λ (ys : List (K × D)). map (pair_by see) ys) (set_at xs n y l) ∙ map-append (pair_by see) (take n xs) (y ∷ drop (suc n) xs)

  pub page_order_at : (xs : List (K × D)) (s : List (K × List (K × V))) (n : ℕ) (e : K × D) → map (pair_by see) xs ≡ s → ArePages cmp s → n < length xs → e ≡ get_or xs n e → Ascends cmp key_of (see e.1)
  page_order_at xs s n e view are l is =
      let up = subst (λ t. Ascends cmp key_of (parts t)) (pages_parted xs s n e view l is) are.order in
      ascends_first cmp order (see e.1) (parts (map (pair_by see) (drop (suc n) xs))) (ascends_second cmp order (parts (map (pair_by see) (take n xs))) (see e.1 ++ parts (map (pair_by see) (drop (suc n) xs))) (subst (Ascends cmp key_of) (parts_join (map (pair_by see) (take n xs)) ((e.0, see e.1) ∷ map (pair_by see) (drop (suc n) xs))) up))

  pub page_edited : (xs : List (K × D)) (s : List (K × List (K × V))) (n : ℕ) (e : K × D) (d : D) (q : K) (o : Option V) → map (pair_by see) xs ≡ s → ArePages cmp s → n < length xs → e ≡ get_or xs n e → is_gt (cmp (get_or xs n e).0 q) ≡ false → first_above cmp xs q ≡ first_of (drop (n + 1) xs) → IsEdited cmp (see e.1) (see d) q o → AreEdited cmp s (map (pair_by see) (set xs n (e.0, d))) q o
  page_edited xs s n e d q o view are l is up_to_at found_at edit =
      let up_to : is_gt (cmp e.0 q) ≡ false = rw is up_to_at in
      let found : first_above cmp xs q ≡ first_of (drop (suc n) xs) = rw add-one at found_at in
      let fs = map (pair_by see) (take n xs) in
      let bs = map (pair_by see) (drop (suc n) xs) in
      let parted : s ≡ fs ++ (((e.0, see e.1) ∷ []) ++ bs) = pages_parted xs s n e view l is in
      let at : ArePages cmp (fs ++ (((e.0, see e.1) ∷ []) ++ bs)) = subst (ArePages cmp) parted are in
      let heads = all_second HasHead fs ((e.0, see e.1) ∷ bs) at.heads in
      let up = ascends_second cmp order (parts fs) (see e.1 ++ parts bs) (subst (Ascends cmp key_of) (parts_join fs ((e.0, see e.1) ∷ bs)) at.order) in
      let over : Above cmp order q (parts bs) = pages_above cmp order bs q (seen_above cmp order see xs q n found) heads.1 (ascends_second cmp order (see e.1) (parts bs) up) in
      rw (parted, pages_set xs n (e.0, d) l) (edited_inside cmp order fs ((e.0, see e.1) ∷ []) ((e.0, see d) ∷ []) bs e.0 q o (head_of_parts e.0 (see e.1) [] heads.0) up_to over at.order (edited_one cmp order e.0 q (see e.1) (see d) o edit))

module _ {K V D : Type 0} (cmp : K → K → Ordering) (order : IsTotalOrder cmp) (see : D → List (K × List (K × V))) where
  are_inside : (a c b : List (K × List (K × V))) → ArePages cmp (a ++ (c ++ b)) → ArePages cmp c
  are_inside a c b are = record {
    heads = all_first HasHead c b (all_second HasHead a (c ++ b) are.heads);
    sized = record {
      most = all_first HasMost c b (all_second HasMost a (c ++ b) are.sized.most);
      least = λ two. all_first HasLeast c b (all_second HasLeast a (c ++ b) (are.sized.least (rw (length-append a (c ++ b), length-append c b) (omega (arith, two)))));
    };
    order = ascends_first cmp order (parts c) (parts b) (ascends_second cmp order (parts a) (parts c ++ parts b) (subst (Ascends cmp key_of) (parts_three cmp order a c b) are.order));
  }

  chunks_parted : (xs : List (K × D)) (s : List (K × List (K × List (K × V)))) (n : ℕ) (e : K × D) → map (pair_by see) xs ≡ s → n < length xs → e ≡ get_or xs n e → s ≡ map (pair_by see) (take n xs) ++ ((e.0, see e.1) ∷ map (pair_by see) (drop (suc n) xs))
  chunks_parted xs s n e view l is = sym view ∙ (ap (λ (ys : List (K × D)). map (pair_by see) ys) (split_at xs n e l is) ∙ map-append (pair_by see) (take n xs) (e ∷ drop (suc n) xs))

  chunks_set : (xs : List (K × D)) (n : ℕ) (y : K × D) → n < length xs → map (pair_by see) (set xs n y) ≡ map (pair_by see) (take n xs) ++ (pair_by see y ∷ map (pair_by see) (drop (suc n) xs))
  chunks_set xs n y l = ap (λ (ys : List (K × D)). map (pair_by see) ys) (set_at xs n y l) ∙ map-append (pair_by see) (take n xs) (y ∷ drop (suc n) xs)

  pub chunk_pages_at : (xs : List (K × D)) (s : List (K × List (K × List (K × V)))) (n : ℕ) (e : K × D) → map (pair_by see) xs ≡ s → AreChunks cmp s → n < length xs → e ≡ get_or xs n e → ArePages cmp (see e.1)
  chunk_pages_at xs s n e view are l is =
      let fs = map (pair_by see) (take n xs) in
      let bs = map (pair_by see) (drop (suc n) xs) in
      let joined : parts s ≡ parts fs ++ (see e.1 ++ parts bs) = ap (λ (t : List _). parts t) (chunks_parted xs s n e view l is) ∙ parts_join fs ((e.0, see e.1) ∷ bs) in
      are_inside (parts fs) (see e.1) (parts bs) (subst (ArePages cmp) joined are.pages)

  pub chunk_edited : (xs : List (K × D)) (s : List (K × List (K × List (K × V)))) (n : ℕ) (e : K × D) (d : D) (q : K) (o : Option V) → map (pair_by see) xs ≡ s → AreChunks cmp s → n < length xs → e ≡ get_or xs n e → is_gt (cmp (get_or xs n e).0 q) ≡ false → first_above cmp xs q ≡ first_of (drop (n + 1) xs) → AreEdited cmp (see e.1) (see d) q o → record { pages : AreEdited cmp (parts s) (parts (map (pair_by see) (set xs n (e.0, d)))) q o; heads : AllByRecursion HasHead (map (pair_by see) (set xs n (e.0, d))) }
  chunk_edited xs s n e d q o view are l is up_to_at found_at edit =
      let up_to : is_gt (cmp e.0 q) ≡ false = rw is up_to_at in
      let found : first_above cmp xs q ≡ first_of (drop (suc n) xs) = rw add-one at found_at in
      let fs = map (pair_by see) (take n xs) in
      let bs = map (pair_by see) (drop (suc n) xs) in
      let parted : s ≡ fs ++ ((e.0, see e.1) ∷ bs) = chunks_parted xs s n e view l is in
      let at : AreChunks cmp (fs ++ ((e.0, see e.1) ∷ bs)) = subst (AreChunks cmp) parted are in
      let joined : parts s ≡ parts fs ++ (see e.1 ++ parts bs) = ap (λ (t : List _). parts t) parted ∙ parts_join fs ((e.0, see e.1) ∷ bs) in
      let pages : ArePages cmp (parts fs ++ (see e.1 ++ parts bs)) = subst (ArePages cmp) joined are.pages in
      let heads = all_second HasHead fs ((e.0, see e.1) ∷ bs) at.heads in
      let rest = all_second HasHead (parts fs) (see e.1 ++ parts bs) pages.heads in
      let up = subst (Ascends cmp key_of) (parts_three cmp order (parts fs) (see e.1) (parts bs)) pages.order in
      let over : Above cmp order q (parts (parts bs)) = chunks_above cmp order bs q (seen_above cmp order see xs q n found) heads.1 (all_second HasHead (see e.1) (parts bs) rest) (ascends_second cmp order (parts (see e.1)) (parts (parts bs)) (ascends_second cmp order (parts (parts fs)) (parts (see e.1) ++ parts (parts bs)) up)) in
      let after : parts (map (pair_by see) (set xs n (e.0, d))) ≡ parts fs ++ (see d ++ parts bs) = ap (λ (t : List _). parts t) (chunks_set xs n (e.0, d) l) ∙ parts_join fs ((e.0, see d) ∷ bs) in
      record {
        pages = rw (joined, after) (edited_inside cmp order (parts fs) (see e.1) (see d) (parts bs) e.0 q o (head_in e.0 (see e.1) heads.0 (all_first HasHead (see e.1) (parts bs) rest)) up_to over pages.order edit);
        heads = rw (chunks_set xs n (e.0, d) l) (all_join HasHead fs ((e.0, see d) ∷ bs) (all_first HasHead fs ((e.0, see e.1) ∷ bs) at.heads) (edit.head e.0 heads.0, heads.1));
      }

-- ---- what holds where a change was made, and where it wasn't

pub on_true : {P Q : Type 0} (b : Bool) → (P → Q) → OnTrue b P → OnTrue b Q
on_true true f p = f p
on_true false f p = p

pub on_false : {P Q : Type 0} (b : Bool) → (P → Q) → OnFalse b P → OnFalse b Q
on_false true f p = p
on_false false f p = f p

module _ {K V : Type 0} (cmp : K → K → Ordering) (order : IsTotalOrder cmp) where
  -- chunks of which pages were edited are chunks
  pub still_chunks : (s t : List (K × List (K × List (K × V)))) (q : K) (o : Option V) → AreChunks cmp s → AllByRecursion HasHead t → AreEdited cmp (parts s) (parts t) q o → AreChunks cmp t
  still_chunks s t q o are heads edit = record {
    heads = heads;
    pages = record {
      heads = edit.heads are.pages.heads;
      sized = record {
        most = edit.most are.pages.sized.most;
        least = λ two. edit.least (are.pages.sized.least (omega (arith, two, edit.count)));
      };
      order = subst (Ascends cmp key_of) (sym edit.pairs) (ascends_changed_at cmp order (parts (parts s)) q o are.pages.order);
    };
  }

  pub edited_all : (s t : List (K × List (K × List (K × V)))) (pages : List (List (K × V))) (q : K) (o : Option V) → map value_of (parts s) ≡ pages → AreEdited cmp (parts s) (parts t) q o → all_pairs (map value_of (parts t)) ≡ changed_at cmp (all_pairs pages) q o
  edited_all s t pages q o view edit = all_pages cmp order (parts t) ∙ (edit.pairs ∙ ap (λ (l : List (K × V)). changed_at cmp l q o) (sym (all_pages cmp order (parts s)) ∙ ap (λ (p : List (List (K × V))). all_pairs p) view))

-- ---- a part that was copied first

set_twice : {X : Type 0} (xs : List X) (n : ℕ) (y z : X) → set (set xs n y) n z ≡ set xs n z
set_twice [] zero y z = refl
set_twice [] (suc n) y z = refl
set_twice (x ∷ xs) zero y z = refl
set_twice (x ∷ xs) (suc n) y z = ap (λ (t : List _). x ∷ t) (set_twice xs n y z)

module _ {K X D : Type 0} (see : D → X) (xs : List (K × D)) (n : ℕ) (e e2 : K × D) (u : D) (inside : n < length xs) (is : e ≡ get_or xs n e) (same : see u ≡ see e.1) (is2 : e2 ≡ get_or (set xs n (e.0, u)) n e2) where
  copied : e2 ≡ (e.0, u)
  copied = is2 ∙ get_or-set_same xs n (e.0, u) e2 inside

  pub copied_value : see e2.1 ≡ see e.1
  copied_value = ap (λ (p : K × D). see p.1) copied ∙ same

  pub copied_set : (d : D) → set (set xs n (e.0, u)) n (e2.0, d) ≡ set xs n (e.0, d)
  copied_set d = set_twice xs n (e.0, u) (e2.0, d) ∙ ap (λ (p : K × D). set xs n (p.0, d)) copied

  pub copied_kept : (s : List (K × X)) (d : D) → map (pair_by see) xs ≡ s → see d ≡ see e2.1 → map (pair_by see) (set (set xs n (e.0, u)) n (e2.0, d)) ≡ s
  copied_kept s d view kept = rw (copied_set d) (map-set_same (pair_by see) xs n (e.0, d) e (ap (λ (p : X). (e.0, p)) (kept ∙ copied_value) ∙ ap (pair_by see) is) ∙ view)

-- one change after another
pub one_more : {K V C : Type 0} (cmp : K → K → Ordering) (read : C → Option V) (xs ys t : List (K × V)) (cs : List (K × C)) (i : ℕ) → ys ≡ changed cmp read xs (take (i + 1 - i) (drop i cs)) → changed cmp read xs (drop i cs) ≡ t → changed cmp read ys (drop (i + 1) cs) ≡ t
one_more cmp read xs ys t cs i one whole =
    let size : i + 1 - i ≡ 1 = omega arith in
    rw (one, size, add-one) (step xs cs i ∙ whole)
  where
    step : (xs : List _) (cs : List _) (i : ℕ) → changed cmp read (changed cmp read xs (take 1 (drop i cs))) (drop (suc i) cs) ≡ changed cmp read xs (drop i cs)
    step xs [] zero = refl
    step xs [] (suc i) = refl
    step xs (c ∷ cs) zero = refl
    step xs (c ∷ cs) (suc i) = step xs cs i

pub single : {K V C : Type 0} (cmp : K → K → Ordering) (read : C → Option V) (xs : List (K × V)) (cs : List (K × C)) (c : K × C) → length cs ≡ 1 → c ≡ get_or cs 0 c → changed cmp read xs cs ≡ changed_at cmp xs c.0 (read c.1)
single cmp read xs [] c one is = absurd (omega (arith, one))
single cmp read xs (x ∷ []) c one is = rw is refl
single cmp read xs (x ∷ y ∷ cs) c one is = absurd (omega (arith, one))
