-- One part after another is changed.
use Rattle.std.proofs.Common.{false, ◌≡◌, ℕ, zero, suc, ◌+◌, ◌<◌, List, [], ◌∷◌, ◌++◌, length, map, take, drop, get_or, ◌≤◌, Option, IfSome, refl, sym, ap, ◌∙◌, subst, arith, append_assoc, add-one, length-append}
use Rattle.std.specs.declared.cmp.Ordering.{Ordering}
use Rattle.std.specs.declared.cmp.Ordering.TheVariants.{Less, Equal, Greater}
use Rattle.std.specs.declared.sync.Arc.{Arc}
use Rattle.std.specs.Arc.{arc_value}
use Rattle.std.specs.Cmp.{IsTotalOrder}
use Rattle.std.specs.Ordering.{is_lt}
use Rattle.std.specs.List.{AllByRecursion}
use Rattle.std.proofs.lemmas.List.{append-nil}
use Rattle.keyed.specs.Keyed.{Ascends}
use Rattle.paged.specs.Pairs.{key_of, pair_by, pair_of, front, back, first_of}
use Rattle.paged.specs.Parts.{HasHead, HasMost, HasLeast, parts}
use Rattle.paged.specs.Paged.{ArePages, AreChunks}
use Rattle.paged.specs.Changed.{changed, given}
use Rattle.paged.proofs.Heads.{all_second, parts_join}
use Rattle.paged.proofs.Changes.{change_step, changed_parted, ascends_first, ascends_second}

pub head_of_parts : {K X : Type 0} (k : K) (p : List (K × X)) (t : List (K × X)) → HasHead (k, p) → HasHead (k, p ++ t)
head_of_parts k [] t head = absurd head
head_of_parts k (x ∷ p) t head = head

pub head_in : {K V : Type 0} (k : K) (c : List (K × List (K × V))) → HasHead (k, c) → AllByRecursion HasHead c → HasHead (k, parts c)
head_in k [] head heads = absurd head
head_in k ((k2, p) ∷ c) head heads = let same : k2 ≡ k = head in subst (λ z. HasHead (z, p ++ parts c)) same (head_of_parts k2 p (parts c) heads.0)

all_first : {X : Type 0} (P : X → Type 0) (xs ys : List X) → AllByRecursion P (xs ++ ys) → AllByRecursion P xs
all_first P [] ys a = tt
all_first P (x ∷ xs) ys a = (a.0, all_first P xs ys a.1)

module _ {K : Type 0} (cmp : K → K → Ordering) where
  pub ascends_drop : {C : Type 0} (n : ℕ) (xs : List (K × C)) → Ascends cmp key_of xs → Ascends cmp key_of (drop n xs)
  ascends_drop zero xs up = up
  ascends_drop (suc n) [] up = tt
  ascends_drop (suc n) (x ∷ xs) up = ascends_drop n xs up.1

  all_take : {X : Type 0} (P : X → Type 0) (n : ℕ) (xs : List X) → AllByRecursion P xs → AllByRecursion P (take n xs)
  all_take P zero xs all = tt
  all_take P (suc n) [] all = tt
  all_take P (suc n) (x ∷ xs) all = (all.0, all_take P n xs all.1)

  pub ascends_take : {C : Type 0} (n : ℕ) (xs : List (K × C)) → Ascends cmp key_of xs → Ascends cmp key_of (take n xs)
  ascends_take zero xs up = tt
  ascends_take (suc n) [] up = tt
  ascends_take (suc n) (x ∷ xs) up = (all_take (λ y. cmp x.0 y.0 ≡ Less) n xs up.0, ascends_take n xs up.1)

  pub drop_at : {C : Type 0} (xs : List C) (i : ℕ) (c : C) → i < length xs → c ≡ get_or xs i c → drop i xs ≡ c ∷ drop (suc i) xs
  drop_at [] i c l is = absurd (omega arith)
  drop_at (x ∷ xs) zero c l is = rw is refl
  drop_at (x ∷ xs) (suc i) c l is = drop_at xs i c (omega arith) is

  module _ {V D : Type 0} (see : D → V) where
    front_map : (xs : List (K × D)) (q : K) → front cmp (map (pair_by see) xs) q ≡ map (pair_by see) (front cmp xs q)
    front_map [] q = refl
    front_map (x ∷ xs) q = by (front_map xs q) (cmp x.0 q) refl
      where
        by : front cmp (map (pair_by see) xs) q ≡ map (pair_by see) (front cmp xs q) → (o : Ordering) → cmp x.0 q ≡ o → front cmp (map (pair_by see) (x ∷ xs)) q ≡ map (pair_by see) (front cmp (x ∷ xs) q)
        by more Less e = rw e (ap (λ (l : List (K × V)). (pair_by see) x ∷ l) more)
        by more Equal e = rw e refl
        by more Greater e = rw e refl

    back_map : (xs : List (K × D)) (q : K) → back cmp (map (pair_by see) xs) q ≡ map (pair_by see) (back cmp xs q)
    back_map [] q = refl
    back_map (x ∷ xs) q = by (back_map xs q) (cmp x.0 q) refl
      where
        by : back cmp (map (pair_by see) xs) q ≡ map (pair_by see) (back cmp xs q) → (o : Ordering) → cmp x.0 q ≡ o → back cmp (map (pair_by see) (x ∷ xs)) q ≡ map (pair_by see) (back cmp (x ∷ xs) q)
        by more Less e = rw e more
        by more Equal e = rw e refl
        by more Greater e = rw e refl

    map_all : (k : K) (xs : List (K × D)) → AllByRecursion (λ y. cmp k (key_of y) ≡ Less) xs → AllByRecursion (λ y. cmp k (key_of y) ≡ Less) (map (pair_by see) xs)
    map_all k [] all = tt
    map_all k (x ∷ xs) all = (all.0, map_all k xs all.1)

    pub map_ascends : (xs : List (K × D)) → Ascends cmp key_of xs → Ascends cmp key_of (map (pair_by see) xs)
    map_ascends [] up = tt
    map_ascends (x ∷ xs) up = (map_all x.0 xs up.0, map_ascends xs up.1)

  module _ (order : IsTotalOrder cmp) {V C : Type 0} (read : C → Option V) where
    regroup : (a b c d : List (K × V)) → a ++ ((b ++ c) ++ d) ≡ ((a ++ b) ++ c) ++ d
    regroup a b c d = sym (append_assoc (a ++ b) c d ∙ (append_assoc a b (c ++ d) ∙ ap (λ (l : List (K × V)). a ++ l) (sym (append_assoc b c d))))

    -- a change: the pairs below its key, what it puts, and what is behind
    pub pairs_step : {D : Type 0} (see : D → V) (m0 m1 m2 m3 : List (K × V)) (rest before behind : List (K × D)) (cs : List (K × C)) (i : ℕ) (c : K × C) → Ascends cmp key_of rest → Ascends cmp key_of cs → i < length cs → c ≡ get_or cs i c → before ≡ front cmp rest c.0 → behind ≡ back cmp rest c.0 → m1 ++ changed cmp read (map (pair_by see) rest) (drop i cs) ≡ m0 → m2 ≡ m1 ++ map (pair_by see) before → m3 ≡ m2 ++ given c.0 (read c.1) → m3 ++ changed cmp read (map (pair_by see) behind) (drop (i + 1) cs) ≡ m0
    pairs_step see m0 m1 m2 m3 rest before behind cs i c up order_cs l is fr bk whole two three =
        let split : drop i cs ≡ c ∷ drop (suc i) cs = drop_at cs i c l is in
        let later : Ascends cmp key_of (c ∷ drop (suc i) cs) = subst (Ascends cmp key_of) split (ascends_drop i cs order_cs) in
        let step : changed cmp read (map (pair_by see) rest) (c ∷ drop (suc i) cs) ≡ (map (pair_by see) before ++ given c.0 (read c.1)) ++ changed cmp read (map (pair_by see) behind) (drop (suc i) cs) =
        change_step cmp order read (map (pair_by see) rest) c (drop (suc i) cs) (map_ascends see rest up) later.0
        ∙ rw (front_map see rest c.0, back_map see rest c.0, ← fr, ← bk) refl in
        rw (add-one i, three, two)
        (sym (regroup m1 (map (pair_by see) before) (given c.0 (read c.1)) (changed cmp read (map (pair_by see) behind) (drop (suc i) cs)))
        ∙ (ap (λ (t : List (K × V)). m1 ++ t) (sym step) ∙ (ap (λ (t : List (K × C)). m1 ++ changed cmp read (map (pair_by see) rest) t) (sym split) ∙ whole)))

    -- a part, and the parts behind it, none or beginning at a key
    pub part_step : (m0 m1 m2 : List (K × V)) (fs bs : List (K × V)) (cs here later : List (K × C)) (k : K) → HasHead (k, bs) → Ascends cmp key_of (fs ++ bs) → cs ≡ here ++ later → AllByRecursion (λ c. cmp c.0 k ≡ Less) here → AllByRecursion (λ c. is_lt (cmp c.0 k) ≡ false) later → m1 ≡ m0 ++ changed cmp read fs here → m2 ≡ m1 ++ changed cmp read bs later → m2 ≡ m0 ++ changed cmp read (fs ++ bs) cs
    part_step m0 m1 m2 fs bs cs here later k head up whole below others one two =
        rw (two, one, whole) (append_assoc m0 (changed cmp read fs here) (changed cmp read bs later) ∙ ap (λ (t : List (K × V)). m0 ++ t) (sym (changed_parted cmp order read k fs bs here later head up below others)))

    pub last_step : (m0 m1 m2 : List (K × V)) (fs : List (K × V)) (cs here later : List (K × C)) → cs ≡ here ++ later → later ≡ [] → m1 ≡ m0 ++ changed cmp read fs here → m2 ≡ m1 ++ changed cmp read [] later → m2 ≡ m0 ++ changed cmp read (fs ++ []) cs
    last_step m0 m1 m2 fs cs here later whole none one two =
        let c2 : cs ≡ here = whole ∙ (ap (λ (t : List (K × C)). here ++ t) none ∙ append-nil here) in
        rw (c2, append-nil fs) (two ∙ (ap (λ (t : List (K × C)). m1 ++ changed cmp read [] t) none ∙ (append-nil m1 ∙ one)))

    pub pages_step : {Z : Type 0} (m0 m1 m2 : List (K × V)) (e : K × Arc (List (K × V)) Z) (more : List (K × Arc (List (K × V)) Z)) (cs here later : List (K × C)) → AllByRecursion HasHead (map pair_of more) → Ascends cmp key_of (parts (map pair_of (e ∷ more))) → cs ≡ here ++ later → IfSome (first_of more) (λ n. AllByRecursion (λ c. cmp c.0 n.0 ≡ Less) here) → IfSome (first_of more) (λ n. AllByRecursion (λ c. is_lt (cmp c.0 n.0) ≡ false) later) → (more ≡ [] → later ≡ []) → m1 ≡ m0 ++ changed cmp read (arc_value e.1) here → m2 ≡ m1 ++ changed cmp read (parts (map pair_of more)) later → m2 ≡ m0 ++ changed cmp read (parts (map pair_of (e ∷ more))) cs
    pages_step m0 m1 m2 e [] cs here later heads up whole below others none one two = last_step m0 m1 m2 (arc_value e.1) cs here later whole (none refl) one two
    pages_step m0 m1 m2 e (n ∷ more) cs here later heads up whole below others none one two =
        part_step m0 m1 m2 (arc_value e.1) (parts (map pair_of (n ∷ more))) cs here later n.0 (head_of_parts n.0 (arc_value n.1) (parts (map pair_of more)) heads.0) up whole below others one two

    pub chunks_step : {Z : Type 0} (m0 m1 m2 : List (K × V)) (e : K × Arc (List (K × List (K × V))) Z) (more : List (K × Arc (List (K × List (K × V))) Z)) (cs here later : List (K × C)) → AllByRecursion HasHead (map pair_of more) → AllByRecursion HasHead (parts (map pair_of more)) → Ascends cmp key_of (parts (parts (map pair_of (e ∷ more)))) → cs ≡ here ++ later → IfSome (first_of more) (λ n. AllByRecursion (λ c. cmp c.0 n.0 ≡ Less) here) → IfSome (first_of more) (λ n. AllByRecursion (λ c. is_lt (cmp c.0 n.0) ≡ false) later) → (more ≡ [] → later ≡ []) → m1 ≡ m0 ++ changed cmp read (parts (arc_value e.1)) here → m2 ≡ m1 ++ changed cmp read (parts (parts (map pair_of more))) later → m2 ≡ m0 ++ changed cmp read (parts (parts (map pair_of (e ∷ more)))) cs
    chunks_step m0 m1 m2 e [] cs here later heads pages up whole below others none one two =
        let joined : parts (parts (map pair_of (e ∷ []))) ≡ parts (arc_value e.1) ++ [] = parts_join (arc_value e.1) [] in
        rw joined (last_step m0 m1 m2 (parts (arc_value e.1)) cs here later whole (none refl) one two)
    chunks_step m0 m1 m2 e (n ∷ more) cs here later heads pages up whole below others none one two =
        let joined : parts (parts (map pair_of (e ∷ n ∷ more))) ≡ parts (arc_value e.1) ++ parts (parts (map pair_of (n ∷ more))) = parts_join (arc_value e.1) (parts (map pair_of (n ∷ more))) in
        let head : HasHead (n.0, parts (parts (map pair_of (n ∷ more)))) =
        subst (λ z. HasHead (n.0, z)) (sym (parts_join (arc_value n.1) (parts (map pair_of more))))
        (head_of_parts n.0 (parts (arc_value n.1)) (parts (parts (map pair_of more))) (head_in n.0 (arc_value n.1) heads.0 (all_first HasHead (arc_value n.1) (parts (map pair_of more)) pages))) in
        rw joined (part_step m0 m1 m2 (parts (arc_value e.1)) (parts (parts (map pair_of (n ∷ more)))) cs here later n.0 head (subst (Ascends cmp key_of) joined up) whole below others one two)

-- pages and chunks one after another
module _ {K V : Type 0} (cmp : K → K → Ordering) (order : IsTotalOrder cmp) where
  pub pages_behind : (p : K × List (K × V)) (ps : List (K × List (K × V))) → ArePages cmp (p ∷ ps) → ArePages cmp ps
  pages_behind p ps are = record {
    heads = are.heads.1;
    sized = record { most = are.sized.most.1; least = λ two. (are.sized.least (omega arith)).1 };
    order = ascends_second cmp order p.1 (parts ps) are.order;
  }

  pub chunks_behind : (c : K × List (K × List (K × V))) (cs : List (K × List (K × List (K × V)))) → AreChunks cmp (c ∷ cs) → AreChunks cmp cs
  chunks_behind c cs are = record {
    heads = are.heads.1;
    pages = record {
      heads = all_second HasHead c.1 (parts cs) are.pages.heads;
      sized = record {
        most = all_second HasMost c.1 (parts cs) are.pages.sized.most;
        least = λ two. all_second HasLeast c.1 (parts cs) (are.pages.sized.least (rw length-append (omega arith)));
      };
      order = ascends_second cmp order (parts c.1) (parts (parts cs)) (subst (Ascends cmp key_of) (parts_join c.1 (parts cs)) are.pages.order);
    };
  }

  pub chunk_pages : (c : K × List (K × List (K × V))) (cs : List (K × List (K × List (K × V)))) → AreChunks cmp (c ∷ cs) → ArePages cmp c.1
  chunk_pages c cs are = record {
    heads = all_first HasHead c.1 (parts cs) are.pages.heads;
    sized = record {
      most = all_first HasMost c.1 (parts cs) are.pages.sized.most;
      least = λ two. all_first HasLeast c.1 (parts cs) (are.pages.sized.least (rw length-append (omega arith)));
    };
    order = ascends_first cmp order (parts c.1) (parts (parts cs)) (subst (Ascends cmp key_of) (parts_join c.1 (parts cs)) are.pages.order);
  }

module _ {K V Z : Type 0} (cmp : K → K → Ordering) (order : IsTotalOrder cmp) where
  pages_from : (n : ℕ) (xs : List (K × Arc (List (K × V)) Z)) → ArePages cmp (map pair_of xs) → ArePages cmp (map pair_of (drop n xs))
  pages_from zero xs are = are
  pages_from (suc n) [] are = are
  pages_from (suc n) (x ∷ xs) are = pages_from n xs (pages_behind cmp order (pair_of x) (map pair_of xs) are)

  chunks_from : (n : ℕ) (xs : List (K × Arc (List (K × List (K × V))) Z)) → AreChunks cmp (map pair_of xs) → AreChunks cmp (map pair_of (drop n xs))
  chunks_from zero xs are = are
  chunks_from (suc n) [] are = are
  chunks_from (suc n) (x ∷ xs) are = chunks_from n xs (chunks_behind cmp order (pair_of x) (map pair_of xs) are)

  -- the page at a place
  pub page_at : (xs : List (K × Arc (List (K × V)) Z)) (i : ℕ) (e : K × Arc (List (K × V)) Z) → i < length xs → e ≡ get_or xs i e → ArePages cmp (map pair_of xs) → record { head : HasHead (pair_of e); most : length (arc_value e.1) ≤ 64; order : Ascends cmp key_of (arc_value e.1) }
  page_at xs i e l is are =
      let at : ArePages cmp (map pair_of (e ∷ drop (suc i) xs)) = subst (λ ys. ArePages cmp (map pair_of ys)) (drop_at cmp xs i e l is) (pages_from i xs are) in
      record { head = at.heads.0; most = at.sized.most.0; order = ascends_first cmp order (arc_value e.1) (parts (map pair_of (drop (suc i) xs))) at.order }

  -- the chunk at a place
  pub chunk_at : (xs : List (K × Arc (List (K × List (K × V))) Z)) (i : ℕ) (e : K × Arc (List (K × List (K × V))) Z) → i < length xs → e ≡ get_or xs i e → AreChunks cmp (map pair_of xs) → record { head : HasHead (pair_of e); pages : ArePages cmp (arc_value e.1) }
  chunk_at xs i e l is are =
      let at : AreChunks cmp (map pair_of (e ∷ drop (suc i) xs)) = subst (λ ys. AreChunks cmp (map pair_of ys)) (drop_at cmp xs i e l is) (chunks_from i xs are) in
      record { head = at.heads.0; pages = chunk_pages cmp order (pair_of e) (map pair_of (drop (suc i) xs)) at }

  -- one page more is changed
  pub pages_next : {C : Type 0} (read : C → Option V) (m0 m1 t : List (K × V)) (xs more : List (K × Arc (List (K × V)) Z)) (i : ℕ) (e : K × Arc (List (K × V)) Z) (cs here later : List (K × C)) → i < length xs → e ≡ get_or xs i e → ArePages cmp (map pair_of xs) → more ≡ drop (i + 1) xs → cs ≡ here ++ later → IfSome (first_of more) (λ n. AllByRecursion (λ c. cmp c.0 n.0 ≡ Less) here) → IfSome (first_of more) (λ n. AllByRecursion (λ c. is_lt (cmp c.0 n.0) ≡ false) later) → (more ≡ [] → later ≡ []) → m1 ≡ m0 ++ changed cmp read (arc_value e.1) here → m0 ++ changed cmp read (parts (map pair_of (drop i xs))) cs ≡ t → m1 ++ changed cmp read (parts (map pair_of (drop (i + 1) xs))) later ≡ t
  pages_next read m0 m1 t xs more i e cs here later l is are behind whole below others none one so =
      let first : drop i xs ≡ e ∷ drop (suc i) xs = drop_at cmp xs i e l is in
      let rest : more ≡ drop (suc i) xs = behind ∙ rw add-one refl in
      let at : ArePages cmp (map pair_of (e ∷ more)) = rw rest (subst (λ ys. ArePages cmp (map pair_of ys)) first (pages_from i xs are)) in
      subst (λ ys. m1 ++ changed cmp read (parts (map pair_of ys)) later ≡ t) behind
      (pages_step cmp order read m0 m1 (m1 ++ changed cmp read (parts (map pair_of more)) later) e more cs here later at.heads.1 at.order whole below others none one refl
      ∙ (rw rest (subst (λ ys. m0 ++ changed cmp read (parts (map pair_of ys)) cs ≡ t) first so)))

  -- one chunk more is changed
  pub chunks_next : {C : Type 0} (read : C → Option V) (m0 m1 t : List (K × V)) (xs more : List (K × Arc (List (K × List (K × V))) Z)) (i : ℕ) (e : K × Arc (List (K × List (K × V))) Z) (cs here later : List (K × C)) → i < length xs → e ≡ get_or xs i e → AreChunks cmp (map pair_of xs) → more ≡ drop (i + 1) xs → cs ≡ here ++ later → IfSome (first_of more) (λ n. AllByRecursion (λ c. cmp c.0 n.0 ≡ Less) here) → IfSome (first_of more) (λ n. AllByRecursion (λ c. is_lt (cmp c.0 n.0) ≡ false) later) → (more ≡ [] → later ≡ []) → m1 ≡ m0 ++ changed cmp read (parts (arc_value e.1)) here → m0 ++ changed cmp read (parts (parts (map pair_of (drop i xs)))) cs ≡ t → m1 ++ changed cmp read (parts (parts (map pair_of (drop (i + 1) xs)))) later ≡ t
  chunks_next read m0 m1 t xs more i e cs here later l is are behind whole below others none one so =
      let first : drop i xs ≡ e ∷ drop (suc i) xs = drop_at cmp xs i e l is in
      let rest : more ≡ drop (suc i) xs = behind ∙ rw add-one refl in
      let at : AreChunks cmp (map pair_of (e ∷ more)) = rw rest (subst (λ ys. AreChunks cmp (map pair_of ys)) first (chunks_from i xs are)) in
      let after : AreChunks cmp (map pair_of more) = chunks_behind cmp order (pair_of e) (map pair_of more) at in
      subst (λ ys. m1 ++ changed cmp read (parts (parts (map pair_of ys))) later ≡ t) behind
      (chunks_step cmp order read m0 m1 (m1 ++ changed cmp read (parts (parts (map pair_of more))) later) e more cs here later after.heads after.pages.heads at.pages.order whole below others none one refl
      ∙ (rw rest (subst (λ ys. m0 ++ changed cmp read (parts (parts (map pair_of ys))) cs ≡ t) first so)))
