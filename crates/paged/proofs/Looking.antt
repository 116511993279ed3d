-- Looking up in chunks of pages.
use Rattle.std.specs.Ordering.{is_gt}
use Rattle.paged.specs.Changed.{changed}
use Rattle.std.proofs.Common.{Bool, false, true, ◌≡◌, List, [], ◌∷◌, ◌++◌, map, Option, Some, None, refl, sym, ap, ◌∙◌, subst}
use Rattle.std.specs.declared.cmp.Ordering.{Ordering}
use Rattle.std.specs.Cmp.{IsTotalOrder}
use Rattle.std.specs.Option.{option_map, option_or}
use Rattle.std.specs.List.{AllByRecursion}
use Rattle.keyed.specs.Keyed.{Ascends, find}
use Rattle.paged.specs.Pairs.{key_of, value_of, part_at, first_above, first_of, within}
use Rattle.paged.specs.Parts.{HasHead, parts}
use Rattle.paged.specs.Paged.{all_pairs, ArePages, AreChunks}
use Rattle.paged.specs.Walk.{from, parts_from}
use Rattle.paged.proofs.Heads.{all_first, all_second, parts_join}
use Rattle.paged.proofs.Tables.{flat, BeginAt, keys_ascend, part_too, part_ascends, find_part, above_part, from_parts, begun}

module _ {K : Type 0} (cmp : K → K → Ordering) where
  above_too : {P : Type 0} (Q : P → Type 0) (t : List (K × P)) (q : K) (e : K × P) → AllByRecursion (λ d. Q d.1) t → first_above cmp t q ≡ Some e → Q e.1
  above_too Q [] q e all found = none_some found
    where
      none_some : None ≡ Some e → Q e.1
      none_some h = cc
  above_too Q (d ∷ t) q e all found = by (λ (m : first_above cmp t q ≡ Some e). above_too Q t q e all.1 m) (is_gt (cmp d.0 q)) refl
    where
      same : Some d ≡ Some e → d ≡ e
      same h = cc

      by : (first_above cmp t q ≡ Some e → Q e.1) → (b : Bool) → is_gt (cmp d.0 q) ≡ b → Q e.1
      by more true g = subst (λ z. Q z.1) (same (rw g at found)) all.0
      by more false g = more (rw g at found)

module _ {K V : Type 0} (cmp : K → K → Ordering) (order : IsTotalOrder cmp) where
  -- ---- pairs in a chunk of pages

  pages_begin : (c : List (K × List (K × V))) → AllByRecursion HasHead c → BeginAt cmp order (λ p. p) c
  pages_begin [] heads = tt
  pages_begin (e ∷ c) heads = (heads.0, pages_begin c heads.1)

  pub page_keys : (c : List (K × List (K × V))) → AllByRecursion HasHead c → Ascends cmp key_of (parts c) → Ascends cmp key_of c
  page_keys c heads up = keys_ascend cmp order (λ p. p) c (pages_begin c heads) up

  pub page_order : (c : List (K × List (K × V))) (q : K) (p : List (K × V)) → Ascends cmp key_of (parts c) → part_at cmp c q ≡ Some p → Ascends cmp key_of p
  page_order c q p up found = part_ascends cmp order (λ p. p) c q p up found

  pub page_found : (c : List (K × List (K × V))) (q : K) → AllByRecursion HasHead c → Ascends cmp key_of (parts c) → (o : Option (List (K × V))) → o ≡ part_at cmp c q → find cmp key_of (parts c) q ≡ within o (λ p. find cmp key_of p q)
  page_found c q heads up o e = find_part cmp order (λ p. p) c q (pages_begin c heads) up ∙ rw e refl

  pub page_above : (c : List (K × List (K × V))) (q : K) → AllByRecursion HasHead c → Ascends cmp key_of (parts c) → first_above cmp (parts c) q ≡ option_or (within (part_at cmp c q) (λ p. first_above cmp p q)) (within (first_above cmp c q) (λ e. first_of e.1))
  page_above c q heads up = above_part cmp order (λ p. p) c q (pages_begin c heads) up

  -- ---- pairs in chunks

  pub flat_parts : (t : List (K × List (K × List (K × V)))) → flat cmp order parts t ≡ parts (parts t)
  flat_parts [] = refl
  flat_parts (e ∷ t) = ap (λ (l : List (K × V)). parts e.1 ++ l) (flat_parts t) ∙ sym (parts_join e.1 (parts t))

  head_parts : (k : K) (c : List (K × List (K × V))) → HasHead (k, c) → AllByRecursion HasHead c → HasHead (k, parts c)
  head_parts k [] head heads = absurd head
  head_parts k ((k2, []) ∷ c) head heads = absurd heads.0
  head_parts k ((k2, x ∷ p) ∷ c) head heads = let a : k2 ≡ k = head in let b : x.0 ≡ k2 = heads.0 in b ∙ a

  chunk_heads : (t : List (K × List (K × List (K × V)))) → AllByRecursion HasHead (parts t) → AllByRecursion (λ e. AllByRecursion HasHead e.1) t
  chunk_heads [] heads = tt
  chunk_heads (e ∷ t) heads = (all_first HasHead e.1 (parts t) heads, chunk_heads t (all_second HasHead e.1 (parts t) heads))

  chunks_begin : (t : List (K × List (K × List (K × V)))) → AllByRecursion HasHead t → AllByRecursion HasHead (parts t) → BeginAt cmp order parts t
  chunks_begin [] heads pages = tt
  chunks_begin (e ∷ t) heads pages =
      (head_parts e.0 e.1 heads.0 (all_first HasHead e.1 (parts t) pages), chunks_begin t heads.1 (all_second HasHead e.1 (parts t) pages))

  pub chunk_keys : (t : List (K × List (K × List (K × V)))) → AreChunks cmp t → Ascends cmp key_of t
  chunk_keys t is = keys_ascend cmp order parts t (chunks_begin t is.heads is.pages.heads) (subst (Ascends cmp key_of) (sym (flat_parts t)) is.pages.order)

  pub chunk_order : (t : List (K × List (K × List (K × V)))) (q : K) (c : List (K × List (K × V))) → AreChunks cmp t → part_at cmp t q ≡ Some c → record { heads : AllByRecursion HasHead c; order : Ascends cmp key_of (parts c) }
  chunk_order t q c is found = record {
    heads = part_too cmp order parts (λ c. AllByRecursion HasHead c) t q c (chunk_heads t is.pages.heads) found;
    order = part_ascends cmp order parts t q c (subst (Ascends cmp key_of) (sym (flat_parts t)) is.pages.order) found;
  }

  pub all_pages : (t : List (K × List (K × V))) → all_pairs (map value_of t) ≡ parts t
  all_pages [] = refl
  all_pages (e ∷ t) = ap (λ (l : List (K × V)). e.1 ++ l) (all_pages t)

  pub chunk_found : (t : List (K × List (K × List (K × V)))) (q : K) → AreChunks cmp t → (o : Option (List (K × List (K × V)))) → o ≡ part_at cmp t q → find cmp key_of (all_pairs (map value_of (parts t))) q ≡ within o (λ c. find cmp key_of (parts c) q)
  chunk_found t q is o e =
      ap (λ (l : List (K × V)). find cmp key_of l q) (all_pages (parts t) ∙ sym (flat_parts t))
      ∙ (find_part cmp order parts t q (chunks_begin t is.heads is.pages.heads) (subst (Ascends cmp key_of) (sym (flat_parts t)) is.pages.order) ∙ rw e refl)

  pub chunk_above : (t : List (K × List (K × List (K × V)))) (q : K) → AreChunks cmp t → first_above cmp (all_pairs (map value_of (parts t))) q ≡ option_or (within (part_at cmp t q) (λ c. first_above cmp (parts c) q)) (within (first_above cmp t q) (λ e. first_of (parts e.1)))
  chunk_above t q is =
      ap (λ (l : List (K × V)). first_above cmp l q) (all_pages (parts t) ∙ sym (flat_parts t))
      ∙ above_part cmp order parts t q (chunks_begin t is.heads is.pages.heads) (subst (Ascends cmp key_of) (sym (flat_parts t)) is.pages.order)

  -- ---- from a key on

  pub page_from : (c : List (K × List (K × V))) (q : K) → ArePages cmp c → from cmp (parts c) q ≡ begun cmp order (λ p. p) (parts_from cmp c q) q
  page_from c q are = from_parts cmp order (λ p. p) c q (pages_begin c are.heads) are.order

  pub chunk_from : (t : List (K × List (K × List (K × V)))) (q : K) → AreChunks cmp t → from cmp (parts (parts t)) q ≡ begun cmp order parts (parts_from cmp t q) q
  chunk_from t q are =
      ap (λ (l : List (K × V)). from cmp l q) (sym (flat_parts t))
      ∙ from_parts cmp order parts t q (chunks_begin t are.heads are.pages.heads) (subst (Ascends cmp key_of) (sym (flat_parts t)) are.pages.order)

  -- ---- as answers of look-ups

  pub get_chunk : (t : List (K × List (K × List (K × V)))) (pages : List (List (K × V))) (q : K) (c : List (K × List (K × V))) (r : Option V) → AreChunks cmp t → map value_of (parts t) ≡ pages → Some c ≡ part_at cmp t q → r ≡ option_map value_of (find cmp key_of (parts c) q) → r ≡ option_map value_of (find cmp key_of (all_pairs pages) q)
  get_chunk t pages q c r is view found e = rw (← view) (e ∙ ap (λ (o : Option (K × V)). option_map value_of o) (sym (chunk_found t q is (Some c) found)))

  pub get_no_chunk : (t : List (K × List (K × List (K × V)))) (pages : List (List (K × V))) (q : K) → AreChunks cmp t → map value_of (parts t) ≡ pages → None ≡ part_at cmp t q → None ≡ option_map value_of (find cmp key_of (all_pairs pages) q)
  get_no_chunk t pages q is view found = rw (← view) (ap (λ (o : Option (K × V)). option_map value_of o) (sym (chunk_found t q is None found)))

  pub get_page : (c : List (K × List (K × V))) (q : K) (p : List (K × V)) (r : Option V) → AllByRecursion HasHead c → Ascends cmp key_of (parts c) → Some p ≡ part_at cmp c q → r ≡ option_map value_of (find cmp key_of p q) → r ≡ option_map value_of (find cmp key_of (parts c) q)
  get_page c q p r heads up found e = e ∙ ap (λ (o : Option (K × V)). option_map value_of o) (sym (page_found c q heads up (Some p) found))

  pub get_no_page : (c : List (K × List (K × V))) (q : K) → AllByRecursion HasHead c → Ascends cmp key_of (parts c) → None ≡ part_at cmp c q → None ≡ option_map value_of (find cmp key_of (parts c) q)
  get_no_page c q heads up found = ap (λ (o : Option (K × V)). option_map value_of o) (sym (page_found c q heads up None found))

  pub page_above_in : (c : List (K × List (K × V))) (q : K) (p : List (K × V)) (r : K × V) → AllByRecursion HasHead c → Ascends cmp key_of (parts c) → Some p ≡ part_at cmp c q → Some r ≡ first_above cmp p q → Some r ≡ first_above cmp (parts c) q
  page_above_in c q p r heads up found e = rw (page_above c q heads up, ← found, ← e) refl

  pub page_above_behind : (c : List (K × List (K × V))) (q : K) (p : List (K × V)) (r : Option (K × V)) → AllByRecursion HasHead c → Ascends cmp key_of (parts c) → Some p ≡ part_at cmp c q → None ≡ first_above cmp p q → r ≡ within (first_above cmp c q) (λ e. first_of e.1) → r ≡ first_above cmp (parts c) q
  page_above_behind c q p r heads up found none e = rw (page_above c q heads up, ← found, ← none) e

  pub page_above_none : (c : List (K × List (K × V))) (q : K) (r : Option (K × V)) → AllByRecursion HasHead c → Ascends cmp key_of (parts c) → None ≡ part_at cmp c q → r ≡ within (first_above cmp c q) (λ e. first_of e.1) → r ≡ first_above cmp (parts c) q
  page_above_none c q r heads up found e = rw (page_above c q heads up, ← found) e

  pub above_heads : (t : List (K × List (K × List (K × V)))) (q : K) (e : K × List (K × List (K × V))) → AllByRecursion HasHead (parts t) → first_above cmp t q ≡ Some e → AllByRecursion HasHead e.1
  above_heads t q e heads found = above_too cmp (λ c. AllByRecursion HasHead c) t q e (chunk_heads t heads) found

  pub chunk_above_in : (t : List (K × List (K × List (K × V)))) (pages : List (List (K × V))) (q : K) (c : List (K × List (K × V))) (r : K × V) → AreChunks cmp t → map value_of (parts t) ≡ pages → Some c ≡ part_at cmp t q → Some r ≡ first_above cmp (parts c) q → Some r ≡ first_above cmp (all_pairs pages) q
  chunk_above_in t pages q c r is view found e = rw (← view) (rw (chunk_above t q is, ← found, ← e) refl)

  pub chunk_above_behind : (t : List (K × List (K × List (K × V)))) (pages : List (List (K × V))) (q : K) (c : List (K × List (K × V))) (r : Option (K × V)) → AreChunks cmp t → map value_of (parts t) ≡ pages → Some c ≡ part_at cmp t q → None ≡ first_above cmp (parts c) q → r ≡ within (first_above cmp t q) (λ e. first_of (parts e.1)) → r ≡ first_above cmp (all_pairs pages) q
  chunk_above_behind t pages q c r is view found none e = rw (← view) (rw (chunk_above t q is, ← found, ← none) e)

  pub chunk_above_none : (t : List (K × List (K × List (K × V)))) (pages : List (List (K × V))) (q : K) (r : Option (K × V)) → AreChunks cmp t → map value_of (parts t) ≡ pages → None ≡ part_at cmp t q → r ≡ within (first_above cmp t q) (λ e. first_of (parts e.1)) → r ≡ first_above cmp (all_pairs pages) q
  chunk_above_none t pages q r is view found e = rw (← view) (rw (chunk_above t q is, ← found) e)

  pub with_pairs : {C : Type 0} (read : C → Option V) (t t2 s : List (K × List (K × List (K × V)))) (m0 m1 : List (K × V)) (cs : List (K × C)) → s ≡ t → parts (parts t2) ≡ m1 → m1 ≡ m0 ++ changed cmp read (parts (parts s)) cs → m0 ≡ [] → parts (parts t2) ≡ changed cmp read (parts (parts t)) cs
  with_pairs read t t2 s m0 m1 cs same e1 e2 e3 = rw (e1, e2, e3, same) refl

  pub with_all : {C : Type 0} (read : C → Option V) (t t2 : List (K × List (K × List (K × V)))) (pages : List (List (K × V))) (cs : List (K × C)) → map value_of (parts t) ≡ pages → parts (parts t2) ≡ changed cmp read (parts (parts t)) cs → all_pairs (map value_of (parts t2)) ≡ changed cmp read (all_pairs pages) cs
  with_all read t t2 pages cs view e = all_pages (parts t2) ∙ (e ∙ ap (λ (l : List (K × V)). changed cmp read l cs) (sym (all_pages (parts t)) ∙ ap (λ (p : List (List (K × V))). all_pairs p) view))
