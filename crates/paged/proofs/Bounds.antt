-- How pages that are bound into chunks stay what they are.
use Rattle.std.proofs.Common.{◌≡◌, ℕ, zero, suc, List, [], ◌∷◌, ◌++◌, take, drop, refl, sym, ap, ◌∙◌, subst, append_assoc}
use Rattle.std.specs.List.{AllByRecursion}
use Rattle.std.proofs.lemmas.List.{append-nil}
use Rattle.paged.specs.Parts.{HasHead, parts, keyed}
use Rattle.paged.specs.Bound.{AreBound, bound_of}
use Rattle.paged.proofs.Heads.{all_join, all_first, all_second, keyed_head, parts_add, parts_add_one}

module _ {K V : Type 0} where
  -- the first open pages are bound
  pub rebound : (s : List (K × List (K × List (K × V)))) (t u : List (K × List (K × V))) → bound_of (s ++ keyed t) u ≡ bound_of s (t ++ u)
  rebound s t u = ap (λ (l : List (K × List (K × V))). l ++ u) (parts_add s t) ∙ append_assoc (parts s) t u

  pub rebind : (s : List (K × List (K × List (K × V)))) (t u : List (K × List (K × V))) → AreBound s (t ++ u) → AreBound (s ++ keyed t) u
  rebind s t u is = record {
    chunk_heads = all_join HasHead s (keyed t) is.chunk_heads (keyed_head t);
    page_heads = subst (AllByRecursion HasHead) (sym (rebound s t u)) is.page_heads;
  }

  -- all open pages are bound
  pub rebound_all : (s : List (K × List (K × List (K × V)))) (t : List (K × List (K × V))) → bound_of (s ++ keyed t) [] ≡ bound_of s t
  rebound_all s t = append-nil (parts (s ++ keyed t)) ∙ parts_add s t

  pub rebind_all : (s : List (K × List (K × List (K × V)))) (t : List (K × List (K × V))) → AreBound s t → AreBound (s ++ keyed t) []
  rebind_all s t is = record {
    chunk_heads = all_join HasHead s (keyed t) is.chunk_heads (keyed_head t);
    page_heads = subst (AllByRecursion HasHead) (sym (rebound_all s t)) is.page_heads;
  }

  -- the last chunk is opened
  pub unbound : (s : List (K × List (K × List (K × V)))) (k : K) (t : List (K × List (K × V))) → bound_of s t ≡ bound_of (s ++ (k, t) ∷ []) []
  unbound s k t = sym (append-nil (parts (s ++ (k, t) ∷ [])) ∙ parts_add_one s k t)

  pub unbind : (s : List (K × List (K × List (K × V)))) (k : K) (t : List (K × List (K × V))) → AreBound (s ++ (k, t) ∷ []) [] → AreBound s t
  unbind s k t is = record {
    chunk_heads = all_first HasHead s ((k, t) ∷ []) is.chunk_heads;
    page_heads = subst (AllByRecursion HasHead) (sym (unbound s k t)) is.page_heads;
  }

  no_empty : (k : K) (t : List (K × List (K × V))) → HasHead (k, t) → t ≡ [] → ⊥
  no_empty k [] h e = h
  no_empty k (x ∷ xs) h e = cc

  pub unbind_some : (s : List (K × List (K × List (K × V)))) (k : K) (t : List (K × List (K × V))) → AreBound (s ++ (k, t) ∷ []) [] → t ≡ [] → ⊥
  unbind_some s k t is e = no_empty k t (all_second HasHead s ((k, t) ∷ []) is.chunk_heads).0 e

  -- a page is put behind the others
  pub bind_page : (s : List (K × List (K × List (K × V)))) (t : List (K × List (K × V))) (p : K × List (K × V)) → AreBound s t → HasHead p → AreBound s (t ++ p ∷ [])
  bind_page s t p is head = record {
    chunk_heads = is.chunk_heads;
    page_heads = subst (AllByRecursion HasHead) (append_assoc (parts s) t (p ∷ [])) (all_join HasHead (parts s ++ t) (p ∷ []) is.page_heads (head, tt));
  }

  pub bind_pages : (s : List (K × List (K × List (K × V)))) (t u : List (K × List (K × V))) → AreBound s t → AllByRecursion HasHead u → AreBound s (t ++ u)
  bind_pages s t u is heads = record {
    chunk_heads = is.chunk_heads;
    page_heads = subst (AllByRecursion HasHead) (append_assoc (parts s) t u) (all_join HasHead (parts s ++ t) u is.page_heads heads);
  }

  -- a chunk is put behind the others
  pub bind_chunk : (s : List (K × List (K × List (K × V)))) (k : K) (t : List (K × List (K × V))) → AreBound s [] → HasHead (k, t) → AllByRecursion HasHead t → AreBound (s ++ (k, t) ∷ []) []
  bind_chunk s k t is head heads = record {
    chunk_heads = all_join HasHead s ((k, t) ∷ []) is.chunk_heads (head, tt);
    page_heads = subst (AllByRecursion HasHead) (unbound s k t) (all_join HasHead (parts s) t (subst (AllByRecursion HasHead) (append-nil (parts s)) is.page_heads) heads);
  }

  -- the last page is taken out
  pub unbind_page : (s : List (K × List (K × List (K × V)))) (t : List (K × List (K × V))) (p : K × List (K × V)) → AreBound s (t ++ p ∷ []) → AreBound s t
  unbind_page s t p is = record {
    chunk_heads = is.chunk_heads;
    page_heads = all_first HasHead (parts s ++ t) (p ∷ []) (subst (AllByRecursion HasHead) (sym (append_assoc (parts s) t (p ∷ []))) is.page_heads);
  }

  take_drop : (n : ℕ) (xs : List (K × List (K × V))) → take n xs ++ drop n xs ≡ xs
  take_drop zero xs = refl
  take_drop (suc n) [] = refl
  take_drop (suc n) (x ∷ xs) = ap (λ (l : List (K × List (K × V))). x ∷ l) (take_drop n xs)

  pub bind_front : (s s2 : List (K × List (K × List (K × V)))) (all t u : List (K × List (K × V))) (n : ℕ) → AreBound s all → s2 ≡ s ++ keyed t → t ≡ take n all → u ≡ drop n all → record { pages : bound_of s2 u ≡ bound_of s all; binds : AreBound s2 u }
  bind_front s s2 all t u n is e1 e2 e3 = rw (e1, e2, e3) (record {
    pages = rebound s (take n all) (drop n all) ∙ ap (λ (l : List (K × List (K × V))). bound_of s l) (take_drop n all);
    binds = rebind s (take n all) (drop n all) (subst (AreBound s) (sym (take_drop n all)) is);
  })
