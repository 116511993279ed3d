-- How pairs that are cut into pages stay what they are.
use Rattle.std.proofs.Common.{◌≡◌, ℕ, ◌+◌, ◌<◌, ◌≤◌, ◌⊎◌, inl, inr, List, [], ◌∷◌, ◌++◌, length, map, take, drop, get_or, zero, suc, refl, sym, ap, ◌∙◌, arith, subst, append_assoc, length-append, length-drop, length-take}
use Rattle.std.specs.declared.sync.Arc.{Arc}
use Rattle.std.specs.List.{AllByRecursion}
use Rattle.std.proofs.lemmas.List.{append-nil}
use Rattle.std.proofs.lemmas.Bool.{cases_lt}
use Rattle.paged.specs.Pairs.{pair_of}
use Rattle.paged.specs.Parts.{IsSized, HasMost, HasLeast, AreSized, parts, keyed}
use Rattle.paged.specs.Bound.{AreBound, AreMade, bound_of}
use Rattle.paged.proofs.Heads.{all_join, all_first, all_second, parts_join, parts_add}

take_drop : {X : Type 0} (n : ℕ) (xs : List X) → take n xs ++ drop n xs ≡ xs
take_drop zero xs = refl
take_drop (suc n) [] = refl
take_drop (suc n) (x ∷ xs) = ap (λ (l : List _). x ∷ l) (take_drop n xs)

-- what holds of all that entries stand for holds at a place
pub all_map_at : {K X Z : Type 0} (Q : K × X → Type 0) (xs : List (K × Arc X Z)) (i : ℕ) (e : K × Arc X Z) → AllByRecursion Q (map pair_of xs) → e ≡ get_or xs i e → i < length xs → Q (pair_of e)
all_map_at Q [] i e all is l = absurd (omega arith)
all_map_at Q (x ∷ xs) zero e all is l = subst (λ y. Q (pair_of y)) (sym is) all.0
all_map_at Q (x ∷ xs) (suc i) e all is l = all_map_at Q xs i e all.1 is (omega arith)

module _ {K V : Type 0} where
  sized_keyed : (p : List (K × V)) → 16 ≤ length p → length p ≤ 64 → AllByRecursion IsSized (keyed p)
  sized_keyed [] l m = tt
  sized_keyed (x ∷ xs) l m = ((l, m), tt)

  -- a page is cut off the open pairs
  pub cut_pairs : (t : List (K × List (K × V))) (o : List (K × V)) (n : ℕ) → parts (t ++ keyed (take n o)) ++ drop n o ≡ parts t ++ o
  cut_pairs t o n =
      ap (λ (l : List (K × V)). l ++ drop n o) (parts_add t (take n o))
      ∙ (append_assoc (parts t) (take n o) (drop n o) ∙ ap (λ (l : List (K × V)). parts t ++ l) (take_drop n o))

  pub cut_made : (s s2 : List (K × List (K × List (K × V)))) (t t2 : List (K × List (K × V))) (o : List (K × V)) → AreMade s t o → 40 ≤ length o → AreBound s2 t2 → bound_of s2 t2 ≡ bound_of s t ++ keyed (take 24 o) → AreMade s2 t2 (drop 24 o)
  cut_made s s2 t t2 o is many binds same = record {
    binds = binds;
    sized = subst (AllByRecursion IsSized) (sym same) (all_join IsSized (bound_of s t) (keyed (take 24 o)) is.sized (sized_keyed (take 24 o) (rw length-take (omega arith)) (rw length-take (omega arith))));
    few = omega (arith, length-drop 24 o, is.few);
  }

  both_sized : (t : List (K × List (K × V))) → AllByRecursion HasMost t → AllByRecursion HasLeast t → AllByRecursion IsSized t
  both_sized [] most least = tt
  both_sized (e ∷ t) most least = ((least.0, most.0), both_sized t most.1 least.1)

  pub sized_chunk : (c : List (K × List (K × V))) → AreSized c → 2 ≤ length c → AllByRecursion IsSized c
  sized_chunk c is l = both_sized c is.most (is.least l)

  pub share_made : (s s2 : List (K × List (K × List (K × V)))) (t t2 c : List (K × List (K × V))) (o : List (K × V)) → AreMade s t o → AreSized c → 2 ≤ length c → AreBound s2 t2 → bound_of s2 t2 ≡ bound_of s t ++ c → AreMade s2 t2 o
  share_made s s2 t t2 c o is sized l binds same = record {
    binds = binds;
    sized = subst (AllByRecursion IsSized) (sym same) (all_join IsSized (bound_of s t) c is.sized (sized_chunk c sized l));
    few = is.few;
  }

  -- a chunk is put behind the pages where no pairs are open
  pub share_settled : (s s2 : List (K × List (K × List (K × V)))) (t t2 c : List (K × List (K × V))) (o m : List (K × V)) → AreMade s t o → AreSized c → 2 ≤ length c → AreBound s2 t2 → bound_of s2 t2 ≡ bound_of s t ++ c → o ≡ [] → parts (bound_of s t) ++ o ≡ m → record { pairs : parts (bound_of s2 t2) ++ o ≡ m ++ parts c; makes : AreMade s2 t2 o }
  share_settled s s2 t t2 c o m is sized l binds same none whole =
      let alone : (p : List (K × V)) → p ++ o ≡ p = λ p. ap (λ (q : List (K × V)). p ++ q) none ∙ append-nil p in
      let before : parts (bound_of s t) ≡ m = sym (alone (parts (bound_of s t))) ∙ whole in
      record {
        pairs = alone (parts (bound_of s2 t2)) ∙ (ap (λ (q : List (K × List (K × V))). parts q) same ∙ (parts_join (bound_of s t) c ∙ ap (λ (q : List (K × V)). q ++ parts c) before));
        makes = share_made s s2 t t2 c o is sized l binds same;
      }

  -- the last page is taken in among the open pairs
  pub taken_in : (s s2 : List (K × List (K × List (K × V)))) (t t2 : List (K × List (K × V))) (k : K) (p o : List (K × V)) → AreMade s t o → length o < 16 → AreBound s2 t2 → bound_of s t ≡ bound_of s2 t2 ++ (k, p) ∷ [] → record { made : AreMade s2 t2 (p ++ o); enough : 16 ≤ length (p ++ o) }
  taken_in s s2 t t2 k p o is few binds same =
      let all : AllByRecursion IsSized (bound_of s2 t2 ++ (k, p) ∷ []) = subst (AllByRecursion IsSized) same is.sized in
      let last = all_second IsSized (bound_of s2 t2) ((k, p) ∷ []) all in
      let least : 16 ≤ length p = last.0.0 in
      let most : length p ≤ 64 = last.0.1 in
      record {
        made = record {
          binds = binds;
          sized = all_first IsSized (bound_of s2 t2) ((k, p) ∷ []) all;
          few = rw length-append (omega arith);
        };
        enough = rw length-append (omega arith);
      }

  sized_most : (t : List (K × List (K × V))) → AllByRecursion IsSized t → AllByRecursion HasMost t
  sized_most [] all = tt
  sized_most (e ∷ t) all = (all.0.1, sized_most t all.1)

  sized_least : (t : List (K × List (K × V))) → AllByRecursion IsSized t → AllByRecursion HasLeast t
  sized_least [] all = tt
  sized_least (e ∷ t) all = (all.0.0, sized_least t all.1)

  are_sized : (t : List (K × List (K × V))) → AllByRecursion IsSized t → AreSized t
  are_sized t all = record { most = sized_most t all; least = λ _. sized_least t all }

  one_sized : (o : List (K × V)) → length o ≤ 64 → AreSized (keyed o)
  one_sized [] m = record { most = tt; least = λ _. tt }
  one_sized (x ∷ xs) m = record { most = (m, tt); least = λ l. absurd (omega arith) }

  keyed_empty : (o : List (K × V)) → length o ≡ 0 → keyed o ≡ []
  keyed_empty [] e = refl
  keyed_empty (x ∷ xs) e = absurd (omega arith)

  -- all pages have their sizes once the open pairs are one more
  sized_at_last : (t : List (K × List (K × V))) (o : List (K × V)) → AllByRecursion IsSized t → length o ≤ 64 → (length o ≡ 0) ⊎ ((16 ≤ length o) ⊎ (t ≡ [])) → AreSized (t ++ keyed o)
  sized_at_last t o all m (inl e) = rw (keyed_empty o e, append-nil t) (are_sized t all)
  sized_at_last t o all m (inr (inl l)) = are_sized (t ++ keyed o) (all_join IsSized t (keyed o) all (sized_keyed o l m))
  sized_at_last t o all m (inr (inr e)) = rw e (one_sized o m)

  pub sized_trimmed : (t t2 : List (K × List (K × V))) (o o2 : List (K × V)) → AllByRecursion IsSized t2 → length o2 ≤ 64 → (length o ≡ 0) ⊎ ((16 ≤ length o) ⊎ (t ≡ [])) → (64 < length o → 16 ≤ length o2) → (length o ≤ 64 → (o2 ≡ o) × (t2 ≡ t)) → AreSized (t2 ++ keyed o2)
  sized_trimmed t t2 o o2 all m enough long short = by (cases_lt 64 (length o))
    where
      by : (64 < length o) ⊎ (length o ≤ 64) → AreSized (t2 ++ keyed o2)
      by (inl l) = sized_at_last t2 o2 all m (inr (inl (long l)))
      by (inr l) = let same = short l in sized_at_last t2 o2 all m (rw (same.0, same.1) enough)

  pub cut_all : (s s2 : List (K × List (K × List (K × V)))) (t t2 : List (K × List (K × V))) (p o o2 : List (K × V)) → AreMade s t o → 40 ≤ length o → AreBound s2 t2 → bound_of s2 t2 ≡ bound_of s t ++ keyed p → p ≡ take 24 o → o2 ≡ drop 24 o → record { pairs : parts (bound_of s2 t2) ++ o2 ≡ parts (bound_of s t) ++ o; makes : AreMade s2 t2 o2; left : length o2 + 24 ≡ length o }
  cut_all s s2 t t2 p o o2 is many binds e1 e2 e3 =
      let same : bound_of s2 t2 ≡ bound_of s t ++ keyed (take 24 o) = e1 ∙ ap (λ (l : List (K × V)). bound_of s t ++ keyed l) e2 in
      record {
        pairs = rw (e3, same) (cut_pairs (bound_of s t) o 24);
        makes = rw e3 (cut_made s s2 t t2 o is many binds same);
        left = rw e3 (omega (arith, length-drop 24 o));
      }

  pub take_in_all : (s s2 : List (K × List (K × List (K × V)))) (t t2 : List (K × List (K × V))) (k : K) (p o o2 x y d : List (K × V)) → AreMade s t o → length o < 16 → AreBound s2 t2 → bound_of s t ≡ bound_of s2 t2 ++ (k, p) ∷ [] → o2 ≡ x ++ o → x ≡ d ++ y → d ≡ [] → y ≡ p → record { makes : AreMade s2 t2 o2; enough : 16 ≤ length o2 }
  take_in_all s s2 t t2 k p o o2 x y d is few binds same e1 e2 e3 e4 =
      let whole : o2 ≡ p ++ o = e1 ∙ ap (λ (l : List (K × V)). l ++ o) (e2 ∙ (ap (λ (l : List (K × V)). l ++ y) e3 ∙ e4)) in
      let taken = taken_in s s2 t t2 k p o is few binds same in
      record { makes = rw whole taken.made; enough = rw whole taken.enough }

  pub finish_pairs : (chunks : List (K × List (K × List (K × V)))) (b t : List (K × List (K × V))) (o m : List (K × V)) → parts chunks ≡ b → b ≡ t ++ keyed o → parts t ++ o ≡ m → parts (parts chunks) ≡ m
  finish_pairs chunks b t o m e1 e2 e3 = rw (e1, e2) (parts_add t o ∙ e3)
