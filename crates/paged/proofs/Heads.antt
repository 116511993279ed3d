-- Parts put behind others.
use Rattle.std.proofs.Common.{◌≡◌, List, [], ◌∷◌, ◌++◌, Some, None, refl, sym, ap, ◌∙◌, append_assoc}
use Rattle.std.specs.Option.{option_map}
use Rattle.std.specs.List.{AllByRecursion}
use Rattle.std.proofs.lemmas.List.{append-nil}
use Rattle.paged.specs.Pairs.{key_of, first_of}
use Rattle.paged.specs.Parts.{HasHead, parts, keyed}

module _ {X : Type 0} (P : X → Type 0) where
  pub all_join : (xs ys : List X) → AllByRecursion P xs → AllByRecursion P ys → AllByRecursion P (xs ++ ys)
  all_join [] ys a b = b
  all_join (x ∷ xs) ys a b = (a.0, all_join xs ys a.1 b)

  pub all_first : (xs ys : List X) → AllByRecursion P (xs ++ ys) → AllByRecursion P xs
  all_first [] ys a = tt
  all_first (x ∷ xs) ys a = (a.0, all_first xs ys a.1)

  pub all_second : (xs ys : List X) → AllByRecursion P (xs ++ ys) → AllByRecursion P ys
  all_second [] ys a = a
  all_second (x ∷ xs) ys a = all_second xs ys a.1

module _ {K X : Type 0} where
  pub keyed_some : (p : List (K × X)) (k : K) → option_map key_of (first_of p) ≡ Some k → keyed p ≡ (k, p) ∷ []
  keyed_some [] k e = absurd (cc)
  keyed_some (x ∷ xs) k e = let same : x.0 ≡ k = cc in rw same refl

  pub keyed_none : (p : List (K × X)) → option_map key_of (first_of p) ≡ None → keyed p ≡ []
  keyed_none [] e = refl
  keyed_none (x ∷ xs) e = absurd (cc)

  pub keyed_head : (p : List (K × X)) → AllByRecursion HasHead (keyed p)
  keyed_head [] = tt
  keyed_head (x ∷ xs) = (refl, tt)

  pub parts_keyed : (p : List (K × X)) → parts (keyed p) ≡ p
  parts_keyed [] = refl
  parts_keyed (x ∷ xs) = append-nil (x ∷ xs)

  pub parts_join : (s t : List (K × List (K × X))) → parts (s ++ t) ≡ parts s ++ parts t
  parts_join [] t = refl
  parts_join (x ∷ s) t = ap (λ (l : List (K × X)). x.1 ++ l) (parts_join s t) ∙ sym (append_assoc x.1 (parts s) (parts t))

  -- a part put behind others puts what it holds behind what they hold
  pub parts_add : (s : List (K × List (K × X))) (p : List (K × X)) → parts (s ++ keyed p) ≡ parts s ++ p
  parts_add s p = parts_join s (keyed p) ∙ ap (λ (l : List (K × X)). parts s ++ l) (parts_keyed p)

  pub parts_add_one : (s : List (K × List (K × X))) (k : K) (p : List (K × X)) → parts (s ++ (k, p) ∷ []) ≡ parts s ++ p
  parts_add_one s k p = parts_join s ((k, p) ∷ []) ∙ ap (λ (l : List (K × X)). parts s ++ l) (append-nil p)
