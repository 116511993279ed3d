-- Filters of filtered lists.
use Rattle.std.proofs.Common.{◌≡◌, Bool, true, false, ◌&&◌, List, [], ◌∷◌, filter, find, count_by, refl, sym, ap, length, ◌∙◌}
use Rattle.std.proofs.lemmas.List.Sums.{length-filter}

module _ {X : Type 0} (p q : X → Bool) where
  -- what passes p of what passes q passes both
  pub filter-filter : (xs : List X) → filter p (filter q xs) ≡ filter (λ x. q x && p x) xs
  filter-filter [] = refl
  filter-filter (x ∷ xs) = by (filter-filter xs) (q x) (p x) refl refl
    where
      by : filter p (filter q xs) ≡ filter (λ y. q y && p y) xs → (b c : Bool) → q x ≡ b → p x ≡ c → filter p (filter q (x ∷ xs)) ≡ filter (λ y. q y && p y) (x ∷ xs)
      by more true true e f = rw (e, f) (ap (λ (ys : List X). x ∷ ys) more)
      by more true false e f = rw (e, f) more
      by more false c e f = rw e more

  -- the first that passes p of what passes q is the first that passes both
  pub find-filter : (xs : List X) → find p (filter q xs) ≡ find (λ x. q x && p x) xs
  find-filter [] = refl
  find-filter (x ∷ xs) = by (find-filter xs) (q x) (p x) refl refl
    where
      by : find p (filter q xs) ≡ find (λ y. q y && p y) xs → (b c : Bool) → q x ≡ b → p x ≡ c → find p (filter q (x ∷ xs)) ≡ find (λ y. q y && p y) (x ∷ xs)
      by more true true e f = rw (e, f) refl
      by more true false e f = rw (e, f) more
      by more false c e f = rw e more

  -- so many of what passes q pass p as pass both
  pub count_by-filter : (xs : List X) → count_by p (filter q xs) ≡ count_by (λ x. q x && p x) xs
  count_by-filter xs = sym (length-filter p (filter q xs)) ∙ (ap length (filter-filter xs) ∙ length-filter (λ x. q x && p x) xs)
