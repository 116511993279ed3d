-- Lists in the order of a key: parts of them, and what is put to them.
use Rattle.std.proofs.Common.{◌≡◌, Bool, true, false, not, List, [], ◌∷◌, refl, sym, ap, ◌∙◌}
use Rattle.std.specs.Prelude.{filter}
use Rattle.std.specs.List.{fold, AllByRecursion}
use Rattle.std.specs.declared.cmp.Ordering.{Ordering}
use Rattle.std.specs.declared.cmp.Ordering.TheVariants.{Less, Equal, Greater}
use Rattle.std.specs.Cmp.{IsTotalOrder}
use Rattle.std.specs.Ordering.{ordering_reverse}
use Rattle.keyed.specs.Keyed.{Ascends, put}
use Rattle.keyed.proofs.Changes.{ascends_put}

-- what holds of each element holds of each that a filter keeps
pub all_filter : {X : Type 0} (P : X → Type 0) (p : X → Bool) (xs : List X) → AllByRecursion P xs → AllByRecursion P (filter p xs)
all_filter P p [] all = tt
all_filter {X} P p (x ∷ xs) all = by (all_filter P p xs all.1) (p x) refl
  where
    by : AllByRecursion P (filter p xs) → (b : Bool) → p x ≡ b → AllByRecursion P (filter p (x ∷ xs))
    by more true e = rw e (all.0, more)
    by more false e = rw e more

-- a filter that each element passes keeps all
pub filter_all : {X : Type 0} (p : X → Bool) (xs : List X) → AllByRecursion (λ x. p x ≡ true) xs → filter p xs ≡ xs
filter_all p [] all = refl
filter_all p (x ∷ xs) all = rw all.0 (ap (λ ys. x ∷ ys) (filter_all p xs all.1))

-- and one that none passes keeps none
pub filter_none : {X : Type 0} (p : X → Bool) (xs : List X) → AllByRecursion (λ x. p x ≡ false) xs → filter p xs ≡ []
filter_none p [] all = refl
filter_none p (x ∷ xs) all = rw all.0 (filter_none p xs all.1)

module _ {K X : Type 0} (cmp : K → K → Ordering) (key : X → K) (order : IsTotalOrder cmp) where
  abbrev AllAbove : K → List X → Type 0
  AllAbove k xs = AllByRecursion (λ x. cmp k (key x) ≡ Less) xs

  -- below all others it is put first
  put_first : (xs : List X) (y : X) → AllAbove (key y) xs → put cmp key xs y ≡ y ∷ xs
  put_first [] y all = refl
  put_first (x ∷ xs) y all = let e : cmp (key x) (key y) ≡ Greater = order.antisymm (key x) (key y) ∙ ap ordering_reverse all.0 in rw e refl

  above_equal : (x y : X) (xs : List X) → cmp (key x) (key y) ≡ Equal → AllAbove (key x) xs → AllAbove (key y) xs
  above_equal x y [] e all = tt
  above_equal x y (z ∷ xs) e all = (sym (order.congr (key x) (key y) (key z) e) ∙ all.0, above_equal x y xs e all.1)

  above_less : (x y : X) (xs : List X) → cmp (key y) (key x) ≡ Less → AllAbove (key x) xs → AllAbove (key y) xs
  above_less x y [] e all = tt
  above_less x y (z ∷ xs) e all = (order.trans (key y) (key x) (key z) e all.0, above_less x y xs e all.1)

  -- what passes may be put before the filter or after it
  filter_put_pass : (p : X → Bool) (xs : List X) (y : X) → Ascends cmp key xs → p y ≡ true → filter p (put cmp key xs y) ≡ put cmp key (filter p xs) y
  filter_put_pass p [] y up e = rw e refl
  filter_put_pass p (x ∷ xs) y up e = by (filter_put_pass p xs y up.1 e) (p x) refl (cmp (key x) (key y)) refl
    where
      first : AllAbove (key y) xs → put cmp key (filter p xs) y ≡ y ∷ filter p xs
      first all = put_first (filter p xs) y (all_filter (λ z. cmp (key y) (key z) ≡ Less) p xs all)

      by : filter p (put cmp key xs y) ≡ put cmp key (filter p xs) y → (b : Bool) → p x ≡ b → (o : Ordering) → cmp (key x) (key y) ≡ o → filter p (put cmp key (x ∷ xs) y) ≡ put cmp key (filter p (x ∷ xs)) y
      by more true f Less g = rw (g, f, g) (ap (λ ys. x ∷ ys) more)
      by more true f Equal g = rw (g, e, f, g) refl
      by more true f Greater g = rw (g, e, f, g) refl
      by more false f Less g = rw (g, f) more
      by more false f Equal g = rw (g, e, f) (sym (first (above_equal x y xs g up.0)))
      by more false f Greater g = rw (g, e, f) (sym (first (above_less x y xs (order.antisymm (key y) (key x) ∙ ap ordering_reverse g) up.0)))

  pub filter_puts_pass : (p : X → Bool) (ys xs : List X) → Ascends cmp key xs → AllByRecursion (λ y. p y ≡ true) ys → filter p (fold (put cmp key) xs ys) ≡ fold (put cmp key) (filter p xs) ys
  filter_puts_pass p [] xs up all = refl
  filter_puts_pass p (y ∷ ys) xs up all = filter_puts_pass p ys (put cmp key xs y) (ascends_put cmp key order xs y up) all.1 ∙ ap (λ zs. fold (put cmp key) zs ys) (filter_put_pass p xs y up all.0)

  -- puts keep the order
  pub ascends_puts : (ys xs : List X) → Ascends cmp key xs → Ascends cmp key (fold (put cmp key) xs ys)
  ascends_puts [] xs up = up
  ascends_puts (y ∷ ys) xs up = ascends_puts ys (put cmp key xs y) (ascends_put cmp key order xs y up)

  -- a head below all that is put stays the head
  head_stays : (x : X) (ys xs : List X) → AllAbove (key x) ys → fold (put cmp key) (x ∷ xs) ys ≡ x ∷ fold (put cmp key) xs ys
  head_stays x [] xs all = refl
  head_stays x (y ∷ ys) xs all = rw all.0 (head_stays x ys (put cmp key xs y) all.1)

  -- a list in order is its elements, put one after the other
  pub puts_of_all : (ys : List X) → Ascends cmp key ys → fold (put cmp key) [] ys ≡ ys
  puts_of_all [] up = refl
  puts_of_all (y ∷ ys) up = head_stays y ys [] up.0 ∙ ap (λ zs. y ∷ zs) (puts_of_all ys up.1)

  -- and its two parts, put together
  pub parts_together : (p : X → Bool) (xs : List X) → Ascends cmp key xs → fold (put cmp key) (filter (λ x. not (p x)) xs) (filter p xs) ≡ xs
  parts_together p [] up = refl
  parts_together p (x ∷ xs) up = by (parts_together p xs up.1) (p x) refl
    where
      stays : fold (put cmp key) (filter (λ x. not (p x)) xs) (filter p xs) ≡ xs → fold (put cmp key) (x ∷ filter (λ x. not (p x)) xs) (filter p xs) ≡ x ∷ xs
      stays more = head_stays x (filter p xs) (filter (λ x. not (p x)) xs) (all_filter (λ z. cmp (key x) (key z) ≡ Less) p xs up.0) ∙ ap (λ zs. x ∷ zs) more

      by : fold (put cmp key) (filter (λ x. not (p x)) xs) (filter p xs) ≡ xs → (b : Bool) → p x ≡ b → fold (put cmp key) (filter (λ x. not (p x)) (x ∷ xs)) (filter p (x ∷ xs)) ≡ x ∷ xs
      by more true e = rw e (ap (λ zs. fold (put cmp key) zs (filter p xs)) (put_first (filter (λ x. not (p x)) xs) x (all_filter (λ z. cmp (key x) (key z) ≡ Less) (λ x. not (p x)) xs up.0)) ∙ stays more)
      by more false e = rw e (stays more)
