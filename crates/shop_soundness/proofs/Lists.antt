-- What is in a list after a put, what a search finds, and how many elements pass a test.
use Rattle.std.proofs.Common.{◌≡◌, ◌+◌, ◌≤◌, Bool, true, false, cond, ◌||◌, ◌⊎◌, inl, inr, List, [], ◌∷◌, refl, sym, ap, subst, ◌∙◌, Some, None, arith}
use Rattle.std.specs.Prelude.{not, filter, map, find, is_some, unwrap_or, count_by}
use Rattle.std.specs.List.{AllByRecursion}
use Rattle.std.specs.declared.cmp.Ordering.{Ordering}
use Rattle.std.specs.declared.cmp.Ordering.TheVariants.{Less, Equal, Greater}
use Rattle.std.specs.Ordering.{match_ordering}
use Rattle.std.proofs.lemmas.Bool.{false≢true, both_ways}
use Rattle.std.proofs.lemmas.List.Sums.{sum_by-cons}
use Rattle.keyed.specs.Keyed.{put}
use Rattle.closure.specs.Closure.{IsIn}

pub no_some : {A : Type 0} (x : A) → None ≡ Some x → ⊥
no_some x e = false≢true (ap is_some e)

-- how many pass of a list with one element more
count_cons : {X : Type 0} (p : X → Bool) (x : X) (xs : List X) → count_by p (x ∷ xs) ≡ cond (p x) 1 0 + count_by p xs
count_cons p x xs = sum_by-cons (λ y. cond (p y) 1 0) x xs

count_yes : {X : Type 0} (p : X → Bool) (x : X) (xs : List X) → p x ≡ true → count_by p (x ∷ xs) ≡ 1 + count_by p xs
count_yes p x xs e = count_cons p x xs ∙ rw e refl

count_no : {X : Type 0} (p : X → Bool) (x : X) (xs : List X) → p x ≡ false → count_by p (x ∷ xs) ≡ count_by p xs
count_no p x xs e = count_cons p x xs ∙ (rw e (omega arith))

-- what holds of each element holds of one
pub of_each : {X : Type 0} (P : X → Type 0) (xs : List X) (x : X) → AllByRecursion P xs → IsIn x xs → P x
of_each P [] x all i = absurd i
of_each P (first ∷ rest) x all (inl e) = subst P e all.0
of_each P (first ∷ rest) x all (inr i) = of_each P rest x all.1 i

pub each_of : {X : Type 0} (P : X → Type 0) (xs : List X) → ((x : X) → IsIn x xs → P x) → AllByRecursion P xs
each_of P [] all = tt
each_of P (x ∷ xs) all = (all x (inl refl), each_of P xs (λ y i. all y (inr i)))

-- a test that is asked only where another passes
pub or_not : (a b : Bool) → (a ≡ true → b ≡ true) → (not a || b) ≡ true
or_not true b f = f refl
or_not false b f = refl

module _ {K X : Type 0} (cmp : K → K → Ordering) (key : X → K) where
  pub put_has : (xs : List X) (y : X) → IsIn y (put cmp key xs y)
  put_has [] y = inl refl
  put_has (x ∷ xs) y = by (put_has xs y) (cmp (key x) (key y))
    where
      by : IsIn y (put cmp key xs y) → (o : Ordering) → IsIn y (match_ordering o (x ∷ put cmp key xs y) (y ∷ xs) (y ∷ x ∷ xs))
      by more Less = inr more
      by more Equal = inl refl
      by more Greater = inl refl

  -- an element stays, unless it stands at the key
  pub put_keeps : (xs : List X) (y x : X) → IsIn x xs → IsIn x (put cmp key xs y) ⊎ (cmp (key x) (key y) ≡ Equal)
  put_keeps [] y x i = absurd i
  put_keeps (z ∷ xs) y x i = by (put_keeps xs y x) (cmp (key z) (key y)) refl i
    where
      onward : IsIn x (put cmp key xs y) ⊎ (cmp (key x) (key y) ≡ Equal) → IsIn x (z ∷ put cmp key xs y) ⊎ (cmp (key x) (key y) ≡ Equal)
      onward (inl j) = inl (inr j)
      onward (inr e) = inr e

      by : (IsIn x xs → IsIn x (put cmp key xs y) ⊎ (cmp (key x) (key y) ≡ Equal)) → (o : Ordering) → cmp (key z) (key y) ≡ o → (z ≡ x) ⊎ IsIn x xs → IsIn x (match_ordering o (z ∷ put cmp key xs y) (y ∷ xs) (y ∷ z ∷ xs)) ⊎ (cmp (key x) (key y) ≡ Equal)
      by more Less e (inl s) = inl (inl s)
      by more Less e (inr j) = onward (more j)
      by more Equal e (inl s) = inr (subst (λ w. cmp (key w) (key y) ≡ Equal) s e)
      by more Equal e (inr j) = inl (inr j)
      by more Greater e (inl s) = inl (inr (inl s))
      by more Greater e (inr j) = inl (inr (inr j))

  -- what is in it afterwards was, or is the new one
  pub put_of : (xs : List X) (y x : X) → IsIn x (put cmp key xs y) → (y ≡ x) ⊎ IsIn x xs
  put_of [] y x (inl e) = inl e
  put_of [] y x (inr i) = absurd i
  put_of (z ∷ xs) y x i = by (put_of xs y x) (cmp (key z) (key y)) i
    where
      onward : (y ≡ x) ⊎ IsIn x xs → (y ≡ x) ⊎ ((z ≡ x) ⊎ IsIn x xs)
      onward (inl e) = inl e
      onward (inr j) = inr (inr j)

      by : (IsIn x (put cmp key xs y) → (y ≡ x) ⊎ IsIn x xs) → (o : Ordering) → IsIn x (match_ordering o (z ∷ put cmp key xs y) (y ∷ xs) (y ∷ z ∷ xs)) → (y ≡ x) ⊎ ((z ≡ x) ⊎ IsIn x xs)
      by more Less (inl s) = inr (inl s)
      by more Less (inr j) = onward (more j)
      by more Equal (inl s) = inl s
      by more Equal (inr j) = inr (inr j)
      by more Greater (inl s) = inl s
      by more Greater (inr j) = inr j

  -- an element that doesn't pass makes no more of them pass
  pub put_count : (p : X → Bool) (xs : List X) (y : X) → p y ≡ false → count_by p (put cmp key xs y) ≤ count_by p xs
  put_count p [] y h = let none : count_by p (y ∷ []) ≡ count_by p [] = count_no p y [] h in omega arith
  put_count p (x ∷ xs) y h = by (put_count p xs y h) (cmp (key x) (key y))
    where
      by : count_by p (put cmp key xs y) ≤ count_by p xs → (o : Ordering) → count_by p (match_ordering o (x ∷ put cmp key xs y) (y ∷ xs) (y ∷ x ∷ xs)) ≤ count_by p (x ∷ xs)
      by more Less =
          let after : count_by p (x ∷ put cmp key xs y) ≡ cond (p x) 1 0 + count_by p (put cmp key xs y) = count_cons p x (put cmp key xs y) in
          let before : count_by p (x ∷ xs) ≡ cond (p x) 1 0 + count_by p xs = count_cons p x xs in
          omega arith
      by more Equal =
          let after : count_by p (y ∷ xs) ≡ count_by p xs = count_no p y xs h in
          let before : count_by p (x ∷ xs) ≡ cond (p x) 1 0 + count_by p xs = count_cons p x xs in
          omega arith
      by more Greater =
          let after : count_by p (y ∷ x ∷ xs) ≡ count_by p (x ∷ xs) = count_no p y (x ∷ xs) h in
          omega arith

  -- a search of what neither the new element nor one at its key passes finds what it found
  pub put_find : (p : X → Bool) (xs : List X) (y : X) → p y ≡ false → ((x : X) → cmp (key x) (key y) ≡ Equal → p x ≡ false) → find p (put cmp key xs y) ≡ find p xs
  put_find p [] y h g = rw h refl
  put_find p (x ∷ xs) y h g = by (put_find p xs y h g) (cmp (key x) (key y)) refl
    where
      by : find p (put cmp key xs y) ≡ find p xs → (o : Ordering) → cmp (key x) (key y) ≡ o → find p (put cmp key (x ∷ xs) y) ≡ find p (x ∷ xs)
      by more Less e = rw (e, more) refl
      by more Equal e = rw (e, h, g x e) refl
      by more Greater e = rw (e, h) refl

pub record FoundOne {X : Type 0} (p : X → Bool) (xs : List X) (x : X) : Type 0 where
  pub is_in : IsIn x xs
  pub passes : p x ≡ true

-- what a search finds is in the list, and passes
pub find_of : {X : Type 0} (p : X → Bool) (xs : List X) (x : X) → find p xs ≡ Some x → FoundOne p xs x
find_of p [] x e = absurd (false≢true (ap is_some e))
find_of {X} p (y ∷ xs) x e = by (find_of p xs x) (p y) refl e
  where
    by : (find p xs ≡ Some x → FoundOne p xs x) → (b : Bool) → p y ≡ b → cond b (Some y) (find p xs) ≡ Some x → FoundOne p (y ∷ xs) x
    by more true f g = let same : y ≡ x = ap (λ o. unwrap_or o y) g in record { is_in = inl same; passes = ap p (sym same) ∙ f }
    by more false f g = let r = more g in record { is_in = inr r.is_in; passes = r.passes }

-- where an element passes, a search finds one
pub finds : {X : Type 0} (p : X → Bool) (xs : List X) (x : X) → IsIn x xs → p x ≡ true → record { one : X; found : find p xs ≡ Some one }
finds p [] x i h = absurd i
finds {X} p (y ∷ xs) x i h = by (finds p xs x) (p y) refl i
  where
    by : (IsIn x xs → p x ≡ true → record { one : X; found : find p xs ≡ Some one }) → (b : Bool) → p y ≡ b → (y ≡ x) ⊎ IsIn x xs → record { one : X; found : cond b (Some y) (find p xs) ≡ Some one }
    by more true e j = record { one = y; found = refl }
    by more false e (inl s) = absurd (both_ways (p x) (ap p (sym s) ∙ e) h)
    by more false e (inr j) = more j h

-- where a test passes all that another does, as many or more elements pass it
pub count_under : {X : Type 0} (p q : X → Bool) (xs : List X) → ((x : X) → IsIn x xs → p x ≡ true → q x ≡ true) → count_by p xs ≤ count_by q xs
count_under p q [] h = omega arith
count_under p q (x ∷ xs) h = by (count_under p q xs (λ y i. h y (inr i))) (p x) refl (q x) refl
  where
    by : count_by p xs ≤ count_by q xs → (b : Bool) → p x ≡ b → (c : Bool) → q x ≡ c → count_by p (x ∷ xs) ≤ count_by q (x ∷ xs)
    by more true e true f = let one : count_by p (x ∷ xs) ≡ 1 + count_by p xs = count_yes p x xs e in let other : count_by q (x ∷ xs) ≡ 1 + count_by q xs = count_yes q x xs f in omega arith
    by more false e true f = let one : count_by p (x ∷ xs) ≡ count_by p xs = count_no p x xs e in let other : count_by q (x ∷ xs) ≡ 1 + count_by q xs = count_yes q x xs f in omega arith
    by more false e false f = let one : count_by p (x ∷ xs) ≡ count_by p xs = count_no p x xs e in let other : count_by q (x ∷ xs) ≡ count_by q xs = count_no q x xs f in omega arith
    by more true e false f = absurd (both_ways (q x) f (h x (inl refl) e))

-- no more elements pass a test in what a filter leaves
pub count_filter : {X : Type 0} (p keeps : X → Bool) (xs : List X) → count_by p (filter keeps xs) ≤ count_by p xs
count_filter p keeps [] = omega arith
count_filter p keeps (x ∷ xs) = by (count_filter p keeps xs) (keeps x)
  where
    by : count_by p (filter keeps xs) ≤ count_by p xs → (b : Bool) → count_by p (cond b (x ∷ filter keeps xs) (filter keeps xs)) ≤ count_by p (x ∷ xs)
    by more true =
        let after : count_by p (x ∷ filter keeps xs) ≡ cond (p x) 1 0 + count_by p (filter keeps xs) = count_cons p x (filter keeps xs) in
        let before : count_by p (x ∷ xs) ≡ cond (p x) 1 0 + count_by p xs = count_cons p x xs in
        omega arith
    by more false =
        let before : count_by p (x ∷ xs) ≡ cond (p x) 1 0 + count_by p xs = count_cons p x xs in
        omega arith

-- a test of what a map gives is one of each element
pub count_map : {X Y : Type 0} (f : X → Y) (p : Y → Bool) (xs : List X) → count_by p (map f xs) ≡ count_by (λ x. p (f x)) xs
count_map f p [] = refl
count_map f p (x ∷ xs) = count_cons p (f x) (map f xs) ∙ (ap (λ n. cond (p (f x)) 1 0 + n) (count_map f p xs) ∙ sym (count_cons (λ y. p (f y)) x xs))

-- ---- lists of which a part stays

-- a filter that all elements pass leaves them all
pub filter_all : {X : Type 0} (p : X → Bool) (xs : List X) → ((x : X) → IsIn x xs → p x ≡ true) → filter p xs ≡ xs
filter_all p [] all = refl
filter_all p (x ∷ xs) all = rw (all x (inl refl)) (ap (λ ys. x ∷ ys) (filter_all p xs (λ y i. all y (inr i))))

-- a put of an element that doesn't pass, in place of one that doesn't, leaves those that pass
pub put_filter : {K X : Type 0} (cmp : K → K → Ordering) (key : X → K) (p : X → Bool) (xs : List X) (y : X) → p y ≡ false → ((x : X) → cmp (key x) (key y) ≡ Equal → p x ≡ false) → filter p (put cmp key xs y) ≡ filter p xs
put_filter cmp key p [] y h g = rw h refl
put_filter {K} {X} cmp key p (x ∷ xs) y h g = by (put_filter cmp key p xs y h g) (cmp (key x) (key y)) refl
  where
    by : filter p (put cmp key xs y) ≡ filter p xs → (o : Ordering) → cmp (key x) (key y) ≡ o → filter p (match_ordering o (x ∷ put cmp key xs y) (y ∷ xs) (y ∷ x ∷ xs)) ≡ filter p (x ∷ xs)
    by more Less e = ap (cond (p x) (x ∷ filter p (put cmp key xs y))) more ∙ ap (λ ys. cond (p x) (x ∷ ys) (filter p xs)) more
    by more Equal e = rw (h, g x e) refl
    by more Greater e = rw h refl

-- what is kept and changed leaves those that pass, where none of them goes or changes
pub kept_filter : {X : Type 0} (p keeps : X → Bool) (f : X → X) (xs : List X) → ((x : X) → p (f x) ≡ p x) → ((x : X) → IsIn x xs → p x ≡ true → (keeps x ≡ true) × (f x ≡ x)) → filter p (map f (filter keeps xs)) ≡ filter p xs
kept_filter p keeps f [] same stay = refl
kept_filter {X} p keeps f (x ∷ xs) same stay = by (kept_filter p keeps f xs same (λ y i. stay y (inr i))) (p x) refl (keeps x) refl
  where
    by : filter p (map f (filter keeps xs)) ≡ filter p xs → (b : Bool) → p x ≡ b → (c : Bool) → keeps x ≡ c → filter p (map f (cond c (x ∷ filter keeps xs) (filter keeps xs))) ≡ cond b (x ∷ filter p xs) (filter p xs)
    by more true e true k = rw (same x, e) (ap (λ y. y ∷ filter p (map f (filter keeps xs))) (stay x (inl refl) e).1 ∙ ap (λ ys. x ∷ ys) more)
    by more true e false k = absurd (both_ways (keeps x) k (stay x (inl refl) e).0)
    by more false e true k = rw (same x, e) more
    by more false e false k = more
