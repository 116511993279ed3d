-- What a list in key order is like after a put or a removal.
use Rattle.std.proofs.Common.{false, true≢false, None, ◌≡◌, List, [], ◌∷◌, Some, if◌then◌else◌, refl, sym, ap, ◌∙◌}
use Rattle.std.specs.declared.cmp.Ordering.{Ordering}
use Rattle.std.specs.declared.cmp.Ordering.TheVariants.{Less, Equal, Greater}
use Rattle.std.specs.Cmp.{IsTotalOrder}
use Rattle.std.specs.Ordering.{is_eq, ordering_reverse}
use Rattle.std.specs.List.{AllByRecursion}
use Rattle.keyed.specs.Keyed.{Ascends, find, put, without}

module _ {K X : Type 0} (cmp : K → K → Ordering) (key : X → K) (order : IsTotalOrder cmp) where
  -- what holds of each element and of y holds of each after a put of y
  all_put : (P : X → Type 0) (xs : List X) (y : X) → AllByRecursion P xs → P y → AllByRecursion P (put cmp key xs y)
  all_put P [] y all p = (p, tt)
  all_put P (x ∷ xs) y all p = by (all_put P xs y all.1 p) (cmp (key x) (key y)) refl
    where
      by : AllByRecursion P (put cmp key xs y) → (o : Ordering) → cmp (key x) (key y) ≡ o → AllByRecursion P (put cmp key (x ∷ xs) y)
      by more Less e = rw e (all.0, more)
      by more Equal e = rw e (p, all.1)
      by more Greater e = rw e (p, (all.0, all.1))

  -- what holds of each element holds of each that a removal leaves
  all_without : (P : X → Type 0) (xs : List X) (q : K) → AllByRecursion P xs → AllByRecursion P (without cmp key xs q)
  all_without P [] q all = tt
  all_without P (x ∷ xs) q all = by (all_without P xs q all.1) (cmp (key x) q) refl
    where
      by : AllByRecursion P (without cmp key xs q) → (o : Ordering) → cmp (key x) q ≡ o → AllByRecursion P (without cmp key (x ∷ xs) q)
      by more Less e = rw e (all.0, more)
      by more Equal e = rw e all.1
      by more Greater e = rw e (all.0, more)

  -- what holds of each element may be weakened
  all_weaken : (P Q : X → Type 0) (xs : List X) → ((x : X) → P x → Q x) → AllByRecursion P xs → AllByRecursion Q xs
  all_weaken P Q [] f all = tt
  all_weaken P Q (x ∷ xs) f all = (f x all.0, all_weaken P Q xs f all.1)

  -- a key is below what an equal key is below
  less_as : (a b c : K) → cmp a b ≡ Equal → cmp a c ≡ Less → cmp b c ≡ Less
  less_as a b c e l = sym (order.congr a b c e) ∙ l

  -- a greater key seen from the other side
  flip_greater : (a b : K) → cmp a b ≡ Greater → cmp b a ≡ Less
  flip_greater a b g = order.antisymm b a ∙ ap ordering_reverse g

  -- a put keeps the key order
  pub ascends_put : (xs : List X) (y : X) → Ascends cmp key xs → Ascends cmp key (put cmp key xs y)
  ascends_put [] y up = (tt, tt)
  ascends_put (x ∷ xs) y up = by (ascends_put xs y up.1) (cmp (key x) (key y)) refl
    where
      by : Ascends cmp key (put cmp key xs y) → (o : Ordering) → cmp (key x) (key y) ≡ o → Ascends cmp key (put cmp key (x ∷ xs) y)
      by more Less e = rw e (all_put (λ z. cmp (key x) (key z) ≡ Less) xs y up.0 e, more)
      by more Equal e = rw e (all_weaken (λ z. cmp (key x) (key z) ≡ Less) (λ z. cmp (key y) (key z) ≡ Less) xs (λ z l. less_as _ _ _ e l) up.0, up.1)
      by more Greater e = rw e ((flip_greater _ _ e, all_weaken (λ z. cmp (key x) (key z) ≡ Less) (λ z. cmp (key y) (key z) ≡ Less) xs (λ z l. order.trans _ _ _ (flip_greater _ _ e) l) up.0), (up.0, up.1))

  -- a removal keeps the key order
  pub ascends_without : (xs : List X) (q : K) → Ascends cmp key xs → Ascends cmp key (without cmp key xs q)
  ascends_without [] q up = tt
  ascends_without (x ∷ xs) q up = by (ascends_without xs q up.1) (cmp (key x) q) refl
    where
      by : Ascends cmp key (without cmp key xs q) → (o : Ordering) → cmp (key x) q ≡ o → Ascends cmp key (without cmp key (x ∷ xs) q)
      by more Less e = rw e (all_without (λ z. cmp (key x) (key z) ≡ Less) xs q up.0, more)
      by more Equal e = rw e up.1
      by more Greater e = rw e (all_without (λ z. cmp (key x) (key z) ≡ Less) xs q up.0, more)

  -- what is found after a put: y at its key, and at any other key what was found before
  pub find_put : (xs : List X) (y : X) (q : K) → find cmp key (put cmp key xs y) q ≡ (if is_eq (cmp (key y) q) then Some y else find cmp key xs q)
  find_put [] y q = refl
  find_put (x ∷ xs) y q = by (find_put xs y q) (cmp (key x) (key y)) refl
    where
      other : find cmp key (put cmp key xs y) q ≡ (if is_eq (cmp (key y) q) then Some y else find cmp key xs q) → (o : Ordering) → cmp (key x) (key y) ≡ Less → cmp (key x) q ≡ o → find cmp key (x ∷ put cmp key xs y) q ≡ (if is_eq (cmp (key y) q) then Some y else find cmp key (x ∷ xs) q)
      other more Less e f = rw f more
      other more Equal e f = let g : cmp (key y) q ≡ Greater = order.antisymm (key y) q ∙ ap ordering_reverse (sym (order.congr (key x) q (key y) f) ∙ e) in rw (f, g) refl
      other more Greater e f = rw f more

      ends : (o : Ordering) → (if is_eq o then Some y else find cmp key xs q) ≡ (if is_eq o then Some y else (if is_eq o then Some x else find cmp key xs q))
      ends Less = refl
      ends Equal = refl
      ends Greater = refl

      by : find cmp key (put cmp key xs y) q ≡ (if is_eq (cmp (key y) q) then Some y else find cmp key xs q) → (o : Ordering) → cmp (key x) (key y) ≡ o → find cmp key (put cmp key (x ∷ xs) y) q ≡ (if is_eq (cmp (key y) q) then Some y else find cmp key (x ∷ xs) q)
      by more Less e = rw e (other more (cmp (key x) q) e refl)
      by more Equal e = rw (e, order.congr (key x) (key y) q e) (ends (cmp (key y) q))
      by more Greater e = rw e refl

  -- a key that equals one below all elements is not among them
  find_above : (xs : List X) (a q : K) → AllByRecursion (λ z. cmp a (key z) ≡ Less) xs → cmp a q ≡ Equal → find cmp key xs q ≡ None
  find_above [] a q above e = refl
  find_above (x ∷ xs) a q above e =
      let greater : cmp (key x) q ≡ Greater = order.antisymm (key x) q ∙ ap ordering_reverse (less_as a q (key x) e above.0) in
      rw greater (find_above xs a q above.1 e)

  -- what is found after a removal: nothing at its key, and at any other key what was found before
  pub find_without : (xs : List X) (q r : K) → Ascends cmp key xs → find cmp key (without cmp key xs q) r ≡ (if is_eq (cmp q r) then None else find cmp key xs r)
  find_without [] q r up = none_twice (cmp q r)
    where
      none_twice : (o : Ordering) → find cmp key [] r ≡ (if is_eq o then None else find cmp key [] r)
      none_twice Less = refl
      none_twice Equal = refl
      none_twice Greater = refl
  find_without (x ∷ xs) q r up = by (find_without xs q r up.1) (cmp (key x) q) refl
    where
      taken : cmp (key x) q ≡ Equal → (o : Ordering) → cmp q r ≡ o → find cmp key xs r ≡ (if is_eq (cmp q r) then None else find cmp key (x ∷ xs) r)
      taken e Less f = rw (f, order.congr (key x) q r e ∙ f) refl
      taken e Equal f = rw f (find_above xs (key x) r up.0 (order.congr (key x) q r e ∙ f))
      taken e Greater f = rw (f, order.congr (key x) q r e ∙ f) refl

      apart : (o : Ordering) → cmp (key x) r ≡ Equal → cmp (key x) q ≡ o → is_eq o ≡ false → is_eq (cmp q r) ≡ false
      apart Less f e differs = rw (order.antisymm q r ∙ ap ordering_reverse (sym (order.congr (key x) r q f) ∙ e)) refl
      apart Equal f e differs = absurd (true≢false differs)
      apart Greater f e differs = rw (order.antisymm q r ∙ ap ordering_reverse (sym (order.congr (key x) r q f) ∙ e)) refl

      kept : find cmp key (without cmp key xs q) r ≡ (if is_eq (cmp q r) then None else find cmp key xs r) → is_eq (cmp (key x) q) ≡ false → (o : Ordering) → cmp (key x) r ≡ o → find cmp key (x ∷ without cmp key xs q) r ≡ (if is_eq (cmp q r) then None else find cmp key (x ∷ xs) r)
      kept more differs Less f = rw f more
      kept more differs Equal f = rw (f, apart (cmp (key x) q) f refl differs) refl
      kept more differs Greater f = rw f more

      by : find cmp key (without cmp key xs q) r ≡ (if is_eq (cmp q r) then None else find cmp key xs r) → (o : Ordering) → cmp (key x) q ≡ o → find cmp key (without cmp key (x ∷ xs) q) r ≡ (if is_eq (cmp q r) then None else find cmp key (x ∷ xs) r)
      by more Less e = rw e (kept more (rw e refl) (cmp (key x) r) refl)
      by more Equal e = rw e (taken e (cmp q r) refl)
      by more Greater e = rw e (kept more (rw e refl) (cmp (key x) r) refl)
