-- Lists in the order of a key with the same look-ups are the same.
use Rattle.std.proofs.Common.{◌≡◌, false, List, [], ◌∷◌, Some, None, is_some, if◌then◌else◌, refl, sym, ap, ◌∙◌}
use Rattle.std.specs.Prelude.{unwrap_or}
use Rattle.std.specs.List.{AllByRecursion}
use Rattle.std.specs.declared.cmp.Ordering.{Ordering}
use Rattle.std.specs.declared.cmp.Ordering.TheVariants.{Less, Equal, Greater}
use Rattle.std.specs.Cmp.{IsTotalOrder}
use Rattle.std.specs.Ordering.{is_eq, ordering_reverse}
use Rattle.std.proofs.lemmas.Bool.{true≢false, false≢true}
use Rattle.keyed.specs.Keyed.{Ascends, find}
use Rattle.shop_rows.proofs.Same.{itself_equal}

weaken : {X : Type 0} (P Q : X → Type 0) (xs : List X) → ((x : X) → P x → Q x) → AllByRecursion P xs → AllByRecursion Q xs
weaken P Q [] f all = tt
weaken P Q (x ∷ xs) f all = (f x all.0, weaken P Q xs f all.1)

module _ {K X : Type 0} (cmp : K → K → Ordering) (key : X → K) (order : IsTotalOrder cmp) where
  absent : (q : K) (xs : List X) → AllByRecursion (λ z. cmp q (key z) ≡ Less) xs → find cmp key xs q ≡ None
  absent q [] all = refl
  absent q (x ∷ xs) all = let e : cmp (key x) q ≡ Greater = order.antisymm (key x) q ∙ ap ordering_reverse all.0 in rw e (absent q xs all.1)

  missing_at : (q : K) (x : X) (xs : List X) → cmp q (key x) ≡ Equal → AllByRecursion (λ z. cmp (key x) (key z) ≡ Less) xs → find cmp key xs q ≡ None
  missing_at q x xs e all = absent q xs (weaken (λ z. cmp (key x) (key z) ≡ Less) (λ z. cmp q (key z) ≡ Less) xs (λ z l. order.congr q (key x) (key z) e ∙ l) all)

  missing_below : (q : K) (x : X) (xs : List X) → cmp q (key x) ≡ Less → AllByRecursion (λ z. cmp (key x) (key z) ≡ Less) xs → find cmp key (x ∷ xs) q ≡ None
  missing_below q x xs l all = absent q (x ∷ xs) (l, weaken (λ z. cmp (key x) (key z) ≡ Less) (λ z. cmp q (key z) ≡ Less) xs (λ z m. order.trans q (key x) (key z) l m) all)

  found_first : (x : X) (xs : List X) → find cmp key (x ∷ xs) (key x) ≡ Some x
  found_first x xs = rw (itself_equal cmp order (key x)) refl

  pub same_from_find : (xs ys : List X) → Ascends cmp key xs → Ascends cmp key ys → ((q : K) → find cmp key xs q ≡ find cmp key ys q) → xs ≡ ys
  same_from_find [] [] up on h = refl
  same_from_find [] (y ∷ ys) up on h = absurd (false≢true (ap is_some (h (key y) ∙ found_first y ys)))
  same_from_find (x ∷ xs) [] up on h = absurd (false≢true (ap is_some (sym (h (key x)) ∙ found_first x xs)))
  same_from_find (x ∷ xs) (y ∷ ys) up on h = by (λ g. same_from_find xs ys up.1 on.1 g) (cmp (key x) (key y)) refl
    where
      tails : cmp (key x) (key y) ≡ Equal → (q : K) → find cmp key xs q ≡ find cmp key ys q
      tails e q = at (cmp (key x) q) refl
        where
          pass : (o p : Ordering) → is_eq o ≡ false → p ≡ o → (if is_eq o then Some x else find cmp key xs q) ≡ (if is_eq p then Some y else find cmp key ys q) → find cmp key xs q ≡ find cmp key ys q
          pass Less p n f g = (rw f at g)
          pass Equal p n f g = absurd (true≢false n)
          pass Greater p n f g = (rw f at g)

          at : (o : Ordering) → cmp (key x) q ≡ o → find cmp key xs q ≡ find cmp key ys q
          at Less f = pass (cmp (key x) q) (cmp (key y) q) (ap is_eq f) (sym (order.congr (key x) (key y) q e)) (h q)
          at Greater f = pass (cmp (key x) q) (cmp (key y) q) (ap is_eq f) (sym (order.congr (key x) (key y) q e)) (h q)
          at Equal f =
              let b : cmp q (key x) ≡ Equal = order.antisymm q (key x) ∙ ap ordering_reverse f in
              let c : cmp q (key y) ≡ Equal = order.antisymm q (key y) ∙ ap ordering_reverse (sym (order.congr (key x) (key y) q e) ∙ f) in
              missing_at q x xs b up.0 ∙ sym (missing_at q y ys c on.0)

      heads : cmp (key x) (key y) ≡ Equal → x ≡ y
      heads e =
          let b : cmp (key y) (key x) ≡ Equal = order.antisymm (key y) (key x) ∙ ap ordering_reverse e in
          let f : find cmp key (y ∷ ys) (key x) ≡ Some y = rw b refl in
          ap (λ o. unwrap_or o x) (sym (found_first x xs) ∙ (h (key x) ∙ f))

      by : (((q : K) → find cmp key xs q ≡ find cmp key ys q) → xs ≡ ys) → (o : Ordering) → cmp (key x) (key y) ≡ o → x ∷ xs ≡ y ∷ ys
      by more Equal e = rw (heads e, more (tails e)) refl
      by more Less e = absurd (false≢true (ap is_some (sym (missing_below (key x) y ys e on.0) ∙ (sym (h (key x)) ∙ found_first x xs))))
      by more Greater e = absurd (false≢true (ap is_some (sym (missing_below (key y) x xs (order.antisymm (key y) (key x) ∙ ap ordering_reverse e) up.0) ∙ (h (key y) ∙ found_first y ys))))
