-- Lists in order with the same elements are the same.
use Rattle.std.proofs.Common.{◌≡◌, Bool, true, false, ◌||◌, ◌⊎◌, inl, inr, List, [], ◌∷◌, refl, sym, ap, subst, ◌∙◌}
use Rattle.std.specs.declared.cmp.Ordering.{Ordering}
use Rattle.std.specs.declared.cmp.Ordering.TheVariants.{Less, Equal, Greater}
use Rattle.std.specs.Cmp.{IsTotalOrder}
use Rattle.std.specs.Ordering.{is_eq, ordering_reverse}
use Rattle.std.specs.List.{AllByRecursion, list_any}
use Rattle.keyed.specs.Keyed.{Ascends}
use Rattle.shop_rows.proofs.Same.{is_equal, itself_equal}

abbrev pub its : {K : Type 0} → K → K
its x = x

module _ {K : Type 0} (cmp : K → K → Ordering) (order : IsTotalOrder cmp) (same : (a b : K) → cmp a b ≡ Equal → a ≡ b) where
  abbrev pub holds : List K → K → Bool
  holds xs q = list_any (λ x. is_eq (cmp x q)) xs

  -- what is held by a list above an element is above it
  above : (low q : K) (xs : List K) → AllByRecursion (λ x. cmp low x ≡ Less) xs → holds xs q ≡ true → cmp low q ≡ Less
  above low q [] all e = absurd (cc)
  above low q (x ∷ xs) all e = by (above low q xs all.1) (is_eq (cmp x q)) refl
    where
      by : (holds xs q ≡ true → cmp low q ≡ Less) → (b : Bool) → is_eq (cmp x q) ≡ b → cmp low q ≡ Less
      by more true f = subst (λ (k : K). cmp low k ≡ Less) (same x q (is_equal _ f)) all.0
      by more false f = more (sym (ap (λ (b : Bool). b || holds xs q) f) ∙ e)

  either : (b c : Bool) → (b || c) ≡ true → (b ≡ true) ⊎ (c ≡ true)
  either true c e = inl refl
  either false c e = inr e

  -- two first elements that each list holds are one
  firsts : (x y : K) (xs ys : List K) → AllByRecursion (λ z. cmp x z ≡ Less) xs → AllByRecursion (λ z. cmp y z ≡ Less) ys → holds (x ∷ xs) y ≡ true → holds (y ∷ ys) x ≡ true → x ≡ y
  firsts x y xs ys above_x above_y one two = by (either _ _ one) (either _ _ two)
    where
      never : cmp x y ≡ Less → cmp y x ≡ Less → x ≡ y
      never e f = let g : cmp x y ≡ Greater = order.antisymm x y ∙ ap ordering_reverse f in absurd (cc)

      by : (is_eq (cmp x y) ≡ true) ⊎ (holds xs y ≡ true) → (is_eq (cmp y x) ≡ true) ⊎ (holds ys x ≡ true) → x ≡ y
      by (inl e) f = same x y (is_equal _ e)
      by (inr e) (inl f) = sym (same y x (is_equal _ f))
      by (inr e) (inr f) = never (above x y xs above_x e) (above y x ys above_y f)

  holds_first : (x : K) (xs : List K) → holds (x ∷ xs) x ≡ true
  holds_first x xs = ap (λ (o : Ordering). is_eq o || holds xs x) (itself_equal cmp order x)

  not_above : (low q : K) (xs : List K) → AllByRecursion (λ x. cmp low x ≡ Less) xs → cmp low q ≡ Equal → holds xs q ≡ false
  not_above low q xs all e = by (holds xs q) refl
    where
      by : (b : Bool) → holds xs q ≡ b → holds xs q ≡ false
      by true f = let less = above low q xs all f in absurd (cc)
      by false f = f

  -- what the rests hold, where the wholes hold the same
  rests : (x : K) (xs ys : List K) → AllByRecursion (λ z. cmp x z ≡ Less) xs → AllByRecursion (λ z. cmp x z ≡ Less) ys → (q : K) → holds (x ∷ xs) q ≡ holds (x ∷ ys) q → holds xs q ≡ holds ys q
  rests x xs ys above_xs above_ys q e = by (is_eq (cmp x q)) refl
    where
      by : (b : Bool) → is_eq (cmp x q) ≡ b → holds xs q ≡ holds ys q
      by true f = not_above x q xs above_xs (is_equal _ f) ∙ sym (not_above x q ys above_ys (is_equal _ f))
      by false f = sym (ap (λ (b : Bool). b || holds xs q) f) ∙ (e ∙ ap (λ (b : Bool). b || holds ys q) f)

  pub same_lists : (xs ys : List K) → Ascends cmp its xs → Ascends cmp its ys → ((q : K) → holds xs q ≡ holds ys q) → xs ≡ ys
  same_lists [] [] up_xs up_ys e = refl
  same_lists [] (y ∷ ys) up_xs up_ys e = let yes = holds_first y ys in let no = e y in absurd (cc)
  same_lists (x ∷ xs) [] up_xs up_ys e = let yes = holds_first x xs in let no = e x in absurd (cc)
  same_lists (x ∷ xs) (y ∷ ys) up_xs up_ys e =
      let first : x ≡ y = firsts x y xs ys up_xs.0 up_ys.0 (e y ∙ holds_first y ys) (sym (e x) ∙ holds_first x xs) in
      let above_ys : AllByRecursion (λ z. cmp x z ≡ Less) ys = subst (λ (k : K). AllByRecursion (λ z. cmp k z ≡ Less) ys) (sym first) up_ys.0 in
      let same_holds : (q : K) → holds (x ∷ xs) q ≡ holds (x ∷ ys) q = λ q. e q ∙ ap (λ (k : K). holds (k ∷ ys) q) (sym first) in
      let rest : xs ≡ ys = same_lists xs ys up_xs.1 up_ys.1 (λ q. rests x xs ys up_xs.0 above_ys q (same_holds q)) in
      λ i. first i ∷ rest i
