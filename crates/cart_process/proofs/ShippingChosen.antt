-- The price of a delivery that is taken is the choice that the words say.
use Rattle.std.proofs.Common.{◌≡◌, ℕ, ◌<◌, ◌≤◌, Bool, true, false, ◌&&◌, ◌⊎◌, inl, inr, List, [], ◌∷◌, ◌++◌, filter, Option, Some, None, refl, sym, ap, subst, ◌∙◌, arith}
use Rattle.std.specs.Prelude.{nat_lt, if◌then◌else◌}
use Rattle.std.specs.List.{AllByRecursion, fold, list_any}
use Rattle.std.proofs.lemmas.Bool.Decides.{nat_tests}
use Rattle.shop_defs.specs.declared.row.Row.{Row}
use Rattle.cart_process.specs.declared.deliveries.Measures.{Measures}
use Rattle.cart_process.specs.Deliveries.{is_usable, is_for, has_no_rule, of_first, low_of, is_lower, higher, highest, shipping_price}
use Rattle.cart_process.specs.ShippingChoice.{IsFirstHighest, IsTakenOf, is_usable_for, is_usable_by_all, HasNoPrice, IsByRule, IsShippingChoice}

-- ---- bounds

lower_then : (a b c : Option ℕ) → is_lower a b ≡ true → is_lower b c ≡ true → is_lower a c ≡ true
lower_then None None c e f = absurd (cc)
lower_then None (Some b) None e f = absurd (cc)
lower_then None (Some b) (Some c) e f = refl
lower_then (Some a) None c e f = absurd (cc)
lower_then (Some a) (Some b) None e f = absurd (cc)
lower_then (Some a) (Some b) (Some c) e f = grind (arith, nat_tests, e, f)

not_higher_then : (a b c : Option ℕ) → is_lower a b ≡ false → is_lower a c ≡ true → is_lower b c ≡ true
not_higher_then None None None e f = absurd (cc)
not_higher_then None None (Some c) e f = refl
not_higher_then None (Some b) c e f = absurd (cc)
not_higher_then (Some a) b None e f = absurd (cc)
not_higher_then (Some a) None (Some c) e f = refl
not_higher_then (Some a) (Some b) (Some c) e f = grind (arith, nat_tests, e, f)

-- ---- lists

all_more : {X : Type 0} (P : X → Type 0) (xs : List X) (x : X) → AllByRecursion P xs → P x → AllByRecursion P (xs ++ x ∷ [])
all_more P [] x all p = (p, tt)
all_more P (y ∷ xs) x all p = (all.0, all_more P xs x all.1 p)

all_both : {X : Type 0} (P : X → Type 0) (xs : List X) (ys : List X) → AllByRecursion P xs → AllByRecursion P ys → AllByRecursion P (xs ++ ys)
all_both P [] ys all more = more
all_both P (x ∷ xs) ys all more = (all.0, all_both P xs ys all.1 more)

all_to : {X : Type 0} (P Q : X → Type 0) → ((x : X) → P x → Q x) → (xs : List X) → AllByRecursion P xs → AllByRecursion Q xs
all_to P Q f [] all = tt
all_to P Q f (x ∷ xs) all = (f x all.0, all_to P Q f xs all.1)

joins : {X : Type 0} (xs ys zs : List X) → (xs ++ ys) ++ zs ≡ xs ++ (ys ++ zs)
joins [] ys zs = refl
joins (x ∷ xs) ys zs = ap (λ (more : List _). x ∷ more) (joins xs ys zs)

ends : {X : Type 0} (xs : List X) → xs ++ [] ≡ xs
ends [] = refl
ends (x ∷ xs) = ap (λ (more : List _). x ∷ more) (ends xs)

-- ---- the walk for the highest row

module _ (test : Row → Bool) where
  -- one that passes no test changes nothing
  passed_over : (done : List Row) (x : Row) (best : Option Row) → test x ≡ false → IsTakenOf test done best → IsTakenOf test (done ++ x ∷ []) best
  passed_over done x None e all = all_more (λ other. test other ≡ false) done x all e
  passed_over done x (Some row) e t = record {
    before = t.before;
    after = t.after ++ x ∷ [];
    place = ap (λ (rows : List Row). rows ++ x ∷ []) t.place ∙ joins t.before (row ∷ t.after) (x ∷ []);
    passes = t.passes;
    lower_before = t.lower_before;
    none_higher = all_more (λ other. test other ≡ true → is_lower (low_of row) (low_of other) ≡ false) t.after x t.none_higher (λ f. let never : false ≡ true = sym e ∙ f in absurd (cc));
  }

  -- the first that passes
  first_taken : (done : List Row) (x : Row) → test x ≡ true → IsTakenOf test done None → IsFirstHighest test (done ++ x ∷ []) x
  first_taken done x e all = record {
    before = done;
    after = [];
    place = refl;
    passes = e;
    lower_before = all_to (λ other. test other ≡ false) (λ other. test other ≡ true → is_lower (low_of other) (low_of x) ≡ true) (λ other f g. let never : false ≡ true = sym f ∙ g in absurd (cc)) done all;
    none_higher = tt;
  }

  -- one from a higher bound on
  taken_over : (done : List Row) (row x : Row) → test x ≡ true → is_lower (low_of row) (low_of x) ≡ true → IsFirstHighest test done row → IsFirstHighest test (done ++ x ∷ []) x
  taken_over done row x e lower t = record {
    before = done;
    after = [];
    place = refl;
    passes = e;
    lower_before = subst (λ (rows : List Row). AllByRecursion (λ other. test other ≡ true → is_lower (low_of other) (low_of x) ≡ true) rows) (sym t.place)
        (all_both (λ other. test other ≡ true → is_lower (low_of other) (low_of x) ≡ true) t.before (row ∷ t.after)
        (all_to (λ other. test other ≡ true → is_lower (low_of other) (low_of row) ≡ true) (λ other. test other ≡ true → is_lower (low_of other) (low_of x) ≡ true)
        (λ other f g. lower_then (low_of other) (low_of row) (low_of x) (f g) lower) t.before t.lower_before) (
          (λ _. lower),
          all_to (λ other. test other ≡ true → is_lower (low_of row) (low_of other) ≡ false) (λ other. test other ≡ true → is_lower (low_of other) (low_of x) ≡ true)
              (λ other f g. not_higher_then (low_of row) (low_of other) (low_of x) (f g) lower) t.after t.none_higher,
        ));
    none_higher = tt;
  }

  -- one that isn't
  kept_first : (done : List Row) (row x : Row) → is_lower (low_of row) (low_of x) ≡ false → IsFirstHighest test done row → IsFirstHighest test (done ++ x ∷ []) row
  kept_first done row x lower t = record {
    before = t.before;
    after = t.after ++ x ∷ [];
    place = ap (λ (rows : List Row). rows ++ x ∷ []) t.place ∙ joins t.before (row ∷ t.after) (x ∷ []);
    passes = t.passes;
    lower_before = t.lower_before;
    none_higher = all_more (λ other. test other ≡ true → is_lower (low_of row) (low_of other) ≡ false) t.after x t.none_higher (λ _. lower);
  }

  one_more : (done : List Row) (x : Row) (best : Option Row) → test x ≡ true → IsTakenOf test done best → IsTakenOf test (done ++ x ∷ []) (Some (higher best x))
  one_more done x None e t = first_taken done x e t
  one_more done x (Some row) e t = by (is_lower (low_of row) (low_of x)) refl
    where
      by : (b : Bool) → is_lower (low_of row) (low_of x) ≡ b → IsFirstHighest test (done ++ x ∷ []) (if b then x else row)
      by true f = taken_over done row x e f t
      by false f = kept_first done row x f t

  walked : (done rows : List Row) (best : Option Row) → IsTakenOf test done best → IsTakenOf test (done ++ rows) (fold (λ best row. Some (higher best row)) best (filter test rows))
  walked done [] best t = subst (λ (all : List Row). IsTakenOf test all best) (sym (ends done)) t
  walked done (x ∷ rows) best t =
      subst (λ (all : List Row). IsTakenOf test all (fold (λ best row. Some (higher best row)) best (filter test (x ∷ rows)))) (joins done (x ∷ []) rows)
      (by (walked (done ++ x ∷ []) rows) (test x) refl)
    where
      by : ((next : Option Row) → IsTakenOf test (done ++ x ∷ []) next → IsTakenOf test ((done ++ x ∷ []) ++ rows) (fold (λ best row. Some (higher best row)) next (filter test rows)))
          → (b : Bool) → test x ≡ b → IsTakenOf test ((done ++ x ∷ []) ++ rows) (fold (λ best row. Some (higher best row)) best (filter test (x ∷ rows)))
      by more true e = rw e (more (Some (higher best x)) (one_more done x best e t))
      by more false e = rw e (more best (passed_over done x best e t))

  highest_is : (prices : List Row) → IsTakenOf test prices (highest (filter test prices))
  highest_is prices = walked [] prices None tt

-- ---- the rule

-- two tests, one after the other, are both at once
two_tests : (p q : Row → Bool) (rows : List Row) → filter p (filter q rows) ≡ filter (λ row. q row && p row) rows
two_tests p q [] = refl
two_tests p q (x ∷ rows) = by (two_tests p q rows) (q x) (p x) refl refl
  where
    by : filter p (filter q rows) ≡ filter (λ row. q row && p row) rows → (b c : Bool) → q x ≡ b → p x ≡ c → filter p (filter q (x ∷ rows)) ≡ filter (λ row. q row && p row) (x ∷ rows)
    by more true true e f = rw (e, f) (ap (λ (all : List Row). x ∷ all) more)
    by more true false e f = rw (e, f) more
    by more false c e f = rw e more

-- none of the rows that pass the one passes the other
none_passes : (p q : Row → Bool) (rows : List Row) → list_any p (filter q rows) ≡ false → AllByRecursion (λ row. (q row && p row) ≡ false) rows
none_passes p q [] e = tt
none_passes p q (x ∷ rows) e = by (none_passes p q rows) (q x) (p x) refl refl
  where
    by : (list_any p (filter q rows) ≡ false → AllByRecursion (λ row. (q row && p row) ≡ false) rows) → (b c : Bool) → q x ≡ b → p x ≡ c → AllByRecursion (λ row. (q row && p row) ≡ false) (x ∷ rows)
    by more true true f g = let never : true ≡ false = rw (f, g) at e in absurd (cc)
    by more true false f g = let rest : list_any p (filter q rows) ≡ false = rw (f, g) at e in (rw (f, g) refl, more rest)
    by more false c f g = let rest : list_any p (filter q rows) ≡ false = rw f at e in (rw f refl, more rest)

-- some of them does, so that one is taken
some_passes : (p q : Row → Bool) (rows : List Row) → list_any p (filter q rows) ≡ true → AllByRecursion (λ row. (q row && p row) ≡ false) rows → ⊥
some_passes p q [] e all = absurd (cc)
some_passes p q (x ∷ rows) e all = by (some_passes p q rows) (q x) (p x) refl refl
  where
    by : (list_any p (filter q rows) ≡ true → AllByRecursion (λ row. (q row && p row) ≡ false) rows → ⊥) → (b c : Bool) → q x ≡ b → p x ≡ c → ⊥
    by more true true f g = let never : true ≡ false = rw (f, g) at all.0 in absurd (cc)
    by more true false f g = let rest : list_any p (filter q rows) ≡ true = rw (f, g) at e in more rest all.1
    by more false c f g = let rest : list_any p (filter q rows) ≡ true = rw f at e in more rest all.1

module _ (holding : List ℕ) (measures : Measures) (prices : List Row) where
  abbrev usable : List Row
  usable = filter (is_usable holding measures) prices

  abbrev HasNone : ℕ → Type 0
  HasNone rule = HasNoPrice holding measures prices rule

  -- by the rules from some place on
  record IsFrom (rules : List ℕ) (taken : Option Row) : Type 0 where
    rule : ℕ
    before : List ℕ
    after : List ℕ
    place : rules ≡ before ++ rule ∷ after
    none_before : AllByRecursion HasNone before
    row : Row
    is : taken ≡ Some row
    of_rule : IsFirstHighest (is_usable_for holding measures rule) prices row

  abbrev Chosen : List ℕ → Option Row → Type 0
  Chosen rules taken = IsFrom rules taken ⊎ (AllByRecursion HasNone rules × IsTakenOf (is_usable_by_all holding measures) prices taken)

  taken_for : (rule : ℕ) → IsTakenOf (is_usable_for holding measures rule) prices (highest (filter (is_for rule) usable))
  taken_for rule =
      subst (λ (rows : List Row). IsTakenOf (is_usable_for holding measures rule) prices (highest rows)) (sym (two_tests (is_for rule) (is_usable holding measures) prices))
      (highest_is (is_usable_for holding measures rule) prices)

  by_rule : (rule : ℕ) (rules : List ℕ) → list_any (is_for rule) usable ≡ true → IsFrom (rule ∷ rules) (highest (filter (is_for rule) usable))
  by_rule rule rules e = by (highest (filter (is_for rule) usable)) refl (taken_for rule)
    where
      by : (taken : Option Row) → highest (filter (is_for rule) usable) ≡ taken → IsTakenOf (is_usable_for holding measures rule) prices taken → IsFrom (rule ∷ rules) (highest (filter (is_for rule) usable))
      by None f t = absurd (some_passes (is_for rule) (is_usable holding measures) prices e t)
      by (Some row) f t = record { rule = rule; before = []; after = rules; place = refl; none_before = tt; row = row; is = f; of_rule = t }

  chosen : (rules : List ℕ) → Chosen rules (highest (of_first rules usable))
  chosen [] =
      inr (
        tt,
        subst (λ (rows : List Row). IsTakenOf (is_usable_by_all holding measures) prices (highest rows)) (sym (two_tests has_no_rule (is_usable holding measures) prices))
            (highest_is (is_usable_by_all holding measures) prices),
      )
  chosen (rule ∷ rules) = by (chosen rules) (list_any (is_for rule) usable) refl
    where
      later : list_any (is_for rule) usable ≡ false → Chosen rules (highest (of_first rules usable)) → Chosen (rule ∷ rules) (highest (of_first rules usable))
      later e (inl f) =
          inl (record {
            rule = f.rule;
            before = rule ∷ f.before;
            after = f.after;
            place = ap (λ (ids : List ℕ). rule ∷ ids) f.place;
            none_before = (none_passes (is_for rule) (is_usable holding measures) prices e, f.none_before);
            row = f.row;
            is = f.is;
            of_rule = f.of_rule;
          })
      later e (inr none) = inr ((none_passes (is_for rule) (is_usable holding measures) prices e, none.0), none.1)

      by : Chosen rules (highest (of_first rules usable)) → (b : Bool) → list_any (is_for rule) usable ≡ b → Chosen (rule ∷ rules) (highest (of_first (rule ∷ rules) usable))
      by more true e = rw e (inl (by_rule rule rules e))
      by more false e = rw e (later e more)

pub is_shipping_choice : (rules : List ℕ) (measures : Measures) (prices : List Row) → IsShippingChoice rules measures prices (shipping_price rules measures prices)
is_shipping_choice rules measures prices = by (chosen rules measures prices rules)
  where
    by : IsFrom rules measures prices rules (shipping_price rules measures prices) ⊎ (AllByRecursion (HasNoPrice rules measures prices) rules × IsTakenOf (is_usable_by_all rules measures) prices (shipping_price rules measures prices))
        → IsShippingChoice rules measures prices (shipping_price rules measures prices)
    by (inl f) = inl (record { rule = f.rule; before = f.before; after = f.after; place = f.place; none_before = f.none_before; row = f.row; is = f.is; of_rule = f.of_rule })
    by (inr none) = inr none
