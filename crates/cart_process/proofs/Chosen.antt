-- The price row that decides is the choice that the words say.
use Rattle.std.proofs.Common.{◌≡◌, ℕ, ◌≤◌, ◌<◌, Bool, true, false, ◌⊎◌, inl, inr, List, [], ◌∷◌, ◌++◌, filter, Option, Some, None, refl, sym, ap, subst, ◌∙◌, arith}
use Rattle.std.specs.Prelude.{nat_lt}
use Rattle.std.specs.List.{AllByRecursion, fold, list_any}
use Rattle.std.proofs.lemmas.Bool.Decides.{nat_tests}
use Rattle.closure.specs.Closure.{IsIn}
use Rattle.shop_defs.specs.declared.row.Row.{Row}
use Rattle.cart_process.specs.Units.{is_for, takes, of_first, low_of, higher, highest, deciding}
use Rattle.cart_process.specs.Choice.{has_row, IsFirstWithRow, IsHighest, IsChosenBy, IsChoice}

-- ---- the rule

abbrev IsOfFirst : List ℕ → List Row → Type 0
IsOfFirst rules prices =
    (AllByRecursion (λ rule. has_row prices rule ≡ false) rules × (of_first rules prices ≡ []))
    ⊎ ((rule : ℕ) × (IsFirstWithRow rules prices rule × (of_first rules prices ≡ filter (is_for rule) prices)))

first_or_none : (rules : List ℕ) (prices : List Row) → IsOfFirst rules prices
first_or_none [] prices = inl (tt, refl)
first_or_none (rule ∷ rules) prices = by (first_or_none rules prices) (has_row prices rule) refl
  where
    by : IsOfFirst rules prices → (b : Bool) → has_row prices rule ≡ b → IsOfFirst (rule ∷ rules) prices
    by more true e = inr (rule, (record { before = []; after = rules; place = refl; none_before = tt; has = e }, rw e refl))
    by (inl none) false e = inl ((e, none.0), rw e none.1)
    by (inr more) false e =
        let first = more.1.0 in
        inr (more.0, (record { before = rule ∷ first.before; after = first.after; place = ap (λ (ids : List ℕ). rule ∷ ids) first.place; none_before = (e, first.none_before); has = first.has }, rw e more.1.1))

-- ---- the row

-- what a walk for the highest row comes to, begun with one
record IsTop (best : Row) (rows : List Row) (found : Option Row) : Type 0 where
  row : Row
  is : found ≡ Some row
  among : (best ≡ row) ⊎ IsIn row rows
  least : low_of best ≤ low_of row
  most : AllByRecursion (λ other. low_of other ≤ low_of row) rows

top : (best : Row) (rows : List Row) → IsTop best rows (fold (λ best row. Some (higher best row)) (Some best) rows)
top best [] = record { row = best; is = refl; among = inl refl; least = omega arith; most = tt }
top best (x ∷ rows) = by (top x rows) (top best rows) (nat_lt (low_of best) (low_of x)) refl
  where
    through : {A : Type 0} → A ⊎ IsIn x rows → A ⊎ IsIn x rows
    through h = h

    by : IsTop x rows (fold (λ best row. Some (higher best row)) (Some x) rows) → IsTop best rows (fold (λ best row. Some (higher best row)) (Some best) rows) → (b : Bool) → nat_lt (low_of best) (low_of x) ≡ b
        → IsTop best (x ∷ rows) (fold (λ best row. Some (higher best row)) (Some best) (x ∷ rows))
    by up same true e =
        let less : low_of best < low_of x = grind (arith, nat_tests, e) in
        record { row = up.row; is = rw e up.is; among = inr up.among; least = omega (arith, less, up.least); most = (up.least, up.most) }
    by up same false e =
        let less : low_of x ≤ low_of best = grind (arith, nat_tests, e) in
        record { row = same.row; is = rw e same.is; among = behind same.among; least = same.least; most = (omega (arith, less, same.least), same.most) }
      where
        behind : (best ≡ same.row) ⊎ IsIn same.row rows → (best ≡ same.row) ⊎ IsIn same.row (x ∷ rows)
        behind (inl h) = inl h
        behind (inr h) = inr (inr h)

-- ---- rows that pass two tests

module _ (p q : Row → Bool) where
  abbrev both : List Row → List Row
  both rows = filter p (filter q rows)

  record Passes (row : Row) (rows : List Row) : Type 0 where
    among : IsIn row rows
    first : q row ≡ true
    second : p row ≡ true

  in_both : (rows : List Row) (row : Row) → IsIn row (both rows) → Passes row rows
  in_both [] row h = absurd h
  in_both (x ∷ rows) row h = by (in_both rows row) (q x) (p x) refl refl
    where
      later : Passes row rows → Passes row (x ∷ rows)
      later passes = record { among = inr passes.among; first = passes.first; second = passes.second }

      at : (x ≡ row) ⊎ IsIn row (both rows) → q x ≡ true → p x ≡ true → (IsIn row (both rows) → Passes row rows) → Passes row (x ∷ rows)
      at (inl same) e f more = record { among = inl same; first = subst (λ (r : Row). q r ≡ true) same e; second = subst (λ (r : Row). p r ≡ true) same f }
      at (inr deep) e f more = later (more deep)

      by : (IsIn row (both rows) → Passes row rows) → (b c : Bool) → q x ≡ b → p x ≡ c → Passes row (x ∷ rows)
      by more true true e f = let h2 : (x ≡ row) ⊎ IsIn row (both rows) = rw (e, f) at h in at h2 e f more
      by more true false e f = let h2 : IsIn row (both rows) = rw (e, f) at h in later (more h2)
      by more false c e f = let h2 : IsIn row (both rows) = rw e at h in later (more h2)

  most_of : (m : ℕ) (rows : List Row) → AllByRecursion (λ other. low_of other ≤ m) (both rows) → AllByRecursion (λ other. q other ≡ true → p other ≡ true → low_of other ≤ m) rows
  most_of m [] all = tt
  most_of m (x ∷ rows) all = by (most_of m rows) (q x) (p x) refl refl
    where
      by : (AllByRecursion (λ other. low_of other ≤ m) (both rows) → AllByRecursion (λ other. q other ≡ true → p other ≡ true → low_of other ≤ m) rows) → (b c : Bool) → q x ≡ b → p x ≡ c
          → AllByRecursion (λ other. q other ≡ true → p other ≡ true → low_of other ≤ m) (x ∷ rows)
      by more true true e f = let all2 : AllByRecursion (λ other. low_of other ≤ m) (x ∷ both rows) = rw (e, f) at all in (λ h k. all2.0, more all2.1)
      by more true false e f = let all2 : AllByRecursion (λ other. low_of other ≤ m) (both rows) = rw (e, f) at all in (λ h k. absurd (cc), more all2)
      by more false c e f = let all2 : AllByRecursion (λ other. low_of other ≤ m) (both rows) = rw e at all in (λ h k. absurd (cc), more all2)

  none_of : (rows : List Row) → both rows ≡ [] → AllByRecursion (λ other. q other ≡ true → p other ≡ false) rows
  none_of [] e = tt
  none_of (x ∷ rows) e = by (none_of rows) (q x) (p x) refl refl
    where
      by : (both rows ≡ [] → AllByRecursion (λ other. q other ≡ true → p other ≡ false) rows) → (b c : Bool) → q x ≡ b → p x ≡ c → AllByRecursion (λ other. q other ≡ true → p other ≡ false) (x ∷ rows)
      by more true true f g = let e2 : x ∷ both rows ≡ [] = rw (f, g) at e in absurd (cc)
      by more true false f g = let e2 : both rows ≡ [] = rw (f, g) at e in (λ h. g, more e2)
      by more false c f g = let e2 : both rows ≡ [] = rw f at e in (λ h. absurd (cc), more e2)

chosen_by : (rule quantity : ℕ) (prices : List Row) → IsChosenBy rule quantity prices (highest (filter (takes quantity) (filter (is_for rule) prices)))
chosen_by rule quantity prices = by (filter (takes quantity) (filter (is_for rule) prices)) refl
  where
    by : (some : List Row) → filter (takes quantity) (filter (is_for rule) prices) ≡ some → IsChosenBy rule quantity prices (highest (filter (takes quantity) (filter (is_for rule) prices)))
    by [] e = rw e (none_of (takes quantity) (is_for rule) prices e)
    by (x ∷ rows) e =
        let up = top x rows in
        let inside : IsIn up.row (filter (takes quantity) (filter (is_for rule) prices)) = rw e up.among in
        let passes = in_both (takes quantity) (is_for rule) prices up.row inside in
        let all : AllByRecursion (λ other. low_of other ≤ low_of up.row) (filter (takes quantity) (filter (is_for rule) prices)) = rw e (up.least, up.most) in
        let chosen : IsChosenBy rule quantity prices (Some up.row) = record { among = passes.among; of_rule = passes.first; fits = passes.second; most = most_of (takes quantity) (is_for rule) (low_of up.row) prices all } in
        subst (λ (found : Option Row). IsChosenBy rule quantity prices found) (sym up.is ∙ sym (ap highest e)) chosen

pub is_choice : (rules : List ℕ) (quantity : ℕ) (prices : List Row) → IsChoice rules quantity prices (deciding rules quantity prices)
is_choice rules quantity prices = by (first_or_none rules prices)
  where
    by : IsOfFirst rules prices → IsChoice rules quantity prices (deciding rules quantity prices)
    by (inl none) = inl (none.0, ap (λ (rows : List Row). highest (filter (takes quantity) rows)) none.1)
    by (inr more) =
        inr (more.0, (more.1.0, subst (λ (rows : List Row). IsChosenBy more.0 quantity prices (highest (filter (takes quantity) rows))) (sym more.1.1) (chosen_by more.0 quantity prices)))
