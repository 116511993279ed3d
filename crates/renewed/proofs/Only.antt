-- A meaning has one table: tables in order with the same values are the same.
use Rattle.std.proofs.Common.{◌≡◌, ◌<◌, ℕ, false, List, [], ◌∷◌, Option, Some, None, is_some, if◌then◌else◌, refl, sym, ap, subst, ◌∙◌}
use Rattle.std.specs.Prelude.{unwrap_or}
use Rattle.std.specs.List.{AllByRecursion}
use Rattle.std.specs.Option.{option_map}
use Rattle.std.specs.declared.cmp.Ordering.{Ordering}
use Rattle.std.specs.declared.cmp.Ordering.TheVariants.{Less, Equal, Greater}
use Rattle.std.specs.Ordering.{is_eq, nat_cmp, ordering_reverse, MatchOrdering}
use Rattle.std.proofs.lemmas.Bool.{true≢false, false≢true}
use Rattle.std.proofs.lemmas.Cmp.{nat_cmp_total, ranked}
use Rattle.keyed.specs.Keyed.{find}
use Rattle.paged.specs.Pairs.{key_of, value_of}
use Rattle.renewed.specs.Showing.{InTableOrder, Shows, value_at}

nat_is : (a b : ℕ) → nat_cmp a b ≡ Equal → a ≡ b
nat_is a b e = let P : Ordering → Type 0 = λ o. MatchOrdering o (a < b) (a ≡ b) (b < a) in subst P e (ranked a b (nat_cmp a b) refl)

itself_equal : (a : ℕ) → nat_cmp a a ≡ Equal
itself_equal a = own (nat_cmp a a) (nat_cmp_total.antisymm a a)
  where
    own : (o : Ordering) → o ≡ ordering_reverse o → o ≡ Equal
    own Less e = absurd (cc)
    own Equal e = refl
    own Greater e = absurd (cc)

module _ {V : Type 0} where
  -- all keys are above this one
  abbrev AreAbove : ℕ → List (ℕ × V) → Type 0
  AreAbove low table = AllByRecursion (λ entry. nat_cmp low (key_of entry) ≡ Less) table

  above_lower : (low key : ℕ) (table : List (ℕ × V)) → nat_cmp low key ≡ Less → AreAbove key table → AreAbove low table
  above_lower low key [] l all = tt
  above_lower low key (entry ∷ table) l all = (nat_cmp_total.trans low key entry.0 l all.0, above_lower low key table l all.1)

  -- nothing stands at a key below all
  nothing_below : (key : ℕ) (table : List (ℕ × V)) → AreAbove key table → value_at table key ≡ None
  nothing_below key [] all = refl
  nothing_below key (entry ∷ table) all = let e : nat_cmp entry.0 key ≡ Greater = nat_cmp_total.antisymm entry.0 key ∙ ap ordering_reverse all.0 in rw e (nothing_below key table all.1)

  nothing_before : (key : ℕ) (entry : ℕ × V) (table : List (ℕ × V)) → nat_cmp key entry.0 ≡ Less → AreAbove entry.0 table → value_at (entry ∷ table) key ≡ None
  nothing_before key entry table l all = nothing_below key (entry ∷ table) (l, above_lower key entry.0 table l all)

  at_first : (entry : ℕ × V) (table : List (ℕ × V)) → value_at (entry ∷ table) entry.0 ≡ Some entry.1
  at_first entry table = rw (itself_equal entry.0) refl

  same_entry : (x y : ℕ × V) → x.0 ≡ y.0 → x.1 ≡ y.1 → x ≡ y
  same_entry x y k v = λ i. (k i, v i)

  -- tables in order with the same values are the same
  pub same_from_values : (table other : List (ℕ × V)) → InTableOrder table → InTableOrder other → ((key : ℕ) → value_at table key ≡ value_at other key) → table ≡ other
  same_from_values [] [] up on h = refl
  same_from_values [] (y ∷ ys) up on h = absurd (false≢true (ap is_some (h y.0 ∙ at_first y ys)))
  same_from_values (x ∷ xs) [] up on h = absurd (false≢true (ap is_some (sym (h x.0) ∙ at_first x xs)))
  same_from_values (x ∷ xs) (y ∷ ys) up on h = by (λ g. same_from_values xs ys up.1 on.1 g) (nat_cmp x.0 y.0) refl
    where
      tails : x.0 ≡ y.0 → (q : ℕ) → value_at xs q ≡ value_at ys q
      tails k q = at (nat_cmp x.0 q) refl
        where
          pass : (o p : Ordering) → is_eq o ≡ false → p ≡ o → option_map value_of (if is_eq o then Some x else find nat_cmp key_of xs q) ≡ option_map value_of (if is_eq p then Some y else find nat_cmp key_of ys q) → value_at xs q ≡ value_at ys q
          pass Less p n f g = (rw f at g)
          pass Equal p n f g = absurd (true≢false n)
          pass Greater p n f g = (rw f at g)

          at : (o : Ordering) → nat_cmp x.0 q ≡ o → value_at xs q ≡ value_at ys q
          at Less f = pass (nat_cmp x.0 q) (nat_cmp y.0 q) (ap is_eq f) (ap (λ (a : ℕ). nat_cmp a q) (sym k)) (h q)
          at Greater f = pass (nat_cmp x.0 q) (nat_cmp y.0 q) (ap is_eq f) (ap (λ (a : ℕ). nat_cmp a q) (sym k)) (h q)
          at Equal f =
              nothing_below q xs (subst (λ (a : ℕ). AreAbove a xs) (nat_is x.0 q f) up.0)
              ∙ sym (nothing_below q ys (subst (λ (a : ℕ). AreAbove a ys) (sym k ∙ nat_is x.0 q f) on.0))

      values : x.0 ≡ y.0 → x.1 ≡ y.1
      values k =
          let there : value_at (y ∷ ys) x.0 ≡ Some y.1 = ap (λ (a : ℕ). value_at (y ∷ ys) a) k ∙ at_first y ys in
          ap (λ o. unwrap_or o x.1) (sym (at_first x xs) ∙ (h x.0 ∙ there))

      by : (((q : ℕ) → value_at xs q ≡ value_at ys q) → xs ≡ ys) → (o : Ordering) → nat_cmp x.0 y.0 ≡ o → x ∷ xs ≡ y ∷ ys
      by more Equal e = let k : x.0 ≡ y.0 = nat_is x.0 y.0 e in rw (same_entry x y k (values k), more (tails k)) refl
      by more Less e = absurd (false≢true (ap is_some (sym (nothing_before x.0 y ys e on.0) ∙ (sym (h x.0) ∙ at_first x xs))))
      by more Greater e = absurd (false≢true (ap is_some (sym (nothing_before y.0 x xs (nat_cmp_total.antisymm y.0 x.0 ∙ ap ordering_reverse e) up.0) ∙ (h y.0 ∙ at_first y ys))))

  -- a meaning has one table: what changes keep in step is what would be built anew
  pub one_table : (meaning : ℕ → Option V) (table other : List (ℕ × V)) → Shows meaning table → Shows meaning other → table ≡ other
  one_table meaning table other shows too = same_from_values table other shows.order too.order (λ key. shows.each key ∙ sym (too.each key))
