-- The least and the greatest of offers.
use Rattle.std.proofs.Common.{◌≡◌, ℕ, ◌<◌, ◌≤◌, ℤ, Bool, true, false, ◌⊎◌, inl, inr, List, [], ◌∷◌, Option, Some, None, if◌then◌else◌, refl, sym, ap, subst, ◌∙◌, arith}
use Rattle.std.specs.Prelude.{◌≤ℤ◌, fold}
use Rattle.std.specs.List.{AllByRecursion}
use Rattle.std.specs.Option.{option_map}
use Rattle.std.specs.declared.cmp.Ordering.{Ordering}
use Rattle.std.specs.declared.cmp.Ordering.TheVariants.{Less, Equal, Greater}
use Rattle.std.specs.Ordering.{nat_cmp, MatchOrdering}
use Rattle.std.specs.Int.Signed.{lt_z}
use Rattle.std.proofs.lemmas.Cmp.{ranked}
use Rattle.std.proofs.lemmas.Int.{ints}
use Rattle.closure.specs.Closure.{IsIn}
use Rattle.keyed.specs.Keyed.{Ascends}
use Rattle.product_meanings.specs.Listings.{Offer, cheaper, dearer, best, price_of}
use Rattle.product_meanings.specs.Laws.{IsCheapest, IsDearest, PriceIsOfOffers, PricesOfAll}

below : (a b : ℤ) → lt_z a b ≡ true → a ≤ℤ b
below a b e = grind (arith, ints)

not_below : (a b : ℤ) → lt_z a b ≡ false → b ≤ℤ a
not_below a b e = grind (arith, ints)

under : (a b c : ℤ) → a ≤ℤ b → b ≤ℤ c → a ≤ℤ c
under a b c e f = grind (arith, ints)

itself : (a : ℤ) → a ≤ℤ a
itself a = grind (arith, ints)

-- no price is below one that it equals, by way of a greater one
never : (low x cur : ℤ) → low ≤ℤ x → lt_z x cur ≡ true → cur ≡ low → ⊥
never low x cur e f g = grind (arith, ints)

between : (low x cur : ℤ) → low ≤ℤ cur → cur ≤ℤ x → x ≡ low → cur ≡ low
between low x cur e f g = grind (arith, ints)

less_is : (a b : ℕ) → nat_cmp a b ≡ Less → a < b
less_is a b e = let P : Ordering → Type 0 = λ o. MatchOrdering o (a < b) (a ≡ b) (b < a) in subst P e (ranked a b (nat_cmp a b) refl)

-- ---- the cheapest

abbrev ById : List Offer → Type 0
ById all = Ascends nat_cmp (λ (other : Offer). other.0) all

low : (cur : Offer) (rest : List Offer) → IsCheapest (cur ∷ rest) (fold cheaper cur rest)
low cur [] = record { is_in = inl refl; least = (itself cur.1, tt); first = λ up. (λ e. omega arith, tt) }
low cur (x ∷ rest) = by (λ (o : Offer). low o rest) (lt_z x.1 cur.1) refl
  where
    chosen : (b : Bool) → lt_z x.1 cur.1 ≡ b → fold cheaper cur (x ∷ rest) ≡ fold cheaper (if b then x else cur) rest
    chosen b e = ap (λ (c : Bool). fold cheaper (if c then x else cur) rest) e

    later : (one : Offer) → IsIn one (cur ∷ rest) → IsIn one (cur ∷ x ∷ rest)
    later one (inl s) = inl s
    later one (inr i) = inr (inr i)

    by : ((o : Offer) → IsCheapest (o ∷ rest) (fold cheaper o rest)) → (b : Bool) → lt_z x.1 cur.1 ≡ b → IsCheapest (cur ∷ x ∷ rest) (fold cheaper cur (x ∷ rest))
    by more_of true e = subst (IsCheapest (cur ∷ x ∷ rest)) (sym (chosen true e))
        (let more = more_of x in let one = fold cheaper x rest in record {
          is_in = inr more.is_in;
          least = (under one.1 x.1 cur.1 more.least.0 (below x.1 cur.1 e), more.least);
          first = λ up. (λ same. absurd (never one.1 x.1 cur.1 more.least.0 e same), more.first up.1);
        })
    by more_of false e = subst (IsCheapest (cur ∷ x ∷ rest)) (sym (chosen false e))
        (let more = more_of cur in let one = fold cheaper cur rest in record {
          is_in = later one more.is_in;
          least = (more.least.0, (under one.1 cur.1 x.1 more.least.0 (not_below x.1 cur.1 e), more.least.1));
          first = λ up. let ties = more.first (up.0.1, up.1.1) in (ties.0, ((λ same. let l = less_is cur.0 x.0 up.0.0 in let f = ties.0 (between one.1 x.1 cur.1 more.least.0 (not_below x.1 cur.1 e) same) in omega (arith, l, f)), ties.1));
        })

-- ---- the dearest

high : (cur : Offer) (rest : List Offer) → IsDearest (cur ∷ rest) (fold dearer cur rest)
high cur [] = record { is_in = inl refl; greatest = (itself cur.1, tt) }
high cur (x ∷ rest) = by (λ (o : Offer). high o rest) (lt_z cur.1 x.1) refl
  where
    chosen : (b : Bool) → lt_z cur.1 x.1 ≡ b → fold dearer cur (x ∷ rest) ≡ fold dearer (if b then x else cur) rest
    chosen b e = ap (λ (c : Bool). fold dearer (if c then x else cur) rest) e

    later : (one : Offer) → IsIn one (cur ∷ rest) → IsIn one (cur ∷ x ∷ rest)
    later one (inl s) = inl s
    later one (inr i) = inr (inr i)

    by : ((o : Offer) → IsDearest (o ∷ rest) (fold dearer o rest)) → (b : Bool) → lt_z cur.1 x.1 ≡ b → IsDearest (cur ∷ x ∷ rest) (fold dearer cur (x ∷ rest))
    by more_of true e = subst (IsDearest (cur ∷ x ∷ rest)) (sym (chosen true e))
        (let more = more_of x in let one = fold dearer x rest in record {
          is_in = inr more.is_in;
          greatest = (under cur.1 x.1 one.1 (below cur.1 x.1 e) more.greatest.0, more.greatest);
        })
    by more_of false e = subst (IsDearest (cur ∷ x ∷ rest)) (sym (chosen false e))
        (let more = more_of cur in let one = fold dearer cur rest in record {
          is_in = later one more.is_in;
          greatest = (more.greatest.0, (under x.1 cur.1 one.1 (not_below cur.1 x.1 e) more.greatest.0, more.greatest.1));
        })

-- ---- the law

pub prices_of_all : PricesOfAll
prices_of_all all = record {
  none = λ e. ap price_of e;
  cheapest = λ first rest e. record {
    offer = fold cheaper first rest;
    is = subst (λ (list : List Offer). IsCheapest list (fold cheaper first rest)) (sym e) (low first rest);
    min = ap (λ (list : List Offer). option_map (λ (offer : Offer). offer.1) (best cheaper list)) e;
    id = ap (λ (list : List Offer). option_map (λ (offer : Offer). offer.0) (best cheaper list)) e;
  };
  dearest = λ first rest e. record {
    offer = fold dearer first rest;
    is = subst (λ (list : List Offer). IsDearest list (fold dearer first rest)) (sym e) (high first rest);
    max = ap (λ (list : List Offer). option_map (λ (offer : Offer). offer.1) (best dearer list)) e;
  };
}
