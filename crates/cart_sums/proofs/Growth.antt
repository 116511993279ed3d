-- What a position more, added or taken off, does to the sums.
use Rattle.std.proofs.Common.{◌≡◌, ℕ, ◌+◌, ◌-◌, ◌*◌, ◌^◌, ◌≤◌, true, false, List, [], ◌∷◌, Option, Some, None, refl, sym, ap, subst, ◌∙◌, arith}
use Rattle.std.specs.Prelude.{sum_by, unwrap_or}
use Rattle.std.specs.declared.cmp.Ordering.{Ordering}
use Rattle.std.specs.declared.cmp.Ordering.TheVariants.{Less, Equal, Greater}
use Rattle.std.specs.List.{AllByRecursion}
use Rattle.std.specs.Ordering.{nat_cmp, is_eq, ordering_reverse}
use Rattle.std.proofs.lemmas.Bool.Decides.{nat_tests}
use Rattle.std.proofs.lemmas.Cmp.{nat_cmp_total}
use Rattle.std.proofs.lemmas.List.Sums.{sum_by-cons}
use Rattle.keyed.specs.Keyed.{Ascends, find, put}
use Rattle.keyed.proofs.Changes.{ascends_put, find_put}
use Rattle.cart_price.specs.declared.priced.TaxState.{TaxState}
use Rattle.cart_sums.specs.declared.sums.RateSum.{RateSum}
use Rattle.cart_sums.specs.Fits.{AreSums, Fits, Grows, Shrinks}
use Rattle.cart_sums.specs.Sums.{IsNew, add_at, empty, left_at, less, plus, plus_of, rate_key, sum_at, take_at}
use Rattle.cart_sums.specs.Taxes.{most}
use Rattle.cart_sums.proofs.Sizes.{tax_on-bound}

abbrev found : List RateSum → ℕ → Option RateSum
found sums rate = find nat_cmp rate_key sums rate

-- what holds of all sums holds of the one that is found
pub all-found : (P : RateSum → Type 0) (sums : List RateSum) (rate : ℕ) (at : RateSum) → AllByRecursion P sums → found sums rate ≡ Some at → P at
all-found P [] rate at all e = absurd (cc)
all-found P (x ∷ sums) rate at all e = by (nat_cmp x.rate rate) refl (all-found P sums rate at all.1)
  where
    by : (o : Ordering) → nat_cmp x.rate rate ≡ o → (found sums rate ≡ Some at → P at) → P at
    by Equal is more = let f = rw is at e in let same : x ≡ at = cc in subst P same all.0
    by Less is more = more (rw is at e)
    by Greater is more = more (rw is at e)

pub cmp_equal : (a b : ℕ) → nat_cmp a b ≡ Equal → a ≡ b
cmp_equal a b e = grind (arith, nat_tests)

pub cmp_same : (a : ℕ) → nat_cmp a a ≡ Equal
cmp_same a = grind (arith, nat_tests)

-- what is found has the rate
found-rate : (sums : List RateSum) (rate : ℕ) (at : RateSum) → found sums rate ≡ Some at → at.rate ≡ rate
found-rate [] rate at e = absurd (cc)
found-rate (x ∷ sums) rate at e = by (nat_cmp x.rate rate) refl (found-rate sums rate at)
  where
    by : (o : Ordering) → nat_cmp x.rate rate ≡ o → (found sums rate ≡ Some at → at.rate ≡ rate) → at.rate ≡ rate
    by Equal is more = let f = rw is at e in let same : x ≡ at = cc in sym (ap rate_key same) ∙ cmp_equal x.rate rate is
    by Less is more = more (rw is at e)
    by Greater is more = more (rw is at e)

pub sum_at-rate : (sums : List RateSum) (rate : ℕ) → (sum_at sums rate).rate ≡ rate
sum_at-rate sums rate = by (found sums rate) refl
  where
    by : (o : Option RateSum) → found sums rate ≡ o → (unwrap_or o (empty rate)).rate ≡ rate
    by None e = refl
    by (Some at) e = found-rate sums rate at e

empty_fits : (rate : ℕ) → rate ≤ 10000 → Fits (empty rate)
empty_fits rate low = record { rate = low; left = omega arith; plus = omega arith; plus_tax = omega arith; minus_tax = omega arith }

pub sum_at-fits : (sums : List RateSum) (rate : ℕ) → rate ≤ 10000 → AllByRecursion Fits sums → Fits (sum_at sums rate)
sum_at-fits sums rate low all = by (found sums rate) refl
  where
    by : (o : Option RateSum) → found sums rate ≡ o → Fits (unwrap_or o (empty rate))
    by None e = empty_fits rate low
    by (Some at) e = all-found Fits sums rate at all e

-- none is found below all
none-below : (rate : ℕ) (sums : List RateSum) → AllByRecursion (λ at. nat_cmp rate at.rate ≡ Less) sums → found sums rate ≡ None
none-below rate [] above = refl
none-below rate (at ∷ sums) above =
    let greater : nat_cmp at.rate rate ≡ Greater = nat_cmp_total.antisymm at.rate rate ∙ ap ordering_reverse above.0 in
    rw greater (none-below rate sums above.1)

below-all : (rate : ℕ) (at : RateSum) (sums : List RateSum) → nat_cmp rate at.rate ≡ Less → AllByRecursion (λ other. nat_cmp at.rate other.rate ≡ Less) sums → AllByRecursion (λ other. nat_cmp rate other.rate ≡ Less) sums
below-all rate at [] less above = tt
below-all rate at (other ∷ sums) less above = (nat_cmp_total.trans rate at.rate other.rate less above.0, below-all rate at sums less above.1)

-- what holds of all and of one more holds of all once that is put
all_put : (P : RateSum → Type 0) (sums : List RateSum) (y : RateSum) → AllByRecursion P sums → P y → AllByRecursion P (put nat_cmp rate_key sums y)
all_put P [] y all p = (p, tt)
all_put P (x ∷ sums) y all p = by (all_put P sums y all.1 p) (nat_cmp x.rate y.rate) refl
  where
    by : AllByRecursion P (put nat_cmp rate_key sums y) → (o : Ordering) → nat_cmp x.rate y.rate ≡ o → AllByRecursion P (put nat_cmp rate_key (x ∷ sums) y)
    by more Less e = rw e (all.0, more)
    by more Equal e = rw e (p, all.1)
    by more Greater e = rw e (p, (all.0, all.1))

module _ (f : RateSum → ℕ) where
  abbrev of_found : Option RateSum → ℕ
  of_found None = 0
  of_found (Some at) = f at

  -- one is no more than all together
  pub found-part : (sums : List RateSum) (rate : ℕ) (at : RateSum) → found sums rate ≡ Some at → f at ≤ sum_by f sums
  found-part [] rate at e = absurd (cc)
  found-part (x ∷ sums) rate at e = by (nat_cmp x.rate rate) refl (found-part sums rate at)
    where
      by : (o : Ordering) → nat_cmp x.rate rate ≡ o → (found sums rate ≡ Some at → f at ≤ sum_by f sums) → f at ≤ sum_by f (x ∷ sums)
      by Equal is more = let g = rw is at e in let same : x ≡ at = cc in rw (sum_by-cons f x sums, same) (omega arith)
      by Less is more = let low = more (rw is at e) in rw (sum_by-cons f x sums) (omega (arith, low))
      by Greater is more = let low = more (rw is at e) in rw (sum_by-cons f x sums) (omega (arith, low))

  -- a put changes the sum by what it puts in place of what was there
  sum-put : (sums : List RateSum) (y : RateSum) → Ascends nat_cmp rate_key sums → sum_by f (put nat_cmp rate_key sums y) + of_found (found sums y.rate) ≡ sum_by f sums + f y
  sum-put [] y up = rw (sum_by-cons f y []) (omega arith)
  sum-put (x ∷ sums) y up = by (nat_cmp x.rate y.rate) refl (sum-put sums y up.1)
    where
      by : (o : Ordering) → nat_cmp x.rate y.rate ≡ o → sum_by f (put nat_cmp rate_key sums y) + of_found (found sums y.rate) ≡ sum_by f sums + f y
          → sum_by f (put nat_cmp rate_key (x ∷ sums) y) + of_found (found (x ∷ sums) y.rate) ≡ sum_by f (x ∷ sums) + f y
      by Less is more = rw (is, sum_by-cons f x (put nat_cmp rate_key sums y), sum_by-cons f x sums) (omega (arith, more))
      by Equal is more = rw (is, sum_by-cons f y sums, sum_by-cons f x sums) (omega arith)
      by Greater is more =
          let back : nat_cmp y.rate x.rate ≡ Less = nat_cmp_total.antisymm y.rate x.rate ∙ ap ordering_reverse is in
          rw (is, none-below y.rate sums (below-all y.rate x sums back up.0), sum_by-cons f y (x ∷ sums), sum_by-cons f x sums) (omega arith)

  -- so of the sum that is at the rate
  sum-put_at : (sums : List RateSum) (rate : ℕ) (y : RateSum) → Ascends nat_cmp rate_key sums → y.rate ≡ rate → f (empty rate) ≡ 0
      → sum_by f (put nat_cmp rate_key sums y) + f (sum_at sums rate) ≡ sum_by f sums + f y
  sum-put_at sums rate y up same none =
      by (found sums rate) refl (subst (λ r. sum_by f (put nat_cmp rate_key sums y) + of_found (found sums r) ≡ sum_by f sums + f y) same (sum-put sums y up))
    where
      by : (o : Option RateSum) → found sums rate ≡ o → sum_by f (put nat_cmp rate_key sums y) + of_found (found sums rate) ≡ sum_by f sums + f y
          → sum_by f (put nat_cmp rate_key sums y) + f (unwrap_or o (empty rate)) ≡ sum_by f sums + f y
      by None e all = let a = rw e at all in omega (arith, a, none)
      by (Some at) e all = let a = rw e at all in omega (arith, a)

-- with a position more
pub plus_fits : (state : TaxState) (at : RateSum) (amount : ℕ) → Fits at → at.plus + amount ≤ most → Fits (plus state at amount)
plus_fits state at amount fits room =
    let tax = tax_on-bound state amount at.rate fits.rate in
    record { rate = fits.rate; left = omega (arith, fits.left); plus = room; plus_tax = omega (arith, fits.plus_tax, tax); minus_tax = fits.minus_tax }

pub less_fits : (state : TaxState) (at : RateSum) (amount : ℕ) → Fits at → amount ≤ left_at at → Fits (less state at amount)
less_fits state at amount fits low =
    let tax = tax_on-bound state amount at.rate fits.rate in
    record { rate = fits.rate; left = omega (arith, fits.left, low); plus = fits.plus; plus_tax = fits.plus_tax; minus_tax = omega (arith, fits.minus_tax, tax) }

part-of : (f : RateSum → ℕ) (sums : List RateSum) (rate : ℕ) → f (empty rate) ≡ 0 → f (sum_at sums rate) ≤ sum_by f sums
part-of f sums rate none = by (found sums rate) refl
  where
    by : (o : Option RateSum) → found sums rate ≡ o → f (unwrap_or o (empty rate)) ≤ sum_by f sums
    by None e = omega (arith, none)
    by (Some at) e = found-part f sums rate at e

-- what is added grows the sums by its amount
pub add-grows : (state : TaxState) (sums : List RateSum) (rate amount : ℕ) → AreSums sums → rate ≤ 10000 → sum_by plus_of sums + amount ≤ most → Grows sums (add_at state sums rate amount) amount
add-grows state sums rate amount are low room =
    let at : RateSum = sum_at sums rate in
    let fits : Fits at = sum_at-fits sums rate low are.fit in
    let part : at.plus ≤ sum_by plus_of sums = part-of plus_of sums rate refl in
    let y : RateSum = plus state at amount in
    let more : Fits y = plus_fits state at amount fits (omega (arith, part, room)) in
    let all : sum_by plus_of (put nat_cmp rate_key sums y) + at.plus ≡ sum_by plus_of sums + y.plus = sum-put_at plus_of sums rate y are.ascend (sum_at-rate sums rate) refl in
    let rest : sum_by left_at (put nat_cmp rate_key sums y) + left_at at ≡ sum_by left_at sums + left_at y = sum-put_at left_at sums rate y are.ascend (sum_at-rate sums rate) refl in
    record {
      sums = record {
        ascend = ascends_put nat_cmp rate_key nat_cmp_total sums y are.ascend;
        fit = all_put Fits sums y are.fit more;
        most = omega (arith, all, room);
      };
      plus = omega (arith, all);
      left = omega (arith, rest, fits.left);
    }

-- what is taken off shrinks them by its amount
pub take-shrinks : (state : TaxState) (sums : List RateSum) (rate amount : ℕ) → AreSums sums → rate ≤ 10000 → amount ≤ left_at (sum_at sums rate) → Shrinks sums (take_at state sums rate amount) amount
take-shrinks state sums rate amount are low within =
    let at : RateSum = sum_at sums rate in
    let fits : Fits at = sum_at-fits sums rate low are.fit in
    let y : RateSum = less state at amount in
    let more : Fits y = less_fits state at amount fits within in
    let all : sum_by plus_of (put nat_cmp rate_key sums y) + at.plus ≡ sum_by plus_of sums + y.plus = sum-put_at plus_of sums rate y are.ascend (sum_at-rate sums rate) refl in
    let rest : sum_by left_at (put nat_cmp rate_key sums y) + left_at at ≡ sum_by left_at sums + left_at y = sum-put_at left_at sums rate y are.ascend (sum_at-rate sums rate) refl in
    let plus : sum_by plus_of (put nat_cmp rate_key sums y) ≡ sum_by plus_of sums = omega (arith, all) in
    record {
      sums = record {
        ascend = ascends_put nat_cmp rate_key nat_cmp_total sums y are.ascend;
        fit = all_put Fits sums y are.fit more;
        most = omega (arith, plus, are.most);
      };
      plus = plus;
      left = omega (arith, rest, fits.left, within);
    }

-- and what is left at the rate
pub add-left : (state : TaxState) (sums : List RateSum) (rate amount : ℕ) → AreSums sums → rate ≤ 10000 → left_at (sum_at (add_at state sums rate amount) rate) ≡ left_at (sum_at sums rate) + amount
add-left state sums rate amount are low =
    let at : RateSum = sum_at sums rate in
    let fits : Fits at = sum_at-fits sums rate low are.fit in
    let y : RateSum = plus state at amount in
    let here : sum_at (put nat_cmp rate_key sums y) rate ≡ y = rw (find_put nat_cmp rate_key nat_cmp_total sums y rate, sum_at-rate sums rate, cmp_same rate) refl in
    rw here (omega (arith, fits.left))

pub take-left : (state : TaxState) (sums : List RateSum) (rate amount : ℕ) → amount ≤ left_at (sum_at sums rate) → left_at (sum_at (take_at state sums rate amount) rate) + amount ≡ left_at (sum_at sums rate)
take-left state sums rate amount within =
    let at : RateSum = sum_at sums rate in
    let y : RateSum = less state at amount in
    let here : sum_at (put nat_cmp rate_key sums y) rate ≡ y = rw (find_put nat_cmp rate_key nat_cmp_total sums y rate, sum_at-rate sums rate, cmp_same rate) refl in
    rw here (omega (arith, within))

-- a rate at which something was taken off has a position
pub take-there : (state : TaxState) (sums : List RateSum) (rate amount : ℕ) → IsNew (take_at state sums rate amount) rate → ⊥
take-there state sums rate amount new =
    let y : RateSum = less state (sum_at sums rate) amount in
    let here : found (put nat_cmp rate_key sums y) rate ≡ Some y = rw (find_put nat_cmp rate_key nat_cmp_total sums y rate, sum_at-rate sums rate, cmp_same rate) refl in
    let both : Some y ≡ None = sym here ∙ new in
    absurd cc
