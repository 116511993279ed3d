-- The taxes of what is kept: within what they are the tax of, and those of the positions.
use Rattle.std.proofs.Common.{◌≡◌, ℕ, zero, suc, ◌+◌, ◌-◌, ◌*◌, ◌^◌, ◌≤◌, ℤ, pos, negsuc, ◌+ℤ◌, ◌-ℤ◌, ◌≤ℤ◌, neg_ℤ, List, [], ◌∷◌, map, refl, sym, ap, ◌∙◌, arith}
use Rattle.std.specs.Prelude.{sum_by, unsigned_abs, min}
use Rattle.std.specs.declared.cmp.Ordering.TheVariants.{Less}
use Rattle.std.specs.List.{AllByRecursion}
use Rattle.std.specs.Ordering.{nat_cmp}
use Rattle.std.proofs.lemmas.Int.{ints, clamps}
use Rattle.std.proofs.lemmas.List.Sums.{sum_by-cons}
use Rattle.keyed.specs.Keyed.{Ascends}
use Rattle.cart_price.proofs.Halves.{half_of_product}
use Rattle.cart_price.specs.declared.priced.TaxMode.{TaxMode}
use Rattle.cart_price.specs.declared.priced.TaxMode.TheVariants.{Vertical, Horizontal}
use Rattle.cart_price.specs.declared.priced.TaxState.{TaxState}
use Rattle.cart_price.specs.declared.priced.TaxState.TheVariants.{Gross, Net, Free}
use Rattle.cart_price.specs.declared.priced.TaxSum.{TaxSum}
use Rattle.cart_price.specs.Nearest.{tax_of}
use Rattle.cart_sums.specs.declared.sums.RateSum.{RateSum}
use Rattle.cart_sums.specs.Fits.{AreSums, AreTaxed, Fits, IsTaxed}
use Rattle.cart_sums.specs.Positions as direct
use Rattle.cart_sums.specs.Positions.{Positions, amount_at, at_rate, cut, rates, taxes_at, together}
use Rattle.cart_sums.specs.Sums.{added, left_at, rate_key, sum_of, sums_of, tax_at, tax_sum, tax_sums, taken}
use Rattle.cart_sums.specs.Taxes.{tax_on}
use Rattle.cart_sums.proofs.Kept.{amount_at-is, fit-each, tax_on-zero}
use Rattle.cart_sums.proofs.Sizes.{tax_on-bound}

-- ---- within their amounts

-- the tax of an amount from 0 on has no sign
pub tax_of-pos : (state : TaxState) (n rate : ℕ) → tax_of state (pos n) rate ≡ pos (tax_on state n rate)
tax_of-pos Gross n rate = refl
tax_of-pos Net n rate = refl
tax_of-pos Free n rate = refl

tax_at-bound : (state : TaxState) (mode : TaxMode) (at : RateSum) → Fits at → tax_at state mode at ≤ left_at at
tax_at-bound state Vertical at fits = tax_on-bound state (left_at at) at.rate fits.rate
tax_at-bound state Horizontal at fits = omega arith

is_vertical : (state : TaxState) (mode : TaxMode) (at : RateSum) → mode ≡ Vertical → pos (tax_at state mode at) ≡ tax_of state (pos (left_at at)) at.rate
is_vertical state Vertical at e = sym (tax_of-pos state (left_at at) at.rate)
is_vertical state Horizontal at e = absurd (cc)

one-taxed : (state : TaxState) (mode : TaxMode) (at : RateSum) → Fits at → IsTaxed state mode (tax_sum state mode at)
one-taxed state mode at fits =
    let bound = tax_at-bound state mode at fits in
    record { low = omega (arith, ints); high = omega (arith, ints, bound); vertical = is_vertical state mode at }

each-taxed : (state : TaxState) (mode : TaxMode) (sums : List RateSum) → AllByRecursion Fits sums → AllByRecursion (IsTaxed state mode) (tax_sums state mode sums)
each-taxed state mode [] all = tt
each-taxed state mode (at ∷ sums) all = (one-taxed state mode at all.0, each-taxed state mode sums all.1)

above : (state : TaxState) (mode : TaxMode) (rate : ℕ) (sums : List RateSum) → AllByRecursion (λ at. nat_cmp rate at.rate ≡ Less) sums → AllByRecursion (λ (sum : TaxSum). nat_cmp rate sum.rate ≡ Less) (tax_sums state mode sums)
above state mode rate [] all = tt
above state mode rate (at ∷ sums) all = (all.0, above state mode rate sums all.1)

taxed-ascend : (state : TaxState) (mode : TaxMode) (sums : List RateSum) → Ascends nat_cmp rate_key sums → Ascends nat_cmp (λ (sum : TaxSum). sum.rate) (tax_sums state mode sums)
taxed-ascend state mode [] up = tt
taxed-ascend state mode (at ∷ sums) up = (above state mode at.rate sums up.0, taxed-ascend state mode sums up.1)

taxed-all : (state : TaxState) (mode : TaxMode) (sums : List RateSum) → sum_by (λ (sum : TaxSum). unsigned_abs sum.amount) (tax_sums state mode sums) ≡ sum_by left_at sums
taxed-all state mode [] = refl
taxed-all state mode (at ∷ sums) =
    rw (sum_by-cons (λ (sum : TaxSum). unsigned_abs sum.amount) (tax_sum state mode at) (tax_sums state mode sums), sum_by-cons left_at at sums) (ap (λ n. left_at at + n) (taxed-all state mode sums))

pub sums-taxed : (state : TaxState) (mode : TaxMode) (sums : List RateSum) → AreSums sums → AreTaxed state mode sums (tax_sums state mode sums)
sums-taxed state mode sums are = record {
  ascend = taxed-ascend state mode sums are.ascend;
  each = each-taxed state mode sums are.fit;
  all = taxed-all state mode sums;
}

-- ---- those of the positions

-- the tax of an amount is that of what is added less that of what is taken off
tax_of-parts : (state : TaxState) (x : ℤ) (rate : ℕ) → tax_of state x rate ≡ pos (tax_on state (added x) rate) -ℤ pos (tax_on state (taken x) rate)
tax_of-parts state (pos n) rate = let e = tax_of-pos state n rate in omega (arith, ints, e, tax_on-zero state rate)
tax_of-parts state (negsuc n) rate = let e = below state in omega (arith, ints, e, tax_on-zero state rate)
  where
    below : (state : TaxState) → tax_of state (negsuc n) rate ≡ neg_ℤ (pos (tax_on state (suc n) rate))
    below Gross = sym (half_of_product (negsuc n) rate (10000 + rate) (omega arith))
    below Net = sym (half_of_product (negsuc n) rate 10000 (omega arith))
    below Free = refl

taxes-are : (state : TaxState) (rate : ℕ) (ps : Positions)
    → together (map (λ at. tax_of state at.1 rate) ps) ≡ pos (sum_by (λ at. tax_on state (added at.1) rate) ps) -ℤ pos (sum_by (λ at. tax_on state (taken at.1) rate) ps)
taxes-are state rate [] = refl
taxes-are state rate (p ∷ ps) =
    let here = tax_of-parts state p.1 rate in
    let more = taxes-are state rate ps in
    rw (sum_by-cons (λ (at : ℕ × ℤ). tax_on state (added at.1) rate) p ps, sum_by-cons (λ (at : ℕ × ℤ). tax_on state (taken at.1) rate) p ps) (omega (arith, ints, here, more))

cut-within : (left tax : ℕ) → tax ≤ left → pos tax ≡ cut (pos left) (pos tax)
cut-within left tax low = omega (arith, ints, clamps)

cut-difference : (left plus minus : ℕ) → pos (min (plus - minus) left) ≡ cut (pos left) (pos plus -ℤ pos minus)
cut-difference left plus minus = omega (arith, ints, clamps)

tax_at-is : (state : TaxState) (mode : TaxMode) (ps : Positions) (rate : ℕ) → Fits (sum_of state ps rate) → pos (tax_at state mode (sum_of state ps rate)) ≡ cut (pos (left_at (sum_of state ps rate))) (direct.tax_at state mode ps rate)
tax_at-is state Vertical ps rate fits =
    let left : ℕ = left_at (sum_of state ps rate) in
    cut-within left (tax_on state left rate) (tax_on-bound state left rate fits.rate)
    ∙ ap (cut (pos left)) (sym (tax_of-pos state left rate) ∙ ap (λ amount. tax_of state amount rate) (amount_at-is state ps rate fits))
tax_at-is state Horizontal ps rate fits =
    cut-difference (left_at (sum_of state ps rate)) (sum_of state ps rate).plus_tax (sum_of state ps rate).minus_tax
    ∙ ap (cut (pos (left_at (sum_of state ps rate)))) (sym (taxes-are state rate (at_rate ps rate)))

same_tax : (rate : ℕ) (a b c d : ℤ) → a ≡ c → b ≡ d → (let x : TaxSum = record { amount = a; rate = rate; tax = b } in x) ≡ record { amount = c; rate = rate; tax = d }
same_tax rate a b c d e f = rw (e, f) refl

tax_sum-is : (state : TaxState) (mode : TaxMode) (ps : Positions) (rate : ℕ) → Fits (sum_of state ps rate) → tax_sum state mode (sum_of state ps rate) ≡ direct.tax_sum state mode ps rate
tax_sum-is state mode ps rate fits =
    same_tax rate _ _ _ _ (amount_at-is state ps rate fits)
    (tax_at-is state mode ps rate fits ∙ ap (λ amount. cut amount (direct.tax_at state mode ps rate)) (amount_at-is state ps rate fits))

taxes-agree : (state : TaxState) (mode : TaxMode) (ps : Positions) (rs : List ℕ) → AllByRecursion (λ rate. Fits (sum_of state ps rate)) rs → tax_sums state mode (map (sum_of state ps) rs) ≡ map (direct.tax_sum state mode ps) rs
taxes-agree state mode ps [] all = refl
taxes-agree state mode ps (r ∷ rs) all = rw (tax_sum-is state mode ps r all.0, taxes-agree state mode ps rs all.1) refl

pub taxes-kept : (state : TaxState) (mode : TaxMode) (ps : Positions) → AreSums (sums_of state ps) → tax_sums state mode (sums_of state ps) ≡ direct.tax_sums state mode ps
taxes-kept state mode ps are = taxes-agree state mode ps (rates ps) (fit-each state ps (rates ps) are.fit)
