-- How positions are kept: the sums at each rate, what is added and what is taken off apart.
use Rattle.std.specs.Prelude.{◌≡◌, None, ℕ, ◌+◌, ◌-◌, min, ℤ, pos, negsuc, suc, unsigned_abs, List, [], ◌∷◌, map, sum_by, unwrap_or}
use Rattle.std.specs.List.{fold}
use Rattle.std.specs.Ordering.{nat_cmp}
use Rattle.keyed.specs.Keyed.{find, put}
use Rattle.cart_price.specs.declared.priced.Discount.{Discount}
use Rattle.cart_price.specs.declared.priced.TaxState.{TaxState}
use Rattle.cart_price.specs.declared.priced.TaxMode.{TaxMode}
use Rattle.cart_price.specs.declared.priced.TaxMode.TheVariants as M
use Rattle.cart_price.specs.declared.priced.TaxSum.{TaxSum}
use Rattle.cart_price.specs.LargestRemainder.{shares}
use Rattle.cart_sums.specs.declared.sums.RateSum.{RateSum}
use Rattle.cart_sums.specs.Positions.{at_rate, rates}
use Rattle.cart_sums.specs.Taxes.{tax_on}

-- ---- which sums are those of positions

-- what a number is above 0, and what it is below
abbrev pub added : ℤ → ℕ
added (pos n) = n
added (negsuc n) = 0

abbrev pub taken : ℤ → ℕ
taken (pos n) = 0
taken (negsuc n) = suc n

-- the sums of the positions at a rate
abbrev pub sum_of : TaxState → List (ℕ × ℤ) → ℕ → RateSum
sum_of state positions rate = record {
  rate = rate;
  plus = sum_by (λ at. added at.1) (at_rate positions rate);
  minus = sum_by (λ at. taken at.1) (at_rate positions rate);
  plus_tax = sum_by (λ at. tax_on state (added at.1) rate) (at_rate positions rate);
  minus_tax = sum_by (λ at. tax_on state (taken at.1) rate) (at_rate positions rate);
}

-- the sums of positions at each of their rates
abbrev pub sums_of : TaxState → List (ℕ × ℤ) → List RateSum
sums_of state positions = map (sum_of state positions) (rates positions)

-- ---- how they change

abbrev pub rate_key : RateSum → ℕ
rate_key at = at.rate

abbrev pub plus_of : RateSum → ℕ
plus_of at = at.plus

-- what is left of the positions at a rate
abbrev pub left_at : RateSum → ℕ
left_at at = at.plus - at.minus

-- with one position of that amount more, and with one of that amount below 0
abbrev pub plus : TaxState → RateSum → ℕ → RateSum
plus state at amount = record at { plus = at.plus + amount; plus_tax = at.plus_tax + tax_on state amount at.rate }

abbrev pub less : TaxState → RateSum → ℕ → RateSum
less state at amount = record at { minus = at.minus + amount; minus_tax = at.minus_tax + tax_on state amount at.rate }

-- a rate without positions
abbrev pub empty : ℕ → RateSum
empty rate = record { rate = rate; plus = 0; minus = 0; plus_tax = 0; minus_tax = 0 }

abbrev pub sum_at : List RateSum → ℕ → RateSum
sum_at sums rate = unwrap_or (find nat_cmp rate_key sums rate) (empty rate)

-- there is no position at the rate
abbrev pub IsNew : List RateSum → ℕ → Type 0
IsNew sums rate = find nat_cmp rate_key sums rate ≡ None

abbrev pub add_at : TaxState → List RateSum → ℕ → ℕ → List RateSum
add_at state sums rate amount = put nat_cmp rate_key sums (plus state (sum_at sums rate) amount)

abbrev pub take_at : TaxState → List RateSum → ℕ → ℕ → List RateSum
take_at state sums rate amount = put nat_cmp rate_key sums (less state (sum_at sums rate) amount)

-- each rate with what is left at it
abbrev pub bases : List RateSum → List (ℕ × ℤ)
bases sums = map (λ at. (at.rate, pos (left_at at))) sums

-- with one part taken off at each rate, in their order
abbrev pub bear_less : TaxState → List RateSum → List (ℕ × ℤ) → List RateSum
bear_less state [] parts = []
bear_less state (at ∷ sums) [] = at ∷ sums
bear_less state (at ∷ sums) (part ∷ parts) = less state at (unsigned_abs part.1) ∷ bear_less state sums parts

abbrev pub take_shared : TaxState → List RateSum → ℕ → List RateSum
take_shared state sums amount = bear_less state sums (shares amount (bases sums))

abbrev pub take_goods : TaxState → List RateSum → List Discount → List RateSum
take_goods state sums discounts = fold (λ less discount. take_shared state less (unsigned_abs discount.amount)) sums discounts

abbrev pub take_delivery : TaxState → List RateSum → ℕ → List Discount → List RateSum
take_delivery state sums rate discounts = fold (λ less discount. take_at state less rate (unsigned_abs discount.amount)) sums discounts

-- ---- their taxes

-- the tax at a rate: none is above what is left there
abbrev pub tax_at : TaxState → TaxMode → RateSum → ℕ
tax_at state M.Vertical at = tax_on state (left_at at) at.rate
tax_at state M.Horizontal at = min (at.plus_tax - at.minus_tax) (left_at at)

abbrev pub tax_sum : TaxState → TaxMode → RateSum → TaxSum
tax_sum state mode at = record { amount = pos (left_at at); rate = at.rate; tax = pos (tax_at state mode at) }

abbrev pub tax_sums : TaxState → TaxMode → List RateSum → List TaxSum
tax_sums state mode sums = map (tax_sum state mode) sums
