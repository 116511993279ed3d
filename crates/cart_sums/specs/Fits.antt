-- What holds of the sums at tax rates, whatever is added and taken off.
use Rattle.std.specs.Prelude.{◌≡◌, ℕ, ◌+◌, ◌≤◌, pos, ◌≤ℤ◌, unsigned_abs, List, sum_by}
use Rattle.std.specs.List.{AllByRecursion}
use Rattle.std.specs.Ordering.{nat_cmp}
use Rattle.keyed.specs.Keyed.{Ascends}
use Rattle.cart_price.specs.declared.priced.TaxMode.{TaxMode}
use Rattle.cart_price.specs.declared.priced.TaxMode.TheVariants as M
use Rattle.cart_price.specs.declared.priced.TaxState.{TaxState}
use Rattle.cart_price.specs.declared.priced.TaxSum.{TaxSum}
use Rattle.cart_price.specs.Nearest.{tax_of}
use Rattle.cart_sums.specs.declared.sums.RateSum.{RateSum}
use Rattle.cart_sums.specs.Sums.{left_at, plus_of, rate_key}
use Rattle.cart_sums.specs.Taxes.{most}

-- at a rate no more is taken off than was added, and no tax is more than what is taxed
pub record Fits (at : RateSum) : Type 0 where
  pub rate : at.rate ≤ 10000
  pub left : at.minus ≤ at.plus
  pub plus : at.plus ≤ most
  pub plus_tax : at.plus_tax ≤ at.plus
  pub minus_tax : at.minus_tax ≤ at.minus

-- rates ascend, so it is at each, and what was added at all of them is in range
pub record AreSums (sums : List RateSum) : Type 0 where
  pub ascend : Ascends nat_cmp rate_key sums
  pub fit : AllByRecursion Fits sums
  pub most : sum_by plus_of sums ≤ most

-- what was added at all rates, and what is left there, grew by an amount
pub record Grows (before after : List RateSum) (amount : ℕ) : Type 0 where
  pub sums : AreSums after
  pub plus : sum_by plus_of after ≡ sum_by plus_of before + amount
  pub left : sum_by left_at after ≡ sum_by left_at before + amount

-- what is left at all rates shrank by an amount
pub record Shrinks (before after : List RateSum) (amount : ℕ) : Type 0 where
  pub sums : AreSums after
  pub plus : sum_by plus_of after ≡ sum_by plus_of before
  pub left : sum_by left_at after + amount ≡ sum_by left_at before

-- a tax is from 0 to its amount, and in a vertical cart it is the tax of its amount
pub record IsTaxed (state : TaxState) (mode : TaxMode) (sum : TaxSum) : Type 0 where
  pub low : pos 0 ≤ℤ sum.tax
  pub high : sum.tax ≤ℤ sum.amount
  pub vertical : mode ≡ M.Vertical → sum.tax ≡ tax_of state sum.amount sum.rate

-- so is each tax, rates ascend, and the amounts are what is left at all rates
pub record AreTaxed (state : TaxState) (mode : TaxMode) (sums : List RateSum) (taxes : List TaxSum) : Type 0 where
  pub ascend : Ascends nat_cmp (λ sum. sum.rate) taxes
  pub each : AllByRecursion (IsTaxed state mode) taxes
  pub all : sum_by (λ sum. unsigned_abs sum.amount) taxes ≡ sum_by left_at sums
