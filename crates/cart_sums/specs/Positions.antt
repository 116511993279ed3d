-- What a cart comes to, position by position. A position is a tax rate and an amount, which is below 0 where it is taken off.
use Rattle.std.specs.Prelude.{ℕ, ◌==◌, ℤ, pos, ◌+ℤ◌, neg_ℤ, unsigned_abs, List, [], ◌∷◌, ◌++◌, map, filter}
use Rattle.std.specs.Int.{int_max, int_min}
use Rattle.std.specs.List.{fold}
use Rattle.std.specs.Ordering.{nat_cmp}
use Rattle.keyed.specs.Keyed.{put}
use Rattle.cart_price.specs.declared.priced.Discount.{Discount}
use Rattle.cart_price.specs.declared.priced.TaxMode.{TaxMode}
use Rattle.cart_price.specs.declared.priced.TaxMode.TheVariants as M
use Rattle.cart_price.specs.declared.priced.TaxState.{TaxState}
use Rattle.cart_price.specs.declared.priced.TaxSum.{TaxSum}
use Rattle.cart_price.specs.LargestRemainder.{shares}
use Rattle.cart_price.specs.Nearest.{tax_of}

abbrev pub Positions : Type 0
Positions = List (ℕ × ℤ)

abbrev pub itself : ℕ → ℕ
itself rate = rate

-- the rates of positions, ascending, each once
abbrev pub rates : Positions → List ℕ
rates positions = fold (λ found at. put nat_cmp itself found at.0) [] positions

-- the positions at a rate
abbrev pub at_rate : Positions → ℕ → Positions
at_rate positions rate = filter (λ at. at.0 == rate) positions

-- numbers together
abbrev pub together : List ℤ → ℤ
together [] = pos 0
together (n ∷ ns) = n +ℤ together ns

-- what the positions at a rate come to, and what their taxes do
abbrev pub amount_at : Positions → ℕ → ℤ
amount_at positions rate = together (map (λ at. at.1) (at_rate positions rate))

abbrev pub taxes_at : TaxState → Positions → ℕ → ℤ
taxes_at state positions rate = together (map (λ at. tax_of state at.1 rate) (at_rate positions rate))

-- the tax at a rate: of what its positions come to, or what their taxes come to
abbrev pub tax_at : TaxState → TaxMode → Positions → ℕ → ℤ
tax_at state M.Vertical positions rate = tax_of state (amount_at positions rate) rate
tax_at state M.Horizontal positions rate = taxes_at state positions rate

-- cut to between 0 and an amount
abbrev pub cut : ℤ → ℤ → ℤ
cut amount tax = int_max (pos 0) (int_min tax amount)

abbrev pub tax_sum : TaxState → TaxMode → Positions → ℕ → TaxSum
tax_sum state mode positions rate = record {
  amount = amount_at positions rate;
  rate = rate;
  tax = cut (amount_at positions rate) (tax_at state mode positions rate);
}

-- what the positions come to at each of their rates, and the tax of that
abbrev pub tax_sums : TaxState → TaxMode → Positions → List TaxSum
tax_sums state mode positions = map (tax_sum state mode positions) (rates positions)

-- each rate with what its positions come to
abbrev pub bases : Positions → Positions
bases positions = map (λ rate. (rate, amount_at positions rate)) (rates positions)

abbrev pub negated : ℕ × ℤ → ℕ × ℤ
negated position = (position.0, neg_ℤ position.1)

-- the positions and an amount below 0, which is shared among the rates by what is left at each
abbrev pub with_shared : Positions → ℕ → Positions
with_shared positions amount = positions ++ map negated (shares amount (bases positions))

-- so with each of the discounts on goods
abbrev pub goods_less : Positions → List Discount → Positions
goods_less positions discounts = fold (λ less discount. with_shared less (unsigned_abs discount.amount)) positions discounts

-- the discounts on a delivery, at the delivery's rate
abbrev pub taken_at : ℕ → List Discount → Positions
taken_at rate discounts = map (λ discount. (rate, neg_ℤ (pos (unsigned_abs discount.amount)))) discounts
