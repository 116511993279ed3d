-- The tax of an amount, and amounts rounded to an interval. Amounts are in minor units, rates in hundredths of a percent.
use Rattle.std.specs.Prelude.{◌≡◌, ℕ, ◌+◌, ◌*◌, ◌/◌, ◌^◌, ◌≤◌, ℤ, pos, negsuc, ◌*ℤ◌, ◌-ℤ◌, unsigned_abs, Bool, false, ◌||◌, ◌==◌}
use lib.IntN.{neg_ℤ}
use Rattle.cart_price.specs.declared.priced.TaxState.{TaxState}
use Rattle.cart_price.specs.declared.priced.TaxState.TheVariants.{Gross, Net, Free}

-- an amount that is taxed and rounded: no further from zero than 4 * 10^18
abbrev pub IsAmount : ℤ → Type 0
IsAmount amount = unsigned_abs amount ≤ 4 * 10 ^ 18

-- n / d rounded to the nearest whole number, a half up
abbrev pub half_up : ℕ → ℕ → ℕ
half_up n d = (2 * n + d) / (2 * d)

-- the number of that size with the sign of another
abbrev pub with_sign_of : ℤ → ℕ → ℤ
with_sign_of (pos n) size = pos size
with_sign_of (negsuc n) size = neg_ℤ (pos size)

-- n / d rounded to the nearest whole number, a half away from zero
abbrev pub half : ℤ → ℕ → ℤ
half n d = with_sign_of n (half_up (unsigned_abs n) d)

-- the tax of an amount: its part in a gross amount, what is added to a net one, and none without tax
abbrev pub tax_of : TaxState → ℤ → ℕ → ℤ
tax_of Gross amount rate = half (amount *ℤ pos rate) (10000 + rate)
tax_of Net amount rate = half (amount *ℤ pos rate) 10000
tax_of Free amount rate = pos 0

-- to what amounts are rounded
abbrev pub is_interval : ℤ → Bool
is_interval (pos n) = (n == 1) || (n == 5) || (n == 10) || (n == 50) || (n == 100)
is_interval (negsuc n) = false

-- the nearest multiple of the interval, a half away from zero
abbrev pub rounded : ℤ → ℤ → ℤ
rounded amount interval = half amount (unsigned_abs interval) *ℤ interval

-- m is at most half of d away from n, and where it is just half, it is the one that is further from zero
abbrev pub IsWithinHalf : ℕ → ℤ → ℤ → Type 0
IsWithinHalf d n m =
    (2 * unsigned_abs (m -ℤ n) ≤ d)
    × (2 * unsigned_abs (m -ℤ n) ≡ d → unsigned_abs n ≤ unsigned_abs m)

-- q is the whole number nearest to n / d, and of two that are as near the one further from zero
abbrev pub IsNearest : ℤ → ℕ → ℤ → Type 0
IsNearest n d q = IsWithinHalf d n (q *ℤ pos d)

-- the same of the tax of an amount: to r parts of 10000 + r of a gross amount, and of 10000 of a net one
abbrev pub IsNearestTax : TaxState → ℤ → ℕ → ℤ → Type 0
IsNearestTax Gross amount rate tax = IsNearest (amount *ℤ pos rate) (10000 + rate) tax
IsNearestTax Net amount rate tax = IsNearest (amount *ℤ pos rate) 10000 tax
IsNearestTax Free amount rate tax = tax ≡ pos 0
