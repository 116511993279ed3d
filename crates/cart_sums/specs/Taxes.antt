-- The tax of an amount from 0 on.
use Rattle.std.specs.Prelude.{ℕ, ◌*◌, ◌^◌, pos, unsigned_abs}
use Rattle.cart_price.specs.declared.priced.TaxState.{TaxState}
use Rattle.cart_price.specs.Nearest.{tax_of}

-- all positions above 0 come to no more than that
abbrev pub most : ℕ
most = 2 * 10 ^ 18

-- the tax of an amount from 0 on: that of the same amount below 0 is as much below 0
abbrev pub tax_on : TaxState → ℕ → ℕ → ℕ
tax_on state amount rate = unsigned_abs (tax_of state (pos amount) rate)
