-- What the numbers of a cart with its prices are to each other.
use Rattle.std.specs.Prelude.{◌≡◌, ℤ, pos, ◌≤ℤ◌, ◌<ℤ◌, ◌+ℤ◌, ◌-ℤ◌, unsigned_abs, List, map, length, ◌≤◌, Option, Some, None}
use Rattle.std.specs.List.{AllByRecursion}
use Rattle.std.specs.Ordering.{nat_cmp}
use Rattle.keyed.specs.Keyed.{Ascends}
use Rattle.cart_price.specs.declared.priced.Delivery.{Delivery}
use Rattle.cart_price.specs.declared.priced.Discount.{Discount}
use Rattle.cart_price.specs.declared.priced.PricedCart.{PricedCart}
use Rattle.cart_price.specs.declared.priced.PricedLine.{PricedLine}
use Rattle.cart_price.specs.declared.priced.TaxMode.{TaxMode}
use Rattle.cart_price.specs.declared.priced.TaxState.{TaxState}
use Rattle.cart_price.specs.declared.priced.TaxState.TheVariants as S
use Rattle.cart_price.specs.declared.priced.TaxSum.{TaxSum}
use Rattle.cart_price.specs.Nearest.{IsWithinHalf}
use Rattle.cart_sums.specs.Fits.{IsTaxed}
use Rattle.cart_sums.specs.Positions.{together}

-- what a delivery costs, and nothing where there is none
abbrev pub cost_shown : Option Delivery → ℤ
cost_shown None = pos 0
cost_shown (Some delivery) = delivery.cost

abbrev pub totals : List PricedLine → ℤ
totals lines = together (map (λ line. line.total) lines)

abbrev pub taken : List Discount → ℤ
taken discounts = together (map (λ discount. discount.amount) discounts)

abbrev pub taxed : List TaxSum → ℤ
taxed taxes = together (map (λ sum. sum.tax) taxes)

abbrev pub amounts : List TaxSum → ℤ
amounts taxes = together (map (λ sum. sum.amount) taxes)

-- tax is added to prices in the net state alone
abbrev pub added : TaxState → ℤ → ℤ
added S.Net tax = tax
added state tax = pos 0

-- each discount takes off something, there are up to 50, and together they take off no more than there is
pub record AreTaken (whole : ℤ) (discounts : List Discount) : Type 0 where
  pub above : AllByRecursion (λ discount. pos 0 <ℤ discount.amount) discounts
  pub few : length discounts ≤ 50
  pub within : taken discounts ≤ℤ whole

-- the numbers of a cart add up, and what is to be paid is no more than half an interval away from that
pub record AddsUp (state : TaxState) (interval : ℤ) (cart : PricedCart) : Type 0 where
  pub goods : cart.goods ≡ totals cart.lines
  pub discounts : AreTaken cart.goods cart.discounts
  pub delivery_discounts : AreTaken (cost_shown cart.delivery) cart.delivery_discounts
  pub tax : cart.tax ≡ taxed cart.taxes
  pub raw : cart.raw ≡ ((cart.goods -ℤ taken cart.discounts) +ℤ (cost_shown cart.delivery -ℤ taken cart.delivery_discounts)) +ℤ added state cart.tax
  pub rates : cart.raw ≡ amounts cart.taxes +ℤ added state cart.tax
  pub total : IsWithinHalf (unsigned_abs interval) cart.raw cart.total

-- rates ascend, and each tax is from 0 to its amount, and in a vertical cart that of its amount
pub record AreTaxesShown (state : TaxState) (mode : TaxMode) (taxes : List TaxSum) : Type 0 where
  pub ascend : Ascends nat_cmp (λ sum. sum.rate) taxes
  pub each : AllByRecursion (IsTaxed state mode) taxes
