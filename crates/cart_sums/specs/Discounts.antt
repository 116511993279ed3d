-- What offers take off an amount, one after the other.
use Rattle.std.specs.Prelude.{◌≡◌, ℕ, ◌+◌, ◌-◌, ◌*◌, ◌≤◌, min, pos, ◌<ℤ◌, unsigned_abs, ◌==◌, ◌||◌, nat_le, List, [], ◌∷◌, ◌++◌, length, sum_by, if◌then◌else◌}
use Rattle.std.specs.List.{fold, AllByRecursion}
use Rattle.cart_price.specs.declared.priced.Discount.{Discount}
use Rattle.cart_price.specs.Nearest.{half_up}
use Rattle.cart_sums.specs.declared.discounts.Offer.{Offer}
use Rattle.cart_sums.specs.declared.discounts.Reduction.{Reduction}
use Rattle.cart_sums.specs.declared.discounts.Reduction.TheVariants as R
use Rattle.cart_sums.specs.declared.discounts.Taken.{Taken}

-- by how much an amount is lowered: by no more than all of it
abbrev pub taken_off : Reduction → ℕ → ℕ
taken_off (R.Amount value) left = min left value
taken_off (R.Percent value) left = min left (half_up (left * value) 10000)

abbrev pub discount_of : Offer → ℕ → Discount
discount_of offer amount = record { amount = pos amount; discount = offer.discount; promotion = offer.promotion }

-- what is left with one offer more: one that takes nothing off is left out, and after the 50th none is taken
unfoldable pub take_off : Taken → Offer → Taken
take_off taken offer =
    let amount = taken_off offer.reduction taken.left in
    if (amount == 0) || nat_le 50 (length taken.discounts) then taken
    else record { left = taken.left - amount; discounts = taken.discounts ++ (discount_of offer amount ∷ []) }

-- what all offers leave of an amount, one after the other
abbrev pub take_all : ℕ → List Offer → Taken
take_all left offers = fold take_off (record { left = left; discounts = [] }) offers

-- discounts together
abbrev pub total_off : List Discount → ℕ
total_off discounts = sum_by (λ discount. unsigned_abs discount.amount) discounts

-- discounts never exceed what they are taken off: together with what is left they are what was there
pub record IsTakenOff (whole : ℕ) (taken : Taken) : Type 0 where
  pub sum : taken.left + total_off taken.discounts ≡ whole
  pub above : AllByRecursion (λ discount. pos 0 <ℤ discount.amount) taken.discounts
  pub most : length taken.discounts ≤ 50
