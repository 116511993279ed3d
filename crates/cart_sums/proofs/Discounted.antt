-- Discounts never exceed what they are taken off.
use Rattle.std.proofs.Common.{◌≡◌, ℕ, zero, suc, ◌+◌, ◌-◌, ◌*◌, ◌≤◌, ◌<◌, true, false, List, [], ◌∷◌, ◌++◌, length, refl, sym, ap, subst, ◌∙◌, arith, length-append}
use Rattle.std.specs.Prelude.{Bool, pos, ◌<ℤ◌, unsigned_abs, ◌==◌, ◌||◌, nat_le, sum_by, min, if◌then◌else◌}
use Rattle.std.specs.List.{AllByRecursion, fold}
use Rattle.std.proofs.lemmas.Bool.Decides.{nat_tests}
use Rattle.std.proofs.lemmas.Int.{ints}
use Rattle.std.proofs.lemmas.List.Sums.{sum_by_push}
use Rattle.cart_price.specs.declared.priced.Discount.{Discount}
use Rattle.cart_price.specs.Nearest.{half_up}
use Rattle.cart_sums.specs.declared.discounts.Offer.{Offer}
use Rattle.cart_sums.specs.declared.discounts.Reduction.{Reduction}
use Rattle.cart_sums.specs.declared.discounts.Reduction.TheVariants as R
use Rattle.cart_sums.specs.declared.discounts.Taken.{Taken}
use Rattle.cart_sums.specs.Discounts.{IsTakenOff, discount_of, take_all, take_off, taken_off, total_off}

all_push : (P : Discount → Type 0) (discounts : List Discount) (discount : Discount) → AllByRecursion P discounts → P discount → AllByRecursion P (discounts ++ discount ∷ [])
all_push P [] discount all p = (p, tt)
all_push P (x ∷ discounts) discount all p = (all.0, all_push P discounts discount all.1 p)

taken_off-bound : (reduction : Reduction) (left : ℕ) → taken_off reduction left ≤ left
taken_off-bound (R.Amount value) left = omega arith
taken_off-bound (R.Percent value) left = omega arith

-- with a discount above 0 that is no more than what is left
pushed : (whole : ℕ) (taken : Taken) (offer : Offer) (amount : ℕ) → IsTakenOff whole taken → amount ≤ taken.left → 0 < amount → length taken.discounts < 50
    → IsTakenOff whole (record { left = taken.left - amount; discounts = taken.discounts ++ (discount_of offer amount ∷ []) })
pushed whole taken offer amount is within some room = record {
  sum = rw (sum_by_push (λ (d : Discount). unsigned_abs d.amount) taken.discounts (discount_of offer amount)) (omega (arith, is.sum, within));
  above = all_push (λ discount. pos 0 <ℤ discount.amount) taken.discounts (discount_of offer amount) is.above (omega (arith, ints));
  most = omega (arith, length-append taken.discounts (discount_of offer amount ∷ []));
}

room : (amount taken : ℕ) → ((amount == 0) || nat_le 50 taken) ≡ false → (0 < amount) × (taken < 50)
room amount taken e = (grind (arith, nat_tests), grind (arith, nat_tests))

-- so with one offer more
taken_more : (whole : ℕ) (taken : Taken) (offer : Offer) → IsTakenOff whole taken → IsTakenOff whole (take_off taken offer)
unfolding take_off
taken_more whole taken offer is = by ((taken_off offer.reduction taken.left == 0) || nat_le 50 (length taken.discounts)) refl
  where
    by : (none : Bool) → ((taken_off offer.reduction taken.left == 0) || nat_le 50 (length taken.discounts)) ≡ none
        → IsTakenOff whole (if none then taken else record { left = taken.left - taken_off offer.reduction taken.left; discounts = taken.discounts ++ (discount_of offer (taken_off offer.reduction taken.left) ∷ []) })
    by true e = is
    by false e = let some = room (taken_off offer.reduction taken.left) (length taken.discounts) e in
        pushed whole taken offer (taken_off offer.reduction taken.left) is (taken_off-bound offer.reduction taken.left) some.0 some.1

taken_all : (whole : ℕ) (taken : Taken) (offers : List Offer) → IsTakenOff whole taken → IsTakenOff whole (fold take_off taken offers)
taken_all whole taken [] is = is
taken_all whole taken (offer ∷ offers) is = taken_all whole (take_off taken offer) offers (taken_more whole taken offer is)

-- so with all offers
pub discounts-within : (left : ℕ) (offers : List Offer) → IsTakenOff left (take_all left offers)
discounts-within left offers = taken_all left (record { left = left; discounts = [] }) offers (record { sum = omega arith; above = tt; most = omega arith })

-- an offer more takes no discount back
no-fewer : (taken : Taken) (offer : Offer) → length taken.discounts ≤ length (take_off taken offer).discounts
unfolding take_off
no-fewer taken offer = by ((taken_off offer.reduction taken.left == 0) || nat_le 50 (length taken.discounts))
  where
    by : (none : Bool) → length taken.discounts ≤ length (if none then taken else record { left = taken.left - taken_off offer.reduction taken.left; discounts = taken.discounts ++ (discount_of offer (taken_off offer.reduction taken.left) ∷ []) }).discounts
    by true = omega arith
    by false = omega (arith, length-append taken.discounts (discount_of offer (taken_off offer.reduction taken.left) ∷ []))

pub none-taken-back : (taken : Taken) (offers : List Offer) → length taken.discounts ≤ length (fold take_off taken offers).discounts
none-taken-back taken [] = omega arith
none-taken-back taken (offer ∷ offers) = omega (arith, no-fewer taken offer, none-taken-back (take_off taken offer) offers)
