-- What is left at each rate once an amount is shared among them.
use Rattle.std.proofs.Common.{◌≡◌, ℕ, ◌+◌, ◌-◌, ◌*◌, ◌^◌, ◌≤◌, ℤ, pos, ◌≤ℤ◌, suc, List, [], ◌∷◌, length, map, refl, sym, ap, ◌∙◌, arith}
use Rattle.std.specs.Prelude.{unsigned_abs, sum_by}
use Rattle.std.specs.declared.cmp.Ordering.TheVariants.{Less}
use Rattle.std.specs.List.{AllByRecursion, AllZip}
use Rattle.std.specs.Ordering.{nat_cmp}
use Rattle.std.proofs.lemmas.Int.{ints}
use Rattle.std.proofs.lemmas.List.Sums.{sum_by-cons}
use Rattle.keyed.specs.Keyed.{Ascends}
use Rattle.cart_price.specs.declared.priced.TaxState.{TaxState}
use Rattle.cart_price.proofs.Sharing.{rise_of, shares_are_parts, shares_sum}
use Rattle.cart_price.specs.declared.priced.Discount.{Discount}
use Rattle.cart_price.specs.LargestRemainder.{IsPartOf, shares, total}
use Rattle.cart_sums.specs.declared.sums.RateSum.{RateSum}
use Rattle.cart_sums.specs.Fits.{AreSums, Fits, Shrinks}
use Rattle.cart_sums.specs.Discounts.{total_off}
use Rattle.cart_sums.specs.Sums.{bases, bear_less, left_at, less, plus_of, rate_key, sum_at, take_at, take_delivery, take_goods, take_shared}
use Rattle.cart_sums.proofs.Growth.{less_fits, take-left, take-shrinks}

-- rates ascend in what is left at them
above : (rate : ℕ) (sums : List RateSum) → AllByRecursion (λ at. nat_cmp rate at.rate ≡ Less) sums → AllByRecursion (λ base. nat_cmp rate base.0 ≡ Less) (bases sums)
above rate [] all = tt
above rate (at ∷ sums) all = (all.0, above rate sums all.1)

pub bases-ascend : (sums : List RateSum) → Ascends nat_cmp rate_key sums → Ascends nat_cmp (λ base. base.0) (bases sums)
bases-ascend [] up = tt
bases-ascend (at ∷ sums) up = (above at.rate sums up.0, bases-ascend sums up.1)

-- nothing that is left is below 0
pub bases-natural : (sums : List RateSum) → AllByRecursion (λ base. pos 0 ≤ℤ base.1) (bases sums)
bases-natural [] = tt
bases-natural (at ∷ sums) = (omega (arith, ints), bases-natural sums)

-- a part that is no more than what is left is a number from 0 on that is no more
size : (z : ℤ) (most : ℕ) → pos 0 ≤ℤ z → z ≤ℤ pos most → unsigned_abs z ≤ most
size z most low high = omega (arith, ints)

-- each rate keeps its bounds
pub less_keeps : (state : TaxState) (sums : List RateSum) (parts : List (ℕ × ℤ)) → AllByRecursion Fits sums → AllZip IsPartOf parts (bases sums) → AllByRecursion Fits (bear_less state sums parts)
less_keeps state [] parts fit are = tt
less_keeps state (at ∷ sums) [] fit are = fit
less_keeps state (at ∷ sums) (part ∷ parts) fit are =
    (less_fits state at (unsigned_abs part.1) fit.0 (size part.1 (left_at at) are.0.1 are.0.2), less_keeps state sums parts fit.1 are.1)

-- the rates stay in order
pub less_above : (state : TaxState) (rate : ℕ) (sums : List RateSum) (parts : List (ℕ × ℤ)) → AllByRecursion (λ at. nat_cmp rate at.rate ≡ Less) sums → AllByRecursion (λ at. nat_cmp rate at.rate ≡ Less) (bear_less state sums parts)
less_above state rate [] parts all = tt
less_above state rate (at ∷ sums) [] all = all
less_above state rate (at ∷ sums) (part ∷ parts) all = (all.0, less_above state rate sums parts all.1)

pub less_ascend : (state : TaxState) (sums : List RateSum) (parts : List (ℕ × ℤ)) → Ascends nat_cmp rate_key sums → Ascends nat_cmp rate_key (bear_less state sums parts)
less_ascend state [] parts up = tt
less_ascend state (at ∷ sums) [] up = up
less_ascend state (at ∷ sums) (part ∷ parts) up = (less_above state at.rate sums parts up.0, less_ascend state sums parts up.1)

-- what is left at all rates together is less by the parts
pub less_left : (state : TaxState) (sums : List RateSum) (parts : List (ℕ × ℤ)) → AllByRecursion Fits sums → AllZip IsPartOf parts (bases sums) → sum_by left_at (bear_less state sums parts) + total parts ≡ sum_by left_at sums
less_left state [] [] fit are = refl
less_left state [] (part ∷ parts) fit are = absurd are
less_left state (at ∷ sums) [] fit are = absurd are
less_left state (at ∷ sums) (part ∷ parts) fit are =
    let low = size part.1 (left_at at) are.0.1 are.0.2 in
    let more = less_left state sums parts fit.1 are.1 in
    let one : (at.plus - (at.minus + unsigned_abs part.1)) + unsigned_abs part.1 ≡ at.plus - at.minus = omega (arith, low) in
    rw (sum_by-cons left_at (less state at (unsigned_abs part.1)) (bear_less state sums parts), sum_by-cons (λ (p : ℕ × ℤ). unsigned_abs p.1) part parts, sum_by-cons left_at at sums) (omega (arith, more, one))

-- what was added stays
less_plus : (state : TaxState) (sums : List RateSum) (parts : List (ℕ × ℤ)) → sum_by plus_of (bear_less state sums parts) ≡ sum_by plus_of sums
less_plus state [] parts = refl
less_plus state (at ∷ sums) [] = refl
less_plus state (at ∷ sums) (part ∷ parts) =
    rw (sum_by-cons plus_of (less state at (unsigned_abs part.1)) (bear_less state sums parts), sum_by-cons plus_of at sums) (ap (λ n. at.plus + n) (less_plus state sums parts))

-- so an amount that is shared among the rates shrinks the sums by it
pub shared-shrinks : (state : TaxState) (sums : List RateSum) (parts : List (ℕ × ℤ)) (amount : ℕ) → AreSums sums → AllZip IsPartOf parts (bases sums) → total parts ≡ amount → Shrinks sums (bear_less state sums parts) amount
shared-shrinks state sums parts amount are zip all =
    let plus : sum_by plus_of (bear_less state sums parts) ≡ sum_by plus_of sums = less_plus state sums parts in
    record {
      sums = record {
        ascend = less_ascend state sums parts are.ascend;
        fit = less_keeps state sums parts are.fit zip;
        most = omega (arith, plus, are.most);
      };
      plus = plus;
      left = let sum = less_left state sums parts are.fit zip in omega (arith, sum, all);
    }

-- what the bases come to is what is left
total-bases : (sums : List RateSum) → total (bases sums) ≡ sum_by left_at sums
total-bases [] = refl
total-bases (at ∷ sums) = rw (sum_by-cons (λ (base : ℕ × ℤ). unsigned_abs base.1) (at.rate, pos (left_at at)) (bases sums), sum_by-cons left_at at sums) (ap (λ n. left_at at + n) (total-bases sums))

pub take_shared-shrinks : (state : TaxState) (sums : List RateSum) (amount : ℕ) → AreSums sums → amount ≤ sum_by left_at sums → Shrinks sums (take_shared state sums amount) amount
take_shared-shrinks state sums amount are low =
    let within : amount ≤ total (bases sums) = rw (total-bases sums) low in
    shared-shrinks state sums (shares amount (bases sums)) amount are
    (shares_are_parts amount (bases sums) within (bases-natural sums))
    (shares_sum amount (bases sums) (rise_of (bases sums) (bases-ascend sums are.ascend)) within)

-- so with all discounts on goods
pub take_goods-shrinks : (state : TaxState) (sums : List RateSum) (discounts : List Discount) → AreSums sums → total_off discounts ≤ sum_by left_at sums → Shrinks sums (take_goods state sums discounts) (total_off discounts)
take_goods-shrinks state sums [] are low = record { sums = are; plus = refl; left = omega arith }
take_goods-shrinks state sums (discount ∷ discounts) are low =
    let split : total_off (discount ∷ discounts) ≡ unsigned_abs discount.amount + total_off discounts = sum_by-cons (λ (d : Discount). unsigned_abs d.amount) discount discounts in
    let one : Shrinks sums (take_shared state sums (unsigned_abs discount.amount)) (unsigned_abs discount.amount) = take_shared-shrinks state sums (unsigned_abs discount.amount) are (omega (arith, split, low)) in
    let more : Shrinks (take_shared state sums (unsigned_abs discount.amount)) (take_goods state (take_shared state sums (unsigned_abs discount.amount)) discounts) (total_off discounts) =
    take_goods-shrinks state (take_shared state sums (unsigned_abs discount.amount)) discounts one.sums (omega (arith, split, low, one.left)) in
    record { sums = more.sums; plus = more.plus ∙ one.plus; left = omega (arith, split, one.left, more.left) }

-- and on a delivery
pub take_delivery-shrinks : (state : TaxState) (sums : List RateSum) (rate : ℕ) (discounts : List Discount) → AreSums sums → rate ≤ 10000 → total_off discounts ≤ left_at (sum_at sums rate) → Shrinks sums (take_delivery state sums rate discounts) (total_off discounts)
take_delivery-shrinks state sums rate [] are up low = record { sums = are; plus = refl; left = omega arith }
take_delivery-shrinks state sums rate (discount ∷ discounts) are up low =
    let split : total_off (discount ∷ discounts) ≡ unsigned_abs discount.amount + total_off discounts = sum_by-cons (λ (d : Discount). unsigned_abs d.amount) discount discounts in
    let first : unsigned_abs discount.amount ≤ left_at (sum_at sums rate) = omega (arith, split, low) in
    let one : Shrinks sums (take_at state sums rate (unsigned_abs discount.amount)) (unsigned_abs discount.amount) = take-shrinks state sums rate (unsigned_abs discount.amount) are up first in
    let rest : left_at (sum_at (take_at state sums rate (unsigned_abs discount.amount)) rate) + unsigned_abs discount.amount ≡ left_at (sum_at sums rate) = take-left state sums rate (unsigned_abs discount.amount) first in
    let more : Shrinks (take_at state sums rate (unsigned_abs discount.amount)) (take_delivery state (take_at state sums rate (unsigned_abs discount.amount)) rate discounts) (total_off discounts) =
    take_delivery-shrinks state (take_at state sums rate (unsigned_abs discount.amount)) rate discounts one.sums up (omega (arith, split, low, rest)) in
    record { sums = more.sums; plus = more.plus ∙ one.plus; left = omega (arith, split, one.left, more.left) }

-- what is left at all rates is in range
pub left-most : (sums : List RateSum) → AreSums sums → sum_by left_at sums ≤ 2 * 10 ^ 18
left-most sums are = let part = left-part sums in omega (arith, part, are.most)
  where
    left-part : (sums : List RateSum) → sum_by left_at sums ≤ sum_by plus_of sums
    left-part [] = omega arith
    left-part (at ∷ sums) = rw (sum_by-cons left_at at sums, sum_by-cons plus_of at sums) (omega (arith, left-part sums))

pub less-length : (state : TaxState) (sums : List RateSum) (parts : List (ℕ × ℤ)) → length (bear_less state sums parts) ≡ length sums
less-length state [] parts = refl
less-length state (at ∷ sums) [] = refl
less-length state (at ∷ sums) (part ∷ parts) = ap suc (less-length state sums parts)
