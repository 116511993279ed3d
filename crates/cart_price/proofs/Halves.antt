-- Halves: what a rounded quotient is, in numbers and with a sign.
use Rattle.std.proofs.Common.{◌≡◌, ℕ, zero, suc, ◌+◌, ◌*◌, ◌/◌, ◌%◌, ◌≤◌, ◌<◌, ℤ, pos, negsuc, ◌*ℤ◌, neg_ℤ, refl, sym, ap, ◌∙◌, arith}
use Rattle.std.specs.Prelude.{unsigned_abs}
use Rattle.std.proofs.lemmas.Int.{ints}
use Rattle.std.proofs.lemmas.Nat.{div-add-mod', mod_below, div_below}
use Rattle.cart_price.specs.Nearest.{half_up, half, with_sign_of, IsNearest, IsWithinHalf}

-- the product of a quotient and twice a number, with the 2 in front
twice_inside : (q d : ℕ) → q * (2 * d) ≡ 2 * (q * d)
twice_inside q d = grind arith

-- half_up n d times d lies at most half of d above n, and less than half of d below it
pub half_up_bounds : (n d : ℕ) → 0 < d → (2 * (half_up n d * d) ≤ 2 * n + d) × (2 * n < 2 * (half_up n d * d) + d)
half_up_bounds n d positive =
    let parts : half_up n d * (2 * d) + (2 * n + d) % (2 * d) ≡ 2 * n + d = div-add-mod' (2 * n + d) (2 * d) in
    let rest : (2 * n + d) % (2 * d) < 2 * d = mod_below (2 * n + d) (2 * d) (omega arith) in
    let turned : half_up n d * (2 * d) ≡ 2 * (half_up n d * d) = twice_inside (half_up n d) d in
    (omega arith, omega arith)

-- half of nothing is nothing
pub half_up_zero : (d : ℕ) → 0 < d → half_up 0 d ≡ 0
half_up_zero d positive =
    let below : (2 * 0 + d) / (2 * d) < 1 = div_below (2 * 0 + d) (2 * d) 1 (omega arith) (omega arith) in
    omega arith

-- a number with no size has no sign
signed_zero : (n : ℤ) (size : ℕ) → size ≡ 0 → with_sign_of n size ≡ pos 0
signed_zero (pos n) size e = ap pos e
signed_zero (negsuc n) size e = ap (λ s. neg_ℤ (pos s)) e

-- the sign of a product with a number is that of the other factor
negative_product : (m d size : ℕ) → 0 < d → size ≡ half_up m d → neg_ℤ (pos size) ≡ half (neg_ℤ (pos m)) d
negative_product zero d size positive e = ap (λ s. neg_ℤ (pos s)) (e ∙ half_up_zero d positive) ∙ ap pos (sym (half_up_zero d positive))
negative_product (suc m) d size positive e = ap (λ s. neg_ℤ (pos s)) e

pub half_of_product : (amount : ℤ) (rate d : ℕ) → 0 < d → with_sign_of amount (half_up (unsigned_abs amount * rate) d) ≡ half (amount *ℤ pos rate) d
half_of_product (pos n) rate d positive = refl
half_of_product (negsuc n) rate d positive = negative_product (suc n * rate) d (half_up (suc n * rate) d) positive refl

-- the two bounds, of numbers with a sign
around : (n m d : ℕ) → (2 * m ≤ 2 * n + d) × (2 * n < 2 * m + d) → IsWithinHalf d (pos n) (pos m)
around n m d bounds = (omega (arith, ints), λ tie. omega (arith, ints))

around_below : (n m d : ℕ) → (2 * m ≤ 2 * n + d) × (2 * n < 2 * m + d) → IsWithinHalf d (neg_ℤ (pos n)) (neg_ℤ (pos m))
around_below n m d bounds = (omega (arith, ints), λ tie. omega (arith, ints))

negative_times : (q d : ℕ) → neg_ℤ (pos q) *ℤ pos d ≡ neg_ℤ (pos (q * d))
negative_times zero d = grind arith
negative_times (suc q) d = refl

-- a rounded quotient is the nearest
pub half_is_nearest : (n : ℤ) (d : ℕ) → 0 < d → IsNearest n d (half n d)
half_is_nearest (pos n) d positive = around n (half_up n d * d) d (half_up_bounds n d positive)
half_is_nearest (negsuc n) d positive =
    rw (negative_times (half_up (suc n) d) d) (around_below (suc n) (half_up (suc n) d * d) d (half_up_bounds (suc n) d positive))
