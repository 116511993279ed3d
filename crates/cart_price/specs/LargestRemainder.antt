-- An amount shared among tax rates by the largest remainder. Rates have bases; amounts are in minor units.
use Rattle.std.specs.Prelude.{◌≡◌, ◌≤◌, ℕ, ◌+◌, ◌-◌, ◌*◌, ◌/◌, ◌%◌, ℤ, pos, ◌≤ℤ◌, unsigned_abs, Bool, nat_lt, ◌||◌, ◌&&◌, ◌==◌, if◌then◌else◌, ◌⊎◌, List, [], map, sum_by, count_by, sum}
use Rattle.std.specs.Int.{abs_diff}
use Rattle.std.specs.declared.vec.Vec.{Vec}
use Rattle.std.specs.Vec.{vec_len, vec_capacity}
use Rattle.std.specs.List.{AllZip}
use Rattle.cart_price.specs.declared.shares.Claim.{Claim}

-- no items yet, and room for so many
abbrev pub IsRoom : {A Z : Type 0} → ℕ → Vec A Z → Type 0
IsRoom count items = (items.items ≡ []) × (vec_len items ≡ 0) × (count ≤ vec_capacity items)

-- the sum of what stands beside the rates
abbrev pub total : List (ℕ × ℤ) → ℕ
total amounts = sum_by (λ at. unsigned_abs at.1) amounts

-- what a rate has a claim to: of the exact share amount * base / whole the whole units and the remainder of the division, and nothing where all bases are 0
abbrev pub claim : ℕ → ℕ → ℕ × ℤ → Claim
claim amount whole base = record {
  rate = base.0;
  floor = if whole == 0 then 0 else amount * unsigned_abs base.1 / whole;
  remainder = if whole == 0 then 0 else amount * unsigned_abs base.1 % whole;
}

-- of two claims, the one with the larger remainder comes first, and of equal ones that of the lower rate
abbrev pub comes_first : Claim → Claim → Bool
comes_first a b = nat_lt b.remainder a.remainder || ((a.remainder == b.remainder) && nat_lt a.rate b.rate)

-- how many claims come before one
abbrev pub rank : List Claim → Claim → ℕ
rank claims at = count_by (λ other. comes_first other at) claims

-- the units that are left once each claim has its whole ones
abbrev pub left_of : ℕ → List Claim → ℕ
left_of amount claims = amount - sum_by (λ at. at.floor) claims

-- the units that are left go one each to the claims that come first
abbrev pub part : List Claim → ℕ → Claim → ℕ
part claims left at = at.floor + (if nat_lt (rank claims at) left then 1 else 0)

-- the claims of all rates
abbrev pub claims_of : ℕ → List (ℕ × ℤ) → List Claim
claims_of amount bases = map (claim amount (total bases)) bases

-- the amount shared among the rates: each with its part
abbrev pub shares : ℕ → List (ℕ × ℤ) → List (ℕ × ℤ)
shares amount bases =
    let claims = claims_of amount bases in
    map (λ at. (at.rate, pos (part claims (left_of amount claims) at))) claims

-- a part of a share stands under the rate of its base, and lies between 0 and the base
abbrev pub IsPartOf : ℕ × ℤ → ℕ × ℤ → Type 0
IsPartOf part base = (part.0 ≡ base.0) × (pos 0 ≤ℤ part.1) × (part.1 ≤ℤ base.1)

-- a part is the whole units of the exact share, or one more
abbrev pub IsFloorOrNext : ℕ → ℕ → ℕ × ℤ → ℕ × ℤ → Type 0
IsFloorOrNext amount whole part base =
    let floor = (claim amount whole base).floor in
    (part.1 ≡ pos floor) ⊎ (part.1 ≡ pos (floor + 1))

-- how far some units are from the exact share amount * base / whole, in parts of which a unit has whole
abbrev pub deviation : ℕ → ℕ → ℕ × ℤ → ℕ → ℕ
deviation amount whole base units = abs_diff (units * whole) (amount * unsigned_abs base.1)

-- for each base there are so many units, and they deviate from its exact share by no more than that
abbrev pub DeviateAtMost : ℕ → List (ℕ × ℤ) → ℕ → List ℕ → Type 0
DeviateAtMost amount bases most units = AllZip (λ n base. deviation amount (total bases) base n ≤ most) units bases

-- no other sharing by whole units has a smaller largest deviation
abbrev pub IsFairest : ℕ → List (ℕ × ℤ) → List ℕ → Type 0
IsFairest amount bases units =
    (others : List ℕ) (most : ℕ) → sum others ≡ amount → DeviateAtMost amount bases most others → DeviateAtMost amount bases most units
