-- Sharing by the largest remainder: the parts sum to the amount, and none is above its base.
use Rattle.std.proofs.Common.{◌≡◌, ℕ, zero, suc, ◌+◌, ◌-◌, ◌*◌, ◌≤◌, ◌<◌, ◌^◌, ℤ, pos, negsuc, ◌≤ℤ◌, Bool, true, false, cond, List, [], ◌∷◌, length, map, ◌⊎◌, inl, inr, refl, sym, ap, ◌∙◌, arith}
use Rattle.std.specs.Prelude.{nat_lt, count_by, sum_by, unsigned_abs}
use Rattle.std.specs.List.{All, AllByRecursion, AllZip}
use Rattle.std.proofs.lemmas.List.Sums.{sum_by-cons, count_by-le-length, get_or-le-sum_by}
use Rattle.std.proofs.lemmas.Bool.Decides.{nat_tests}
use Rattle.std.proofs.lemmas.Int.{ints}
use Rattle.std.proofs.lemmas.Nat.{div-add-mod', mod_below, mul-le}
use Rattle.std.specs.Ordering.{nat_cmp}
use Rattle.std.specs.declared.cmp.Ordering.TheVariants.{Less}
use Rattle.keyed.specs.Keyed.{Ascends}
use Rattle.cart_price.specs.declared.shares.Claim.{Claim}
use Rattle.cart_price.specs.LargestRemainder.{total, claim, comes_first, rank, left_of, part, claims_of, shares, IsPartOf, IsFloorOrNext}
use Rattle.cart_price.proofs.Ranks.{IsStrictOrder, IsApart, AreApart, count_le, first_ones}

-- ---- the order of claims

pub claims_are_ordered : IsStrictOrder comes_first
claims_are_ordered = record {
  irreflexive = λ a. grind (arith, nat_tests);
  transitive = λ a b c h k. grind (arith, nat_tests);
}

-- of two claims with different rates, one comes first
apart : (a b : Claim) → a.rate < b.rate → IsApart comes_first a b
apart a b lower = grind (arith, nat_tests)

-- rates rise, by recursion
abbrev pub Rise : List (ℕ × ℤ) → Type 0
Rise [] = Unit {0}
Rise (x ∷ xs) = AllByRecursion (λ y. x.0 < y.0) xs × Rise xs

less_of : (a b : ℕ) → nat_cmp a b ≡ Less → a < b
less_of a b h = grind (arith, nat_tests)

all_less : (n : ℕ) (xs : List (ℕ × ℤ)) → AllByRecursion (λ y. nat_cmp n y.0 ≡ Less) xs → AllByRecursion (λ y. n < y.0) xs
all_less n [] all = tt
all_less n (x ∷ xs) all = (less_of n x.0 all.0, all_less n xs all.1)

pub rise_of : (bases : List (ℕ × ℤ)) → Ascends nat_cmp (λ base. base.0) bases → Rise bases
rise_of [] ascends = tt
rise_of (x ∷ xs) ascends = (all_less x.0 xs ascends.0, rise_of xs ascends.1)

apart_from : (amount whole : ℕ) (x : ℕ × ℤ) (xs : List (ℕ × ℤ)) → AllByRecursion (λ y. x.0 < y.0) xs → AllByRecursion (IsApart comes_first (claim amount whole x)) (map (claim amount whole) xs)
apart_from amount whole x [] rise = tt
apart_from amount whole x (y ∷ ys) rise = (apart (claim amount whole x) (claim amount whole y) rise.0, apart_from amount whole x ys rise.1)

claims_are_apart : (amount whole : ℕ) (bases : List (ℕ × ℤ)) → Rise bases → AreApart comes_first (map (claim amount whole) bases)
claims_are_apart amount whole [] rise = tt
claims_are_apart amount whole (x ∷ xs) rise = (apart_from amount whole x xs rise.0, claims_are_apart amount whole xs rise.1)

-- ---- whole units and remainders

-- a claim's whole units and remainder make up the exact share
pub units : (amount whole : ℕ) (base : ℕ × ℤ) → 0 < whole → whole * (claim amount whole base).floor + (claim amount whole base).remainder ≡ amount * unsigned_abs base.1
units amount zero base positive = absurd (omega arith)
units amount (suc w) base positive =
    let parts = div-add-mod' (amount * unsigned_abs base.1) (suc w) in
    grind arith

pub remainder_below : (amount whole : ℕ) (base : ℕ × ℤ) → 0 < whole → (claim amount whole base).remainder < whole
remainder_below amount zero base positive = absurd (omega arith)
remainder_below amount (suc w) base positive = let below = mod_below (amount * unsigned_abs base.1) (suc w) positive in grind (arith, nat_tests)

abbrev pub floors : List Claim → ℕ
floors claims = sum_by (λ at. at.floor) claims

abbrev remainders : List Claim → ℕ
remainders claims = sum_by (λ at. at.remainder) claims

-- how many claims have a remainder
abbrev pub pending : List Claim → ℕ
pending claims = count_by (λ at. nat_lt 0 at.remainder) claims

spread : (w f fs r rs x b bs : ℕ) → w * f + r ≡ x * b → w * fs + rs ≡ x * bs → w * (f + fs) + (r + rs) ≡ x * (b + bs)
spread w f fs r rs x b bs h k = grind arith

balance : (amount whole : ℕ) (bases : List (ℕ × ℤ)) → 0 < whole → whole * floors (map (claim amount whole) bases) + remainders (map (claim amount whole) bases) ≡ amount * total bases
balance amount whole [] positive = grind arith
balance amount whole (b ∷ bs) positive =
    rw (
      sum_by-cons (λ at. at.floor) (claim amount whole b) (map (claim amount whole) bs),
      sum_by-cons (λ at. at.remainder) (claim amount whole b) (map (claim amount whole) bs),
      sum_by-cons (λ at. unsigned_abs at.1) b bs,
    )
    (spread whole (claim amount whole b).floor (floors (map (claim amount whole) bs)) (claim amount whole b).remainder (remainders (map (claim amount whole) bs)) amount (unsigned_abs b.1) (total bs) (units amount whole b positive) (balance amount whole bs positive))

one_remainder : (r w : ℕ) → r < w → r ≤ cond (nat_lt 0 r) 1 0 * w
one_remainder zero w below = omega arith
one_remainder (suc r) w below = grind arith

gather : (r rs c k w : ℕ) → r ≤ c * w → rs ≤ k * w → r + rs ≤ (c + k) * w
gather r rs c k w h g = grind arith

few_remainders : (amount whole : ℕ) (bases : List (ℕ × ℤ)) → 0 < whole → remainders (map (claim amount whole) bases) ≤ pending (map (claim amount whole) bases) * whole
few_remainders amount whole [] positive = omega arith
few_remainders amount whole (b ∷ bs) positive =
    rw (
      sum_by-cons (λ at. at.remainder) (claim amount whole b) (map (claim amount whole) bs),
      sum_by-cons (λ (at : Claim). cond (nat_lt 0 at.remainder) 1 0) (claim amount whole b) (map (claim amount whole) bs),
    )
    (gather (claim amount whole b).remainder (remainders (map (claim amount whole) bs)) (cond (nat_lt 0 (claim amount whole b).remainder) 1 0) (pending (map (claim amount whole) bs)) whole
    (one_remainder (claim amount whole b).remainder whole (remainder_below amount whole b positive)) (few_remainders amount whole bs positive))

pub tried : (a b : ℕ) → (a ≤ b) ⊎ (b < a)
tried a b = grind (arith, nat_tests)

cancel_by : (a b w : ℕ) → 0 < w → a * w ≤ b * w → (a ≤ b) ⊎ (b < a) → a ≤ b
cancel_by a b w positive h (inl below) = below
cancel_by a b w positive h (inr above) =
    let more : (b + 1) * w ≤ a * w = mul-le (b + 1) w a w (omega arith) (omega arith) in
    let spread : (b + 1) * w ≡ b * w + w = grind arith in
    absurd (omega arith)

pub cancel : (a b w : ℕ) → 0 < w → a * w ≤ b * w → a ≤ b
cancel a b w positive h = cancel_by a b w positive h (tried a b)

-- the whole units are within the amount, and what is left is no more than the claims with a remainder
left_by : (x w f r k : ℕ) → 0 < w → w * f + r ≡ x * w → r ≤ k * w → (f ≤ x) × (x - f ≤ k)
left_by x w f r k positive sum few =
    let turned : w * f ≡ f * w = grind arith in
    let most : f ≤ x = cancel f x w positive (omega arith) in
    let apart : (x - f) * w + f * w ≡ x * w = let back : (x - f) + f ≡ x = omega arith in (let e : (x - f) * w + f * w ≡ ((x - f) + f) * w = grind arith in e ∙ ap (λ n. n * w) back) in
    (most, cancel (x - f) k w positive (omega arith))

no_floor : (amount : ℕ) (bases : List (ℕ × ℤ)) → floors (map (claim amount 0) bases) ≡ 0
no_floor amount [] = refl
no_floor amount (b ∷ bs) = rw (sum_by-cons (λ at. at.floor) (claim amount 0 b) (map (claim amount 0) bs), no_floor amount bs) refl

few_left : (amount whole : ℕ) (bases : List (ℕ × ℤ)) → whole ≡ total bases → amount ≤ whole
    → (floors (map (claim amount whole) bases) ≤ amount) × (left_of amount (map (claim amount whole) bases) ≤ pending (map (claim amount whole) bases))
few_left amount zero bases e within =
    let nothing : floors (map (claim amount 0) bases) ≡ 0 = no_floor amount bases in
    (omega arith, omega arith)
few_left amount (suc w) bases e within =
    left_by amount (suc w) (floors (map (claim amount (suc w)) bases)) (remainders (map (claim amount (suc w)) bases)) (pending (map (claim amount (suc w)) bases)) (omega arith)
    (balance amount (suc w) bases (omega arith) ∙ ap (λ n. amount * n) (sym e)) (few_remainders amount (suc w) bases (omega arith))

-- ---- a part

-- a claim without a remainder comes behind all that have one
behind : (claims : List Claim) (at : Claim) → at.remainder ≡ 0 → pending claims ≤ rank claims at
behind claims at none = count_le (λ other. nat_lt 0 other.remainder) (λ other. comes_first other at) claims (λ other some. grind (arith, nat_tests))

unit_of : (r left : ℕ) → left ≤ r → cond (nat_lt r left) 1 0 ≤ 0
unit_of r left high = grind (arith, nat_tests)

unit_le : (b : Bool) → cond b 1 0 ≤ 1
unit_le true = omega arith
unit_le false = omega arith

floor_small : (w f r x b : ℕ) → 0 < w → w * f + r ≡ x * b → x ≤ w → f ≤ b
floor_small w f r x b positive sum within =
    let most : x * b ≤ w * b = mul-le x b w b within (omega arith) in
    let turned : w * f ≡ f * w = grind arith in
    let turned_back : w * b ≡ b * w = grind arith in
    cancel f b w positive (omega arith)

floor_below_by : (w f r x b : ℕ) → 0 < w → w * f + r ≡ x * b → x ≤ w → 0 < r → (f + 1 ≤ b) ⊎ (b < f + 1) → f + 1 ≤ b
floor_below_by w f r x b positive sum within some (inl below) = below
floor_below_by w f r x b positive sum within some (inr above) =
    let most : x * b ≤ w * b = mul-le x b w b within (omega arith) in
    let least : w * b ≤ w * f = mul-le w b w f (omega arith) (omega arith) in
    absurd (omega arith)

floor_below : (w f r x b : ℕ) → 0 < w → w * f + r ≡ x * b → x ≤ w → 0 < r → f + 1 ≤ b
floor_below w f r x b positive sum within some = floor_below_by w f r x b positive sum within some (tried (f + 1) b)

-- a part is at most its base
part_by : (claims : List Claim) (left : ℕ) (w x b : ℕ) (at : Claim) → left ≤ pending claims → 0 < w → w * at.floor + at.remainder ≡ x * b → x ≤ w → (at.remainder ≤ 0) ⊎ (0 < at.remainder) → part claims left at ≤ b
part_by claims left w x b at few positive sum within (inl none) =
    let last : pending claims ≤ rank claims at = behind claims at (omega arith) in
    let no_unit : cond (nat_lt (rank claims at) left) 1 0 ≤ 0 = unit_of (rank claims at) left (omega arith) in
    let floor : at.floor ≤ b = floor_small w at.floor at.remainder x b positive sum within in
    omega arith
part_by claims left w x b at few positive sum within (inr some) =
    let unit = unit_le (nat_lt (rank claims at) left) in
    let floor : at.floor + 1 ≤ b = floor_below w at.floor at.remainder x b positive sum within some in
    omega arith

pub part_le_base : (claims : List Claim) (left amount whole : ℕ) (base : ℕ × ℤ) → left ≤ pending claims → amount ≤ whole → part claims left (claim amount whole base) ≤ unsigned_abs base.1
part_le_base claims left amount zero base few within =
    let last : pending claims ≤ rank claims (claim amount 0 base) = behind claims (claim amount 0 base) refl in
    let no_unit : cond (nat_lt (rank claims (claim amount 0 base)) left) 1 0 ≤ 0 = unit_of (rank claims (claim amount 0 base)) left (omega arith) in
    omega arith
part_le_base claims left amount (suc w) base few within =
    part_by claims left (suc w) amount (unsigned_abs base.1) (claim amount (suc w) base) few (omega arith) (units amount (suc w) base (omega arith)) within (tried (claim amount (suc w) base).remainder 0)

-- ---- the whole share

with_units : (claims : List Claim) (p : Claim → Bool) → sum_by (λ at. at.floor + cond (p at) 1 0) claims ≡ floors claims + count_by p claims
with_units [] p = refl
with_units (c ∷ cs) p =
    let rest : sum_by (λ at. at.floor + cond (p at) 1 0) cs ≡ floors cs + count_by p cs = with_units cs p in
    rw (sum_by-cons (λ at. at.floor + cond (p at) 1 0) c cs, sum_by-cons (λ at. at.floor) c cs, sum_by-cons (λ at. cond (p at) 1 0) c cs, rest) (omega arith)

total_of_parts : (f : Claim → ℕ) (claims : List Claim) → total (map (λ at. (at.rate, pos (f at))) claims) ≡ sum_by f claims
total_of_parts f [] = refl
total_of_parts f (c ∷ cs) =
    rw (sum_by-cons (λ (at : ℕ × ℤ). unsigned_abs at.1) (c.rate, pos (f c)) (map (λ at. (at.rate, pos (f at))) cs), sum_by-cons f c cs, total_of_parts f cs) refl

length_of_claims : (amount whole : ℕ) (bases : List (ℕ × ℤ)) → length (map (claim amount whole) bases) ≡ length bases
length_of_claims amount whole [] = refl
length_of_claims amount whole (b ∷ bs) = ap suc (length_of_claims amount whole bs)

-- the parts of all claims sum to the amount
pub parts_sum : (amount : ℕ) (bases : List (ℕ × ℤ)) → Rise bases → amount ≤ total bases → sum_by (part (claims_of amount bases) (left_of amount (claims_of amount bases))) (claims_of amount bases) ≡ amount
parts_sum amount bases rise within =
    let few = few_left amount (total bases) bases refl within in
    let short = count_by-le-length (λ at. nat_lt 0 at.remainder) (claims_of amount bases) in
    let given : count_by (λ at. nat_lt (rank (claims_of amount bases) at) (left_of amount (claims_of amount bases))) (claims_of amount bases) ≡ left_of amount (claims_of amount bases) =
    first_ones comes_first claims_are_ordered (claims_of amount bases) (left_of amount (claims_of amount bases)) (claims_are_apart amount (total bases) bases rise) (omega arith) in
    let parts = with_units (claims_of amount bases) (λ at. nat_lt (rank (claims_of amount bases) at) (left_of amount (claims_of amount bases))) in
    omega arith

pub shares_sum : (amount : ℕ) (bases : List (ℕ × ℤ)) → Rise bases → amount ≤ total bases → total (shares amount bases) ≡ amount
shares_sum amount bases rise within =
    total_of_parts (part (claims_of amount bases) (left_of amount (claims_of amount bases))) (claims_of amount bases) ∙ parts_sum amount bases rise within

-- so each part fits where the amount does
pub parts_fit : (amount : ℕ) (bases : List (ℕ × ℤ)) → Rise bases → amount ≤ total bases → amount < 2 ^ 63 → All (λ at. part (claims_of amount bases) (left_of amount (claims_of amount bases)) at < 2 ^ 63) (claims_of amount bases)
parts_fit amount bases rise within fits k d short =
    let sum = parts_sum amount bases rise within in
    let most = get_or-le-sum_by (part (claims_of amount bases) (left_of amount (claims_of amount bases))) (claims_of amount bases) k d short in
    omega arith

pub floors_within : (amount : ℕ) (bases : List (ℕ × ℤ)) → amount ≤ total bases → sum_by (λ at. at.floor) (claims_of amount bases) ≤ amount
floors_within amount bases within = (few_left amount (total bases) bases refl within).0

not_negative : (p b : ℕ) (z : ℤ) → p ≤ unsigned_abs z → pos 0 ≤ℤ z → pos p ≤ℤ z
not_negative p b (pos n) h k = omega (arith, ints)
not_negative p b (negsuc n) h k = omega (arith, ints)

parts_of_from : (claims : List Claim) (left amount whole : ℕ) (bases : List (ℕ × ℤ)) → left ≤ pending claims → amount ≤ whole → AllByRecursion (λ base. pos 0 ≤ℤ base.1) bases
    → AllZip IsPartOf (map (λ at. (at.rate, pos (part claims left at))) (map (claim amount whole) bases)) bases
parts_of_from claims left amount whole [] few within bases = tt
parts_of_from claims left amount whole (b ∷ bs) few within bases =
    ((refl, omega (arith, ints), not_negative (part claims left (claim amount whole b)) 0 b.1 (part_le_base claims left amount whole b few within) bases.0), parts_of_from claims left amount whole bs few within bases.1)

-- each part lies between 0 and its base, under the base's rate
pub shares_are_parts : (amount : ℕ) (bases : List (ℕ × ℤ)) → amount ≤ total bases → AllByRecursion (λ base. pos 0 ≤ℤ base.1) bases → AllZip IsPartOf (shares amount bases) bases
shares_are_parts amount bases within positive =
    parts_of_from (claims_of amount bases) (left_of amount (claims_of amount bases)) amount (total bases) bases (few_left amount (total bases) bases refl within).1 within positive

floor_or_next : (f : ℕ) (b : Bool) → (pos (f + cond b 1 0) ≡ pos f) ⊎ (pos (f + cond b 1 0) ≡ pos (f + 1))
floor_or_next f true = inr refl
floor_or_next f false = inl (ap pos (omega arith))

floors_from : (claims : List Claim) (left amount whole : ℕ) (bases : List (ℕ × ℤ)) → AllZip (IsFloorOrNext amount whole) (map (λ at. (at.rate, pos (part claims left at))) (map (claim amount whole) bases)) bases
floors_from claims left amount whole [] = tt
floors_from claims left amount whole (b ∷ bs) =
    (floor_or_next (claim amount whole b).floor (nat_lt (rank claims (claim amount whole b)) left), floors_from claims left amount whole bs)

-- each part is the whole units of the exact share, or one more
pub shares_are_floors : (amount : ℕ) (bases : List (ℕ × ℤ)) → AllZip (IsFloorOrNext amount (total bases)) (shares amount bases) bases
shares_are_floors amount bases = floors_from (claims_of amount bases) (left_of amount (claims_of amount bases)) amount (total bases) bases
