-- No sharing by whole units has a smaller largest deviation than that by the largest remainder.
use Rattle.std.proofs.Common.{◌≡◌, ℕ, ◌+◌, ◌*◌, ◌≤◌, ◌<◌, ℤ, pos, Bool, true, false, cond, List, [], ◌∷◌, map, ◌⊎◌, inl, inr, refl, sym, ap, subst, ◌∙◌, arith}
use Rattle.std.specs.Prelude.{nat_lt, sum_by, sum, unsigned_abs}
use Rattle.std.specs.Int.{abs_diff}
use Rattle.std.specs.List.{AllZip}
use Rattle.std.proofs.lemmas.List.Sums.{sum_by-cons}
use Rattle.std.proofs.lemmas.Bool.Decides.{nat_tests}
use Rattle.std.proofs.lemmas.Nat.{mul-le}
use Rattle.cart_price.specs.declared.shares.Claim.{Claim}
use Rattle.cart_price.specs.LargestRemainder.{total, claim, comes_first, rank, left_of, part, claims_of, shares, deviation, IsFairest}
use Rattle.cart_price.proofs.Ranks.{count_le}
use Rattle.cart_price.proofs.Sharing.{tried, units, remainder_below, claims_are_ordered, Rise, parts_sum}

-- ---- numbers: f whole units and the remainder r of w make up e, and q units deviate from e by at most m

expand : (q w : ℕ) → (q + 1) * w ≡ q * w + w
expand q w = grind arith

-- from q * w < (k + 1) * w, q is at most k
at_most : (q k w : ℕ) → q * w < k * w + w → (q ≤ k) ⊎ (k < q) → q ≤ k
at_most q k w below (inl fits) = fits
at_most q k w below (inr above) =
    let more : (k + 1) * w ≤ q * w = mul-le (k + 1) w q w (omega arith) (omega arith) in
    let turned = expand k w in
    absurd (omega arith)

within : (q w e m : ℕ) → abs_diff (q * w) e ≤ m → (q * w ≤ e + m) × (e ≤ q * w + m)
within q w e m h = (omega arith, omega arith)

-- less than a unit above its whole ones: no unit more
no_more : (w f r e q m : ℕ) → w * f + r ≡ e → abs_diff (q * w) e ≤ m → r + m < w → q ≤ f
no_more w f r e q m sum near low =
    let bounds = within q w e m near in
    let turned : w * f ≡ f * w = grind arith in
    at_most q f w (omega arith) (tried q f)

-- less than two: one more at most
one_more : (w f r e q m : ℕ) → w * f + r ≡ e → abs_diff (q * w) e ≤ m → r + m < w + w → q ≤ f + 1
one_more w f r e q m sum near low =
    let bounds = within q w e m near in
    let turned : w * f ≡ f * w = grind arith in
    let next = expand f w in
    at_most q (f + 1) w (omega arith) (tried q (f + 1))

one_least_by : (f q w : ℕ) → f * w < q * w → (f + 1 ≤ q) ⊎ (q < f + 1) → f + 1 ≤ q
one_least_by f q w above (inl fits) = fits
one_least_by f q w above (inr below) =
    let less : q * w ≤ f * w = mul-le q w f w (omega arith) (omega arith) in
    absurd (omega arith)

all_least_by : (f q w : ℕ) → f * w < q * w + w → (f ≤ q) ⊎ (q < f) → f ≤ q
all_least_by f q w above (inl fits) = fits
all_least_by f q w above (inr below) =
    let less : (q + 1) * w ≤ f * w = mul-le (q + 1) w f w (omega arith) (omega arith) in
    let turned = expand q w in
    absurd (omega arith)

-- not as far below as its remainder: one more at least
one_least : (w f r e q m : ℕ) → w * f + r ≡ e → abs_diff (q * w) e ≤ m → m < r → f + 1 ≤ q
one_least w f r e q m sum near low =
    let bounds = within q w e m near in
    let turned : w * f ≡ f * w = grind arith in
    one_least_by f q w (omega arith) (tried (f + 1) q)

-- not as far below as a unit: its whole ones at least
all_least : (w f r e q m : ℕ) → w * f + r ≡ e → abs_diff (q * w) e ≤ m → m < w → f ≤ q
all_least w f r e q m sum near low =
    let bounds = within q w e m near in
    let turned : w * f ≡ f * w = grind arith in
    all_least_by f q w (omega arith) (tried f q)

-- ---- lists of units for bases

abbrev Near : ℕ → ℕ → ℕ → ℕ → ℕ × ℤ → Type 0
Near amount whole most n base = deviation amount whole base n ≤ most

-- some units stand for a base
abbrev AmongPairs : List ℕ → List (ℕ × ℤ) → ℕ → ℕ × ℤ → Type 0
AmongPairs [] bases n base = ⊥
AmongPairs (q ∷ qs) [] n base = ⊥
AmongPairs (q ∷ qs) (b ∷ bs) n base = ((q ≡ n) × (b ≡ base)) ⊎ AmongPairs qs bs n base

module _ (R : ℕ → ℕ × ℤ → Type 0) (p : ℕ × ℤ → ℕ) where
  -- where each number is at most that of its base, so is the sum
  sum_le : (qs : List ℕ) (bs : List (ℕ × ℤ)) → AllZip R qs bs → ((n : ℕ) (base : ℕ × ℤ) → R n base → n ≤ p base) → sum qs ≤ sum_by p bs
  sum_le [] [] all le = omega arith
  sum_le [] (b ∷ bs) all le = absurd all
  sum_le (q ∷ qs) [] all le = absurd all
  sum_le (q ∷ qs) (b ∷ bs) all le =
      let rest = sum_le qs bs all.1 le in
      let here = le q b all.0 in
      rw (sum_by-cons (λ (x : ℕ). x) q qs, sum_by-cons p b bs) (omega arith)

  sum_ge : (qs : List ℕ) (bs : List (ℕ × ℤ)) → AllZip R qs bs → ((n : ℕ) (base : ℕ × ℤ) → R n base → p base ≤ n) → sum_by p bs ≤ sum qs
  sum_ge [] [] all ge = omega arith
  sum_ge [] (b ∷ bs) all ge = absurd all
  sum_ge (q ∷ qs) [] all ge = absurd all
  sum_ge (q ∷ qs) (b ∷ bs) all ge =
      let rest = sum_ge qs bs all.1 ge in
      let here = ge q b all.0 in
      rw (sum_by-cons (λ (x : ℕ). x) q qs, sum_by-cons p b bs) (omega arith)

  -- and less, where one is
  sum_lt : (qs : List ℕ) (bs : List (ℕ × ℤ)) (n : ℕ) (base : ℕ × ℤ) → AllZip R qs bs → ((n : ℕ) (base : ℕ × ℤ) → R n base → n ≤ p base) → AmongPairs qs bs n base → n < p base → sum qs < sum_by p bs
  sum_lt [] bs n base all le among less = absurd among
  sum_lt (q ∷ qs) [] n base all le among less = absurd among
  sum_lt (q ∷ qs) (b ∷ bs) n base all le (inl same) less =
      let rest = sum_le qs bs all.1 le in
      let here : q < p b = subst (λ (m : ℕ). m < p b) (sym same.0) (subst (λ (x : ℕ × ℤ). n < p x) (sym same.1) less) in
      rw (sum_by-cons (λ (x : ℕ). x) q qs, sum_by-cons p b bs) (omega arith)
  sum_lt (q ∷ qs) (b ∷ bs) n base all le (inr later) less =
      let rest = sum_lt qs bs n base all.1 le later less in
      let here = le q b all.0 in
      rw (sum_by-cons (λ (x : ℕ). x) q qs, sum_by-cons p b bs) (omega arith)

  sum_gt : (qs : List ℕ) (bs : List (ℕ × ℤ)) (n : ℕ) (base : ℕ × ℤ) → AllZip R qs bs → ((n : ℕ) (base : ℕ × ℤ) → R n base → p base ≤ n) → AmongPairs qs bs n base → p base < n → sum_by p bs < sum qs
  sum_gt [] bs n base all ge among more = absurd among
  sum_gt (q ∷ qs) [] n base all ge among more = absurd among
  sum_gt (q ∷ qs) (b ∷ bs) n base all ge (inl same) more =
      let rest = sum_ge qs bs all.1 ge in
      let here : p b < q = subst (λ (m : ℕ). p b < m) (sym same.0) (subst (λ (x : ℕ × ℤ). p x < n) (sym same.1) more) in
      rw (sum_by-cons (λ (x : ℕ). x) q qs, sum_by-cons p b bs) (omega arith)
  sum_gt (q ∷ qs) (b ∷ bs) n base all ge (inr later) more =
      let rest = sum_gt qs bs n base all.1 ge later more in
      let here = ge q b all.0 in
      rw (sum_by-cons (λ (x : ℕ). x) q qs, sum_by-cons p b bs) (omega arith)

-- ---- the parts

unit_given : (r u : ℕ) → r < u → 1 ≤ cond (nat_lt r u) 1 0
unit_given r u low = grind (arith, nat_tests)

unit_most : (b : Bool) → cond b 1 0 ≤ 1
unit_most true = omega arith
unit_most false = omega arith

unit_kept : (r u : ℕ) → u ≤ r → cond (nat_lt r u) 1 0 ≤ 0
unit_kept r u high = grind (arith, nat_tests)

larger_first : (a b : Claim) → b.remainder < a.remainder → comes_first a b ≡ true
larger_first a b more = grind (arith, nat_tests)

-- of two claims, the one of lower rank has no smaller remainder
smaller_by : (claims : List Claim) (i k : Claim) → rank claims i < rank claims k → (k.remainder ≤ i.remainder) ⊎ (i.remainder < k.remainder) → k.remainder ≤ i.remainder
smaller_by claims i k lower (inl fits) = fits
smaller_by claims i k lower (inr more) =
    let before : rank claims k ≤ rank claims i =
    count_le (λ other. comes_first other k) (λ other. comes_first other i) claims (λ o first. claims_are_ordered.transitive o k i first (larger_first k i more)) in
    absurd (omega arith)

smaller : (claims : List Claim) (i k : Claim) → rank claims i < rank claims k → k.remainder ≤ i.remainder
smaller claims i k lower = smaller_by claims i k lower (tried k.remainder i.remainder)

-- the claims, how many units are left, and the amount and the sum of the bases
module _ (claims : List Claim) (left amount whole most : ℕ) (positive : 0 < whole) where
  abbrev claim_at : ℕ × ℤ → Claim
  claim_at base = claim amount whole base

  abbrev part_at : ℕ × ℤ → ℕ
  part_at base = part claims left (claim amount whole base)

  none_above_by : (i : ℕ × ℤ) → rank claims (claim_at i) < left → (claim_at i).remainder + most < whole → (n : ℕ) (k : ℕ × ℤ) → Near amount whole most n k → (left ≤ rank claims (claim_at k)) ⊎ (rank claims (claim_at k) < left) → n ≤ part_at k
  none_above_by i given far n k near (inl kept) =
      let less = smaller claims (claim_at i) (claim_at k) (omega arith) in
      let fits : n ≤ (claim_at k).floor = no_more whole (claim_at k).floor (claim_at k).remainder (amount * unsigned_abs k.1) n most (units amount whole k positive) near (omega arith) in
      omega arith
  none_above_by i given far n k near (inr also) =
      let below = remainder_below amount whole k positive in
      let fits : n ≤ (claim_at k).floor + 1 = one_more whole (claim_at k).floor (claim_at k).remainder (amount * unsigned_abs k.1) n most (units amount whole k positive) near (omega arith) in
      let unit = unit_given (rank claims (claim_at k)) left also in
      omega arith

  -- where a part with one unit more is further away than others are, these give each base at most its part
  none_above : (i : ℕ × ℤ) → rank claims (claim_at i) < left → (claim_at i).remainder + most < whole → (n : ℕ) (k : ℕ × ℤ) → Near amount whole most n k → n ≤ part_at k
  none_above i given far n k near = none_above_by i given far n k near (tried left (rank claims (claim_at k)))

  none_below_by : (i : ℕ × ℤ) → left ≤ rank claims (claim_at i) → most < (claim_at i).remainder → (n : ℕ) (k : ℕ × ℤ) → Near amount whole most n k → (left ≤ rank claims (claim_at k)) ⊎ (rank claims (claim_at k) < left) → part_at k ≤ n
  none_below_by i kept far n k near (inl also) =
      let below = remainder_below amount whole i positive in
      let least : (claim_at k).floor ≤ n = all_least whole (claim_at k).floor (claim_at k).remainder (amount * unsigned_abs k.1) n most (units amount whole k positive) near (omega arith) in
      let unit = unit_kept (rank claims (claim_at k)) left also in
      omega arith
  none_below_by i kept far n k near (inr given) =
      let more = smaller claims (claim_at k) (claim_at i) (omega arith) in
      let least : (claim_at k).floor + 1 ≤ n = one_least whole (claim_at k).floor (claim_at k).remainder (amount * unsigned_abs k.1) n most (units amount whole k positive) near (omega arith) in
      let unit = unit_most (nat_lt (rank claims (claim_at k)) left) in
      omega arith

  -- where a part without a unit more is further away than others are, these give each base at least its part
  none_below : (i : ℕ × ℤ) → left ≤ rank claims (claim_at i) → most < (claim_at i).remainder → (n : ℕ) (k : ℕ × ℤ) → Near amount whole most n k → part_at k ≤ n
  none_below i kept far n k near = none_below_by i kept far n k near (tried left (rank claims (claim_at k)))

  far_given : (w f r e p g : ℕ) → w * f + r ≡ e → r < w → p ≡ f + g → 1 ≤ g → g ≤ 1 → most < abs_diff (p * w) e → r + most < w
  far_given w f r e p g sum low is least only far =
      let turned : w * f ≡ f * w = grind arith in
      let next = expand f w in
      let part : p * w ≡ (f + 1) * w = ap (λ (x : ℕ). x * w) (let one : p ≡ f + 1 = omega arith in one) in
      omega arith

  far_kept : (w f r e p g : ℕ) → w * f + r ≡ e → p ≡ f + g → g ≤ 0 → most < abs_diff (p * w) e → most < r
  far_kept w f r e p g sum is none far =
      let turned : w * f ≡ f * w = grind arith in
      let part : p * w ≡ f * w = ap (λ (x : ℕ). x * w) (let same : p ≡ f = omega arith in same) in
      omega arith

  abbrev IsNear : ℕ → ℕ × ℤ → Type 0
  IsNear n base = Near amount whole most n base

  near_by : (others : List ℕ) (bases : List (ℕ × ℤ)) → AllZip IsNear others bases → sum others ≡ amount → sum_by part_at bases ≡ amount → (n : ℕ) (i : ℕ × ℤ) → AmongPairs others bases n i → IsNear n i
      → (deviation amount whole i (part_at i) ≤ most) ⊎ (most < deviation amount whole i (part_at i)) → (left ≤ rank claims (claim_at i)) ⊎ (rank claims (claim_at i) < left) → IsNear (part_at i) i
  near_by others bases all theirs ours n i among near (inl fits) either = fits
  near_by others bases all theirs ours n i among near (inr far) (inl kept) =
      let low : most < (claim_at i).remainder = far_kept whole (claim_at i).floor (claim_at i).remainder (amount * unsigned_abs i.1) (part_at i) (cond (nat_lt (rank claims (claim_at i)) left) 1 0) (units amount whole i positive) refl (unit_kept (rank claims (claim_at i)) left kept) far in
      let least : (claim_at i).floor + 1 ≤ n = one_least whole (claim_at i).floor (claim_at i).remainder (amount * unsigned_abs i.1) n most (units amount whole i positive) near low in
      let unit = unit_kept (rank claims (claim_at i)) left kept in
      let more : sum_by part_at bases < sum others = sum_gt IsNear part_at others bases n i all (none_below i kept low) among (omega arith) in
      absurd (omega arith)
  near_by others bases all theirs ours n i among near (inr far) (inr given) =
      let low : (claim_at i).remainder + most < whole = far_given whole (claim_at i).floor (claim_at i).remainder (amount * unsigned_abs i.1) (part_at i) (cond (nat_lt (rank claims (claim_at i)) left) 1 0) (units amount whole i positive) (remainder_below amount whole i positive) refl (unit_given (rank claims (claim_at i)) left given) (unit_most (nat_lt (rank claims (claim_at i)) left)) far in
      let fits : n ≤ (claim_at i).floor = no_more whole (claim_at i).floor (claim_at i).remainder (amount * unsigned_abs i.1) n most (units amount whole i positive) near low in
      let unit = unit_given (rank claims (claim_at i)) left given in
      let less : sum others < sum_by part_at bases = sum_lt IsNear part_at others bases n i all (none_above i given low) among (omega arith) in
      absurd (omega arith)

  near_at : (others : List ℕ) (bases : List (ℕ × ℤ)) → AllZip IsNear others bases → sum others ≡ amount → sum_by part_at bases ≡ amount → (n : ℕ) (i : ℕ × ℤ) → AmongPairs others bases n i → IsNear n i → IsNear (part_at i) i
  near_at others bases all theirs ours n i among near =
      near_by others bases all theirs ours n i among near (tried (deviation amount whole i (part_at i)) most) (tried left (rank claims (claim_at i)))

-- ---- the whole share

-- what is near for each base is so for the list of parts
walk : (claims : List Claim) (left amount whole most : ℕ) (others : List ℕ) (bases : List (ℕ × ℤ)) → AllZip (Near amount whole most) others bases
    → ((n : ℕ) (i : ℕ × ℤ) → AmongPairs others bases n i → Near amount whole most n i → Near amount whole most (part claims left (claim amount whole i)) i)
    → AllZip (Near amount whole most) (map (λ (p : ℕ × ℤ). unsigned_abs p.1) (map (λ (at : Claim). (at.rate, pos (part claims left at))) (map (claim amount whole) bases))) bases
walk claims left amount whole most [] [] all h = tt
walk claims left amount whole most [] (b ∷ bs) all h = absurd all
walk claims left amount whole most (q ∷ qs) [] all h = absurd all
walk claims left amount whole most (q ∷ qs) (b ∷ bs) all h =
    (h q b (inl (refl, refl)) all.0, walk claims left amount whole most qs bs all.1 (λ n i among near. h n i (inr among) near))

sum_over : (g : Claim → ℕ) (amount whole : ℕ) (bases : List (ℕ × ℤ)) → sum_by g (map (claim amount whole) bases) ≡ sum_by (λ base. g (claim amount whole base)) bases
sum_over g amount whole [] = refl
sum_over g amount whole (b ∷ bs) =
    rw (sum_by-cons g (claim amount whole b) (map (claim amount whole) bs), sum_by-cons (λ (base : ℕ × ℤ). g (claim amount whole base)) b bs, sum_over g amount whole bs) refl

nothing_shared : (claims : List Claim) (left amount whole most : ℕ) (base : ℕ × ℤ) → whole ≤ 0 → amount ≤ whole → Near amount whole most (part claims left (claim amount whole base)) base
nothing_shared claims left amount whole most base none within =
    let mine = mul-le amount (unsigned_abs base.1) 0 (unsigned_abs base.1) (omega arith) (omega arith) in
    let theirs = mul-le (part claims left (claim amount whole base)) whole (part claims left (claim amount whole base)) 0 (omega arith) none in
    omega arith

fair_by : (amount whole : ℕ) (bases : List (ℕ × ℤ)) (claims : List Claim) (left : ℕ) (others : List ℕ) (most : ℕ) → (whole ≤ 0) ⊎ (0 < whole) → amount ≤ whole → sum others ≡ amount → sum_by (λ base. part claims left (claim amount whole base)) bases ≡ amount → AllZip (Near amount whole most) others bases
    → AllZip (Near amount whole most) (map (λ (p : ℕ × ℤ). unsigned_abs p.1) (map (λ (at : Claim). (at.rate, pos (part claims left at))) (map (claim amount whole) bases))) bases
fair_by amount whole bases claims left others most (inl none) fits theirs ours all =
    walk claims left amount whole most others bases all (λ n i among near. nothing_shared claims left amount whole most i none fits)
fair_by amount whole bases claims left others most (inr positive) fits theirs ours all =
    walk claims left amount whole most others bases all (near_at claims left amount whole most positive others bases all theirs ours)

-- no other sharing by whole units has a smaller largest deviation
pub shares_are_fairest : (amount : ℕ) (bases : List (ℕ × ℤ)) → Rise bases → amount ≤ total bases → IsFairest amount bases (map (λ (p : ℕ × ℤ). unsigned_abs p.1) (shares amount bases))
shares_are_fairest amount bases rise fits = λ others most theirs all.
    fair_by amount (total bases) bases (claims_of amount bases) (left_of amount (claims_of amount bases)) others most (tried (total bases) 0) fits theirs
    (sym (sum_over (part (claims_of amount bases) (left_of amount (claims_of amount bases))) amount (total bases) bases) ∙ parts_sum amount bases rise fits) all
