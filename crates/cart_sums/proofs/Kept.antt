-- The sums that are kept are those of the positions, and say the same as these.
use Rattle.std.proofs.Common.{◌≡◌, ◌≢◌, ℕ, zero, suc, ◌+◌, ◌-◌, ◌*◌, ◌≤◌, ℤ, pos, negsuc, neg_ℤ, true, false, List, [], ◌∷◌, ◌++◌, map, Option, Some, None, refl, sym, ap, subst, ◌∙◌, arith, append-nil, append_assoc}
use Rattle.std.specs.Prelude.{sum_by, unwrap_or, unsigned_abs}
use Rattle.std.specs.Option.{option_map}
use Rattle.std.specs.declared.cmp.Ordering.{Ordering}
use Rattle.std.specs.declared.cmp.Ordering.TheVariants.{Less, Equal, Greater}
use Rattle.std.specs.List.{AllByRecursion, fold}
use Rattle.std.specs.Ordering.{nat_cmp, ordering_reverse}
use Rattle.std.proofs.lemmas.Bool.Decides.{nat_tests}
use Rattle.std.proofs.lemmas.Cmp.{nat_cmp_total}
use Rattle.std.proofs.lemmas.Int.{ints}
use Rattle.std.proofs.lemmas.Simd.{map-map}
use Rattle.std.proofs.lemmas.List.Sums.{sum_by-append, sum_by-cons}
use Rattle.keyed.specs.Keyed.{Ascends, find, put}
use Rattle.cart_price.proofs.Halves.{half_up_zero}
use Rattle.cart_price.specs.declared.priced.Discount.{Discount}
use Rattle.cart_price.specs.declared.priced.TaxState.{TaxState}
use Rattle.cart_price.specs.declared.priced.TaxState.TheVariants.{Gross, Net, Free}
use Rattle.cart_price.specs.LargestRemainder.{claim, claims_of, left_of, part, shares, total}
use Rattle.cart_sums.specs.declared.sums.RateSum.{RateSum}
use Rattle.cart_sums.specs.Discounts.{total_off}
use Rattle.cart_sums.specs.Fits.{AreSums, Fits, Shrinks}
use Rattle.cart_sums.specs.Positions as direct
use Rattle.cart_sums.specs.Positions.{Positions, amount_at, at_rate, goods_less, itself, negated, rates, taken_at, with_shared}
use Rattle.cart_sums.specs.Sums.{add_at, added, bases, bear_less, empty, left_at, less, plus, rate_key, sum_at, sum_of, sums_of, take_at, take_delivery, take_goods, take_shared, taken}
use Rattle.cart_sums.specs.Taxes.{tax_on}
use Rattle.cart_sums.proofs.ByRate.{all-there, at_rate-append, at_rate-one, at_rate-other, found-itself, once-at, rates-absent, rates-ascend, rates-push, rates-stay, together-is}
use Rattle.cart_sums.proofs.Growth.{cmp_equal}
use Rattle.cart_sums.proofs.Shared.{take_shared-shrinks}

zero_times : (n : ℕ) → 0 * n ≡ 0
zero_times n = omega arith

pub tax_on-zero : (state : TaxState) (rate : ℕ) → tax_on state 0 rate ≡ 0
tax_on-zero Gross rate = rw (zero_times rate) (half_up_zero (10000 + rate) (omega arith))
tax_on-zero Net rate = rw (zero_times rate) (half_up_zero 10000 (omega arith))
tax_on-zero Free rate = refl

same_sums : (rate a b c d a' b' c' d' : ℕ) → a ≡ a' → b ≡ b' → c ≡ c' → d ≡ d'
    → (let x : RateSum = record { rate = rate; plus = a; minus = b; plus_tax = c; minus_tax = d } in x) ≡ record { rate = rate; plus = a'; minus = b'; plus_tax = c'; minus_tax = d' }
same_sums rate a b c d a' b' c' d' e f g h = rw (e, f, g, h) refl

-- one sum of a list with one element more
more_by : (f : ℕ × ℤ → ℕ) (ps qs : Positions) (rate : ℕ) (x : ℤ) → at_rate qs rate ≡ (rate, x) ∷ [] → sum_by f (at_rate (ps ++ qs) rate) ≡ sum_by f (at_rate ps rate) + f (rate, x)
more_by f ps qs rate x one =
    rw (at_rate-append ps qs rate, one, sum_by-append f (at_rate ps rate) ((rate, x) ∷ []), sum_by-cons f (rate, x) []) (omega arith)

-- with one position more at a rate
pub plus-kept : (state : TaxState) (ps qs : Positions) (rate amount : ℕ) → at_rate qs rate ≡ (rate, pos amount) ∷ [] → sum_of state (ps ++ qs) rate ≡ plus state (sum_of state ps rate) amount
plus-kept state ps qs rate amount one =
    same_sums rate _ _ _ _ _ _ _ _
    (more_by (λ at. added at.1) ps qs rate (pos amount) one)
    (let e = more_by (λ at. taken at.1) ps qs rate (pos amount) one in omega (arith, e))
    (more_by (λ at. tax_on state (added at.1) rate) ps qs rate (pos amount) one)
    (let e = more_by (λ at. tax_on state (taken at.1) rate) ps qs rate (pos amount) one in omega (arith, e, tax_on-zero state rate))

pub less-kept : (state : TaxState) (ps qs : Positions) (rate amount : ℕ) → at_rate qs rate ≡ (rate, neg_ℤ (pos amount)) ∷ [] → sum_of state (ps ++ qs) rate ≡ less state (sum_of state ps rate) amount
less-kept state ps qs rate zero one =
    same_sums rate _ _ _ _ _ _ _ _
    (let e = more_by (λ at. added at.1) ps qs rate (pos 0) one in omega (arith, e))
    (let e = more_by (λ at. taken at.1) ps qs rate (pos 0) one in omega (arith, e))
    (let e = more_by (λ at. tax_on state (added at.1) rate) ps qs rate (pos 0) one in omega (arith, e, tax_on-zero state rate))
    (let e = more_by (λ at. tax_on state (taken at.1) rate) ps qs rate (pos 0) one in omega (arith, e))
less-kept state ps qs rate (suc n) one =
    same_sums rate _ _ _ _ _ _ _ _
    (let e = more_by (λ at. added at.1) ps qs rate (negsuc n) one in omega (arith, e))
    (more_by (λ at. taken at.1) ps qs rate (negsuc n) one)
    (let e = more_by (λ at. tax_on state (added at.1) rate) ps qs rate (negsuc n) one in omega (arith, e, tax_on-zero state rate))
    (more_by (λ at. tax_on state (taken at.1) rate) ps qs rate (negsuc n) one)

other-kept : (state : TaxState) (ps : Positions) (rate other : ℕ) (x : ℤ) → (rate ≢ other) → sum_of state (ps ++ (rate, x) ∷ []) other ≡ sum_of state ps other
other-kept state ps rate other x differ =
    let here : at_rate (ps ++ (rate, x) ∷ []) other ≡ at_rate ps other = rw (at_rate-append ps ((rate, x) ∷ []) other, at_rate-other rate other x differ) (append-nil (at_rate ps other)) in
    rw here refl

-- what there is at a rate
find-map : (state : TaxState) (ps : Positions) (rs : List ℕ) (rate : ℕ) → find nat_cmp rate_key (map (sum_of state ps) rs) rate ≡ option_map (sum_of state ps) (find nat_cmp itself rs rate)
find-map state ps [] rate = refl
find-map state ps (r ∷ rs) rate = by (nat_cmp r rate) refl (find-map state ps rs rate)
  where
    by : (o : Ordering) → nat_cmp r rate ≡ o → find nat_cmp rate_key (map (sum_of state ps) rs) rate ≡ option_map (sum_of state ps) (find nat_cmp itself rs rate)
        → find nat_cmp rate_key (map (sum_of state ps) (r ∷ rs)) rate ≡ option_map (sum_of state ps) (find nat_cmp itself (r ∷ rs) rate)
    by Less is more = rw is more
    by Equal is more = rw is refl
    by Greater is more = rw is more

sum_at-kept : (state : TaxState) (ps : Positions) (rate : ℕ) → sum_at (sums_of state ps) rate ≡ sum_of state ps rate
sum_at-kept state ps rate = rw (find-map state ps (rates ps) rate) (by (find nat_cmp itself (rates ps) rate) refl)
  where
    by : (o : Option ℕ) → find nat_cmp itself (rates ps) rate ≡ o → unwrap_or (option_map (sum_of state ps) o) (empty rate) ≡ sum_of state ps rate
    by None e = rw (rates-absent ps rate e) refl
    by (Some r) e = ap (sum_of state ps) (found-itself (rates ps) rate r e)

-- ---- a position more

apart : (a b : ℕ) → nat_cmp a b ≡ Less → b ≢ a
apart a b less = λ e. grind (arith, nat_tests)

map-other : (state : TaxState) (ps : Positions) (rate : ℕ) (x : ℤ) (rs : List ℕ) → AllByRecursion (λ r. nat_cmp rate r ≡ Less) rs → map (sum_of state ps) rs ≡ map (sum_of state (ps ++ (rate, x) ∷ [])) rs
map-other state ps rate x [] above = refl
map-other state ps rate x (r ∷ rs) above =
    rw (other-kept state ps rate r x (λ e. apart rate r above.0 (sym e)), map-other state ps rate x rs above.1) refl

below-all : (rate r : ℕ) (rs : List ℕ) → nat_cmp rate r ≡ Less → AllByRecursion (λ other. nat_cmp r other ≡ Less) rs → AllByRecursion (λ other. nat_cmp rate other ≡ Less) rs
below-all rate r [] less above = tt
below-all rate r (other ∷ rs) less above = (nat_cmp_total.trans rate r other less above.0, below-all rate r rs less above.1)

put-kept : (state : TaxState) (ps : Positions) (rate : ℕ) (x : ℤ) (rs : List ℕ) → Ascends nat_cmp itself rs
    → put nat_cmp rate_key (map (sum_of state ps) rs) (sum_of state (ps ++ (rate, x) ∷ []) rate) ≡ map (sum_of state (ps ++ (rate, x) ∷ [])) (put nat_cmp itself rs rate)
put-kept state ps rate x [] up = refl
put-kept state ps rate x (r ∷ rs) up = by (nat_cmp r rate) refl (put-kept state ps rate x rs up.1)
  where
    by : (o : Ordering) → nat_cmp r rate ≡ o
        → put nat_cmp rate_key (map (sum_of state ps) rs) (sum_of state (ps ++ (rate, x) ∷ []) rate) ≡ map (sum_of state (ps ++ (rate, x) ∷ [])) (put nat_cmp itself rs rate)
        → put nat_cmp rate_key (map (sum_of state ps) (r ∷ rs)) (sum_of state (ps ++ (rate, x) ∷ []) rate) ≡ map (sum_of state (ps ++ (rate, x) ∷ [])) (put nat_cmp itself (r ∷ rs) rate)
    by Less is more = rw (is, other-kept state ps rate r x (apart r rate is)) (ap (λ sums. sum_of state ps r ∷ sums) more)
    by Equal is more = rw is (ap (λ sums. sum_of state (ps ++ (rate, x) ∷ []) rate ∷ sums) (map-other state ps rate x rs (subst (λ q. AllByRecursion (λ other. nat_cmp q other ≡ Less) rs) (cmp_equal r rate is) up.0)))
    by Greater is more =
        let back : nat_cmp rate r ≡ Less = nat_cmp_total.antisymm rate r ∙ ap ordering_reverse is in
        rw is (ap (λ sums. sum_of state (ps ++ (rate, x) ∷ []) rate ∷ sums) (map-other state ps rate x (r ∷ rs) (back, below-all rate r rs back up.0)))

-- a position more at a rate changes just its sum
put-sums : (state : TaxState) (ps : Positions) (rate : ℕ) (x : ℤ) → put nat_cmp rate_key (sums_of state ps) (sum_of state (ps ++ (rate, x) ∷ []) rate) ≡ sums_of state (ps ++ (rate, x) ∷ [])
put-sums state ps rate x =
    put-kept state ps rate x (rates ps) (rates-ascend ps) ∙ ap (map (sum_of state (ps ++ (rate, x) ∷ []))) (sym (rates-push ps rate x))

pub add-kept : (state : TaxState) (ps : Positions) (rate amount : ℕ) → add_at state (sums_of state ps) rate amount ≡ sums_of state (ps ++ (rate, pos amount) ∷ [])
add-kept state ps rate amount =
    ap (λ at. put nat_cmp rate_key (sums_of state ps) (plus state at amount)) (sum_at-kept state ps rate)
    ∙ ap (put nat_cmp rate_key (sums_of state ps)) (sym (plus-kept state ps ((rate, pos amount) ∷ []) rate amount (at_rate-one rate (pos amount))))
    ∙ put-sums state ps rate (pos amount)

pub take-kept : (state : TaxState) (ps : Positions) (rate amount : ℕ) → take_at state (sums_of state ps) rate amount ≡ sums_of state (ps ++ (rate, neg_ℤ (pos amount)) ∷ [])
take-kept state ps rate amount =
    ap (λ at. put nat_cmp rate_key (sums_of state ps) (less state at amount)) (sum_at-kept state ps rate)
    ∙ ap (put nat_cmp rate_key (sums_of state ps)) (sym (less-kept state ps ((rate, neg_ℤ (pos amount)) ∷ []) rate amount (at_rate-one rate (neg_ℤ (pos amount)))))
    ∙ put-sums state ps rate (neg_ℤ (pos amount))

-- the discounts on a delivery
pub delivery-kept : (state : TaxState) (ps : Positions) (rate : ℕ) (discounts : List Discount) → take_delivery state (sums_of state ps) rate discounts ≡ sums_of state (ps ++ taken_at rate discounts)
delivery-kept state ps rate [] = ap (sums_of state) (sym (append-nil ps))
delivery-kept state ps rate (discount ∷ discounts) =
    ap (λ (sums : List RateSum). take_delivery state sums rate discounts) (take-kept state ps rate (unsigned_abs discount.amount))
    ∙ delivery-kept state (ps ++ (rate, neg_ℤ (pos (unsigned_abs discount.amount))) ∷ []) rate discounts
    ∙ ap (sums_of state) (append_assoc ps ((rate, neg_ℤ (pos (unsigned_abs discount.amount))) ∷ []) (taken_at rate discounts))

-- ---- an amount shared among the rates

-- what is left at a rate is what its positions come to
pub amount_at-is : (state : TaxState) (ps : Positions) (rate : ℕ) → Fits (sum_of state ps rate) → pos (left_at (sum_of state ps rate)) ≡ amount_at ps rate
amount_at-is state ps rate fits = let e = together-is (at_rate ps rate) in omega (arith, ints, e, fits.left)

pub fit-each : (state : TaxState) (ps : Positions) (rs : List ℕ) → AllByRecursion Fits (map (sum_of state ps) rs) → AllByRecursion (λ rate. Fits (sum_of state ps rate)) rs
fit-each state ps [] all = tt
fit-each state ps (r ∷ rs) all = (all.0, fit-each state ps rs all.1)

bases-agree : (state : TaxState) (ps : Positions) (rs : List ℕ) → AllByRecursion (λ rate. Fits (sum_of state ps rate)) rs → bases (map (sum_of state ps) rs) ≡ map (λ rate. (rate, amount_at ps rate)) rs
bases-agree state ps [] all = refl
bases-agree state ps (r ∷ rs) all = rw (amount_at-is state ps r all.0, bases-agree state ps rs all.1) refl

bases-kept : (state : TaxState) (ps : Positions) → AreSums (sums_of state ps) → bases (sums_of state ps) ≡ direct.bases ps
bases-kept state ps are = bases-agree state ps (rates ps) (fit-each state ps (rates ps) are.fit)

-- what a rate gets of an amount
share_of : ℕ → Positions → ℕ × ℤ → ℕ
share_of amount bases base = part (claims_of amount bases) (left_of amount (claims_of amount bases)) (claim amount (total bases) base)

module _ (state : TaxState) (ps : Positions) (amount : ℕ) where
  part_at : ℕ → ℕ
  part_at rate = share_of amount (direct.bases ps) (rate, amount_at ps rate)

  parts : shares amount (direct.bases ps) ≡ map (λ rate. (rate, pos (part_at rate))) (rates ps)
  unfolding part_at share_of
  parts = simp map-map

  less-each : (rs : List ℕ) → bear_less state (map (sum_of state ps) rs) (map (λ rate. (rate, pos (part_at rate))) rs) ≡ map (λ rate. less state (sum_of state ps rate) (part_at rate)) rs
  less-each [] = refl
  less-each (r ∷ rs) = ap (λ (l : List RateSum). less state (sum_of state ps r) (part_at r) ∷ l) (less-each rs)

  parts_negated : (rs : List ℕ) → map negated (map (λ rate. (rate, pos (part_at rate))) rs) ≡ map (λ rate. (rate, neg_ℤ (pos (part_at rate)))) rs
  parts_negated [] = refl
  parts_negated (r ∷ rs) = ap (λ (l : List (ℕ × ℤ)). (r, neg_ℤ (pos (part_at r))) ∷ l) (parts_negated rs)

  less-agree : (qs : Positions) (rs : List ℕ) → AllByRecursion (λ rate. at_rate qs rate ≡ (rate, neg_ℤ (pos (part_at rate))) ∷ []) rs
      → map (λ rate. less state (sum_of state ps rate) (part_at rate)) rs ≡ map (sum_of state (ps ++ qs)) rs
  less-agree qs [] all = refl
  less-agree qs (r ∷ rs) all = rw (less-kept state ps qs r (part_at r) all.0, less-agree qs rs all.1) refl

  shared-direct : bear_less state (sums_of state ps) (shares amount (direct.bases ps)) ≡ sums_of state (with_shared ps amount)
  shared-direct =
      let qs : Positions = map (λ rate. (rate, neg_ℤ (pos (part_at rate)))) (rates ps) in
      let same : with_shared ps amount ≡ ps ++ qs = ap (λ (l : Positions). ps ++ map negated l) parts ∙ ap (λ (l : Positions). ps ++ l) (parts_negated (rates ps)) in
      ap (bear_less state (sums_of state ps)) parts
      ∙ less-each (rates ps)
      ∙ less-agree qs (rates ps) (once-at (λ rate. neg_ℤ (pos (part_at rate))) (rates ps) (rates-ascend ps))
      ∙ ap (map (sum_of state (ps ++ qs))) (sym (rates-stay (λ rate. neg_ℤ (pos (part_at rate))) ps))
      ∙ ap (sums_of state) (sym same)

pub shared-kept : (state : TaxState) (ps : Positions) (amount : ℕ) → AreSums (sums_of state ps) → take_shared state (sums_of state ps) amount ≡ sums_of state (with_shared ps amount)
shared-kept state ps amount are = ap (λ (b : List (ℕ × ℤ)). bear_less state (sums_of state ps) (shares amount b)) (bases-kept state ps are) ∙ shared-direct state ps amount

-- the discounts on goods
pub goods-kept : (state : TaxState) (ps : Positions) (discounts : List Discount) → AreSums (sums_of state ps) → total_off discounts ≤ sum_by left_at (sums_of state ps) → take_goods state (sums_of state ps) discounts ≡ sums_of state (goods_less ps discounts)
goods-kept state ps [] are low = refl
goods-kept state ps (discount ∷ discounts) are low =
    let split : total_off (discount ∷ discounts) ≡ unsigned_abs discount.amount + total_off discounts = sum_by-cons (λ (d : Discount). unsigned_abs d.amount) discount discounts in
    let one : take_shared state (sums_of state ps) (unsigned_abs discount.amount) ≡ sums_of state (with_shared ps (unsigned_abs discount.amount)) = shared-kept state ps (unsigned_abs discount.amount) are in
    let shrinks : Shrinks (sums_of state ps) (sums_of state (with_shared ps (unsigned_abs discount.amount))) (unsigned_abs discount.amount) =
    subst (λ sums. Shrinks (sums_of state ps) sums (unsigned_abs discount.amount)) one (take_shared-shrinks state (sums_of state ps) (unsigned_abs discount.amount) are (omega (arith, split, low))) in
    ap (λ (sums : List RateSum). take_goods state sums discounts) one
    ∙ goods-kept state (with_shared ps (unsigned_abs discount.amount)) discounts shrinks.sums (omega (arith, split, low, shrinks.left))
