-- Positions by their rates.
use Rattle.std.proofs.Common.{◌≡◌, ◌≢◌, ℕ, zero, suc, ◌+◌, ◌-◌, ◌*◌, ◌≤◌, ◌<◌, ℤ, pos, negsuc, ◌+ℤ◌, ◌-ℤ◌, neg_ℤ, Bool, true, false, cond, List, [], ◌∷◌, ◌++◌, map, Option, Some, None, refl, sym, ap, subst, ◌∙◌, arith, filter}
use Rattle.std.specs.Prelude.{◌==◌, sum_by, unwrap_or, if◌then◌else◌}
use Rattle.std.specs.declared.cmp.Ordering.{Ordering}
use Rattle.std.specs.declared.cmp.Ordering.TheVariants.{Less, Equal, Greater}
use Rattle.std.specs.List.{AllByRecursion, fold}
use Rattle.std.specs.Ordering.{nat_cmp, is_eq, ordering_reverse}
use Rattle.std.proofs.lemmas.Bool.Decides.{nat_tests}
use Rattle.std.proofs.lemmas.Cmp.{nat_cmp_total}
use Rattle.std.proofs.lemmas.Int.{ints}
use Rattle.std.proofs.lemmas.List.Elements.{filter-append}
use Rattle.std.proofs.lemmas.List.Sums.{fold-append, fold_push, sum_by-append, sum_by-cons}
use Rattle.keyed.specs.Keyed.{Ascends, find, put}
use Rattle.keyed.proofs.Changes.{ascends_put, find_put}
use Rattle.cart_sums.specs.Positions.{at_rate, itself, rates, together}
use Rattle.cart_sums.specs.Sums.{added, taken}
use Rattle.cart_sums.proofs.Growth.{cmp_equal, cmp_same}

-- ---- the positions at a rate

same_rate : (rate : ℕ) → (rate == rate) ≡ true
same_rate rate = grind (arith, nat_tests)

other_rate : (a b : ℕ) → (a ≢ b) → (a == b) ≡ false
other_rate a b differ = grind (arith, nat_tests)

pub at_rate-append : (ps qs : List (ℕ × ℤ)) (rate : ℕ) → at_rate (ps ++ qs) rate ≡ at_rate ps rate ++ at_rate qs rate
at_rate-append ps qs rate = filter-append (λ (at : ℕ × ℤ). at.0 == rate) ps qs

pub at_rate-one : (rate : ℕ) (x : ℤ) → at_rate ((rate, x) ∷ []) rate ≡ (rate, x) ∷ []
at_rate-one rate x = rw (same_rate rate) refl

pub at_rate-other : (rate other : ℕ) (x : ℤ) → (rate ≢ other) → at_rate ((rate, x) ∷ []) other ≡ []
at_rate-other rate other x differ = rw (other_rate rate other differ) refl

-- a position for each of some rates that are above one: none is at that one
none-at : (g : ℕ → ℤ) (rate : ℕ) (rs : List ℕ) → AllByRecursion (λ r. nat_cmp rate r ≡ Less) rs → at_rate (map (λ r. (r, g r)) rs) rate ≡ []
none-at g rate [] above = refl
none-at g rate (r ∷ rs) above =
    let differ : (r == rate) ≡ false = apart rate r above.0 in
    rw differ (none-at g rate rs above.1)
  where
    apart : (a b : ℕ) → nat_cmp a b ≡ Less → (b == a) ≡ false
    apart a b less = grind (arith, nat_tests)

-- a position for each of some rates, of which each stands once: one is at each
pub once-at : (g : ℕ → ℤ) (rs : List ℕ) → Ascends nat_cmp itself rs → AllByRecursion (λ rate. at_rate (map (λ r. (r, g r)) rs) rate ≡ (rate, g rate) ∷ []) rs
once-at g [] up = tt
once-at g (x ∷ rs) up =
    (rw (same_rate x, none-at g x rs up.0) refl, later rs up.0 (once-at g rs up.1))
  where
    apart : (a b : ℕ) → nat_cmp a b ≡ Less → (a == b) ≡ false
    apart a b less = grind (arith, nat_tests)

    later : (ys : List ℕ) → AllByRecursion (λ y. nat_cmp x y ≡ Less) ys → AllByRecursion (λ rate. at_rate (map (λ r. (r, g r)) rs) rate ≡ (rate, g rate) ∷ []) ys
        → AllByRecursion (λ rate. at_rate (map (λ r. (r, g r)) (x ∷ rs)) rate ≡ (rate, g rate) ∷ []) ys
    later [] above all = tt
    later (y ∷ ys) above all = (rw (apart x y above.0) all.0, later ys above.1 all.1)

-- ---- the rates

pub rates-push : (ps : List (ℕ × ℤ)) (rate : ℕ) (x : ℤ) → rates (ps ++ (rate, x) ∷ []) ≡ put nat_cmp itself (rates ps) rate
rates-push ps rate x = fold_push (λ (found : List ℕ) (at : ℕ × ℤ). put nat_cmp itself found at.0) [] ps (rate, x)

ascend-from : (found : List ℕ) (ps : List (ℕ × ℤ)) → Ascends nat_cmp itself found → Ascends nat_cmp itself (fold (λ (found : List ℕ) (at : ℕ × ℤ). put nat_cmp itself found at.0) found ps)
ascend-from found [] up = up
ascend-from found (p ∷ ps) up = ascend-from (put nat_cmp itself found p.0) ps (ascends_put nat_cmp itself nat_cmp_total found p.0 up)

pub rates-ascend : (ps : List (ℕ × ℤ)) → Ascends nat_cmp itself (rates ps)
rates-ascend ps = ascend-from [] ps tt

-- where a rate isn't found, no position is at it
record IsAbsent (found : List ℕ) (ps : List (ℕ × ℤ)) (rate : ℕ) : Type 0 where
  before : find nat_cmp itself found rate ≡ None
  none : at_rate ps rate ≡ []

absent-from : (found : List ℕ) (ps : List (ℕ × ℤ)) (rate : ℕ) → find nat_cmp itself (fold (λ (found : List ℕ) (at : ℕ × ℤ). put nat_cmp itself found at.0) found ps) rate ≡ None → IsAbsent found ps rate
absent-from found [] rate e = record { before = e; none = refl }
absent-from found (p ∷ ps) rate e = by (nat_cmp p.0 rate) refl (absent-from (put nat_cmp itself found p.0) ps rate e)
  where
    less-apart : (a b : ℕ) → nat_cmp a b ≡ Less → (a == b) ≡ false
    less-apart a b is = grind (arith, nat_tests)

    more-apart : (a b : ℕ) → nat_cmp a b ≡ Greater → (a == b) ≡ false
    more-apart a b is = grind (arith, nat_tests)

    by : (o : Ordering) → nat_cmp p.0 rate ≡ o → IsAbsent (put nat_cmp itself found p.0) ps rate → IsAbsent found (p ∷ ps) rate
    by Less is more = record {
      before = let f = rw (find_put nat_cmp itself nat_cmp_total found p.0 rate, is) at more.before in f;
      none = rw (less-apart p.0 rate is) more.none;
    }
    by Equal is more = let f = rw (find_put nat_cmp itself nat_cmp_total found p.0 rate, is) at more.before in absurd (cc)
    by Greater is more = record {
      before = let f = rw (find_put nat_cmp itself nat_cmp_total found p.0 rate, is) at more.before in f;
      none = rw (more-apart p.0 rate is) more.none;
    }

pub rates-absent : (ps : List (ℕ × ℤ)) (rate : ℕ) → find nat_cmp itself (rates ps) rate ≡ None → at_rate ps rate ≡ []
rates-absent ps rate e = (absent-from [] ps rate e).none

pub found-itself : (rs : List ℕ) (rate r : ℕ) → find nat_cmp itself rs rate ≡ Some r → r ≡ rate
found-itself [] rate r e = absurd (cc)
found-itself (x ∷ rs) rate r e = by (nat_cmp x rate) refl (found-itself rs rate r)
  where
    by : (o : Ordering) → nat_cmp x rate ≡ o → (find nat_cmp itself rs rate ≡ Some r → r ≡ rate) → r ≡ rate
    by Equal is more = let f = rw is at e in let same : x ≡ r = cc in sym same ∙ cmp_equal x rate is
    by Less is more = more (rw is at e)
    by Greater is more = more (rw is at e)

-- each of the rates is found
pub all-there : (rs : List ℕ) → Ascends nat_cmp itself rs → AllByRecursion (λ r. find nat_cmp itself rs r ≡ Some r) rs
all-there [] up = tt
all-there (x ∷ rs) up = (rw (cmp_same x) refl, later rs up.0 (all-there rs up.1))
  where
    later : (ys : List ℕ) → AllByRecursion (λ y. nat_cmp x y ≡ Less) ys → AllByRecursion (λ r. find nat_cmp itself rs r ≡ Some r) ys → AllByRecursion (λ r. find nat_cmp itself (x ∷ rs) r ≡ Some r) ys
    later [] above all = tt
    later (y ∷ ys) above all = (rw above.0 all.0, later ys above.1 all.1)

-- none is found below all
none-below : (rate : ℕ) (rs : List ℕ) → AllByRecursion (λ r. nat_cmp rate r ≡ Less) rs → find nat_cmp itself rs rate ≡ None
none-below rate [] above = refl
none-below rate (r ∷ rs) above =
    let greater : nat_cmp r rate ≡ Greater = nat_cmp_total.antisymm r rate ∙ ap ordering_reverse above.0 in
    rw greater (none-below rate rs above.1)

below-all : (rate r : ℕ) (rs : List ℕ) → nat_cmp rate r ≡ Less → AllByRecursion (λ other. nat_cmp r other ≡ Less) rs → AllByRecursion (λ other. nat_cmp rate other ≡ Less) rs
below-all rate r [] less above = tt
below-all rate r (other ∷ rs) less above = (nat_cmp_total.trans rate r other less above.0, below-all rate r rs less above.1)

-- a put of one that is there changes nothing
put-there : (rs : List ℕ) (rate : ℕ) → Ascends nat_cmp itself rs → find nat_cmp itself rs rate ≡ Some rate → put nat_cmp itself rs rate ≡ rs
put-there [] rate up e = absurd (cc)
put-there (x ∷ rs) rate up e = by (nat_cmp x rate) refl (put-there rs rate up.1)
  where
    by : (o : Ordering) → nat_cmp x rate ≡ o → (find nat_cmp itself rs rate ≡ Some rate → put nat_cmp itself rs rate ≡ rs) → put nat_cmp itself (x ∷ rs) rate ≡ x ∷ rs
    by Equal is more = rw is (ap (λ r. r ∷ rs) (sym (cmp_equal x rate is)))
    by Less is more = rw is (ap (λ ys. x ∷ ys) (more (rw is at e)))
    by Greater is more =
        let back : nat_cmp rate x ≡ Less = nat_cmp_total.antisymm rate x ∙ ap ordering_reverse is in
        let f = rw (is, none-below rate rs (below-all rate x rs back up.0)) at e in
        absurd (cc)

stay-from : (g : ℕ → ℤ) (found rs : List ℕ) → Ascends nat_cmp itself found → AllByRecursion (λ r. find nat_cmp itself found r ≡ Some r) rs
    → fold (λ (found : List ℕ) (at : ℕ × ℤ). put nat_cmp itself found at.0) found (map (λ r. (r, g r)) rs) ≡ found
stay-from g found [] up all = refl
stay-from g found (r ∷ rs) up all =
    ap (λ (f : List ℕ). fold (λ (found : List ℕ) (at : ℕ × ℤ). put nat_cmp itself found at.0) f (map (λ r. (r, g r)) rs)) (put-there found r up all.0)
    ∙ stay-from g found rs up all.1

-- a position more at each of the rates changes no rate
pub rates-stay : (g : ℕ → ℤ) (ps : List (ℕ × ℤ)) → rates (ps ++ map (λ r. (r, g r)) (rates ps)) ≡ rates ps
rates-stay g ps =
    fold-append (λ (found : List ℕ) (at : ℕ × ℤ). put nat_cmp itself found at.0) [] ps (map (λ r. (r, g r)) (rates ps))
    ∙ stay-from g (rates ps) (rates ps) (rates-ascend ps) (all-there (rates ps) (rates-ascend ps))

-- ---- what they come to

-- numbers together are what is added less what is taken off
pub together-is : (ps : List (ℕ × ℤ)) → together (map (λ at. at.1) ps) ≡ pos (sum_by (λ at. added at.1) ps) -ℤ pos (sum_by (λ at. taken at.1) ps)
together-is [] = refl
together-is (p ∷ ps) =
    rw (sum_by-cons (λ (at : ℕ × ℤ). added at.1) p ps, sum_by-cons (λ (at : ℕ × ℤ). taken at.1) p ps) (by p.1 (together-is ps))
  where
    by : (x : ℤ) → together (map (λ at. at.1) ps) ≡ pos (sum_by (λ at. added at.1) ps) -ℤ pos (sum_by (λ at. taken at.1) ps)
        → x +ℤ together (map (λ at. at.1) ps) ≡ pos (added x + sum_by (λ at. added at.1) ps) -ℤ pos (taken x + sum_by (λ at. taken at.1) ps)
    by (pos n) more = omega (arith, ints, more)
    by (negsuc n) more = omega (arith, ints, more)
