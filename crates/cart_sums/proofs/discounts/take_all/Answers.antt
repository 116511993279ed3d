use Rattle.std.proofs.Common.{◌≡◌, ◌<◌, ◌≤◌, ℕ, List, [], ◌∷◌, length, get_or, subst, arith, rules}
use Rattle.std.specs.List.{fold}
use Rattle.cart_sums.specs.declared.discounts.Offer.{Offer}
use Rattle.cart_sums.specs.declared.discounts.Taken.{Taken}
use Rattle.cart_sums.specs.Discounts.{IsTakenOff, take_off, take_all}
use Rattle.cart_sums.proofs.Discounted.{discounts-within, none-taken-back}
use Rattle.cart_sums.proofs.discounts.take_all.Goals as goal

ended : (taken whole : Taken) (rest : List Offer) → length rest < 1 → fold take_off taken rest ≡ whole → taken ≡ whole
ended taken whole [] none done = done
ended taken whole (offer ∷ rest) none done = absurd (omega arith)

pub returns-clause-within : goal.returns-clause-within
returns-clause-within c =
    let e : c.loop-rest.taken ≡ take_all c.args.left c.args.offers.now = ended _ _ c.loop-rest.rest.now c.in_default.len_below c.loop-rest.invariant.done in
    rw e (discounts-within c.args.left c.args.offers.now)

wanted-by-all : (taken whole : Taken) (rest : List Offer) (d : Offer) → 1 ≤ length rest → 0 < length (take_off taken (get_or rest 0 d)).discounts → fold take_off taken rest ≡ whole → 0 < length whole.discounts
wanted-by-all taken whole [] d some one done = absurd (omega (arith, some))
wanted-by-all taken whole (offer ∷ rest) d some one done =
    subst (λ (all : Taken). 0 < length all.discounts) done (omega (arith, one, none-taken-back (take_off taken offer) rest))

pub returns-in_err-taken-clause-wanted : goal.returns-in_err-taken-clause-wanted
returns-in_err-taken-clause-wanted c =
    let all : 0 < length (take_all c.args.left c.args.offers.now).discounts = wanted-by-all c.loop-rest.taken _ c.loop-rest.rest.now _ c.in-len1-up.len_at_least c.in_err-taken.ensures.wanted c.loop-rest.invariant.done in
    search (rules, all)
