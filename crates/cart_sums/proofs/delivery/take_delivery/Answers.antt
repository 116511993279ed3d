use Rattle.std.proofs.Common.{◌≡◌, ◌<◌, ◌≤◌, ℕ, List, [], ◌∷◌, length, ap, ◌∙◌, arith}
use Rattle.cart_price.specs.declared.priced.Discount.{Discount}
use Rattle.cart_price.specs.declared.priced.TaxState.{TaxState}
use Rattle.cart_sums.specs.declared.sums.RateSum.{RateSum}
use Rattle.cart_sums.specs.Fits.{Shrinks}
use Rattle.cart_sums.specs.Sums.{take_delivery}
use Rattle.cart_sums.proofs.Kept.{delivery-kept}
use Rattle.cart_sums.proofs.Shared.{take_delivery-shrinks}
use Rattle.cart_sums.proofs.delivery.take_delivery.Goals as goal

ended : (state : TaxState) (rate : ℕ) (sums whole : List RateSum) (rest : List Discount) → length rest < 1 → take_delivery state sums rate rest ≡ whole → sums ≡ whole
ended state rate sums whole [] none done = done
ended state rate sums whole (discount ∷ rest) none done = absurd (omega arith)

pub returns-clause-shrinks : goal.returns-clause-shrinks
returns-clause-shrinks c =
    let e : c.loop-rest.after.list ≡ take_delivery c.args.state c.args.sums.list c.args.rate c.args.discounts.now = ended c.args.state c.args.rate _ _ c.loop-rest.rest.now c.in_default.len_below c.loop-rest.invariant.done in
    rw e (take_delivery-shrinks c.args.state c.args.sums.list c.args.rate c.args.discounts.now c.requires.sums c.requires.rate c.requires.within)

pub returns-clause-positions : goal.returns-clause-positions
returns-clause-positions c = λ positions are.
    let e : c.loop-rest.after.list ≡ take_delivery c.args.state c.args.sums.list c.args.rate c.args.discounts.now = ended c.args.state c.args.rate _ _ c.loop-rest.rest.now c.in_default.len_below c.loop-rest.invariant.done in
    e ∙ ap (λ (sums : List RateSum). take_delivery c.args.state sums c.args.rate c.args.discounts.now) are
    ∙ delivery-kept c.args.state positions c.args.rate c.args.discounts.now
