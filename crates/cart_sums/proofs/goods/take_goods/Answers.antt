use Rattle.std.proofs.Common.{◌≡◌, ◌<◌, ◌≤◌, ℕ, List, [], ◌∷◌, length, ap, subst, ◌∙◌, arith}
use Rattle.std.specs.Prelude.{sum_by}
use Rattle.cart_price.specs.declared.priced.Discount.{Discount}
use Rattle.cart_price.specs.declared.priced.TaxState.{TaxState}
use Rattle.cart_sums.specs.declared.sums.RateSum.{RateSum}
use Rattle.cart_sums.specs.Discounts.{total_off}
use Rattle.cart_sums.specs.Fits.{AreSums, Shrinks}
use Rattle.cart_sums.specs.Sums.{left_at, take_goods}
use Rattle.cart_sums.proofs.Kept.{goods-kept}
use Rattle.cart_sums.proofs.Shared.{take_goods-shrinks}
use Rattle.cart_sums.proofs.goods.take_goods.Goals as goal

ended : (state : TaxState) (sums whole : List RateSum) (rest : List Discount) → length rest < 1 → take_goods state sums rest ≡ whole → sums ≡ whole
ended state sums whole [] none done = done
ended state sums whole (discount ∷ rest) none done = absurd (omega arith)

pub returns-clause-shrinks : goal.returns-clause-shrinks
returns-clause-shrinks c =
    let e : c.loop-rest.after.list ≡ take_goods c.args.state c.args.sums.list c.args.discounts.now = ended c.args.state _ _ c.loop-rest.rest.now c.in_default.len_below c.loop-rest.invariant.done in
    rw e (take_goods-shrinks c.args.state c.args.sums.list c.args.discounts.now c.requires.sums c.requires.within)

pub returns-clause-positions : goal.returns-clause-positions
returns-clause-positions c = λ positions are.
    let e : c.loop-rest.after.list ≡ take_goods c.args.state c.args.sums.list c.args.discounts.now = ended c.args.state _ _ c.loop-rest.rest.now c.in_default.len_below c.loop-rest.invariant.done in
    e ∙ ap (λ (sums : List RateSum). take_goods c.args.state sums c.args.discounts.now) are
    ∙ goods-kept c.args.state positions c.args.discounts.now (subst AreSums are c.requires.sums) (subst (λ sums. total_off c.args.discounts.now ≤ sum_by left_at sums) are c.requires.within)
