use Rattle.std.proofs.Common.{◌≡◌, ◌<◌, List, [], ◌∷◌, length, arith, ◌∙◌}
use Rattle.cart_price.specs.declared.priced.TaxState.{TaxState}
use Rattle.cart_sums.specs.declared.sums.RateSum.{RateSum}
use Rattle.cart_process.specs.declared.line_price.LinePrice.{LinePrice}
use Rattle.cart_process.specs.Summing.{line_sums}
use Rattle.cart_process.proofs.Carts.{line_sums-kept}
use Rattle.cart_process.proofs.taxing.line_sums.Goals as goal

ended : (state : TaxState) (sums whole : List RateSum) (rest : List LinePrice) → length rest < 1 → line_sums state sums rest ≡ whole → sums ≡ whole
ended state sums whole [] none done = done
ended state sums whole (price ∷ rest) none done = absurd (omega arith)

pub returns-clause-value : goal.returns-clause-value
returns-clause-value c =
    ended c.args.state c.loop-rest.sums.list _ c.loop-rest.rest.now c.in_default.len_below c.loop-rest.invariant.done
    ∙ line_sums-kept c.args.state c.args.prices.now
