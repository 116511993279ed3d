use Rattle.std.proofs.Common.{◌≡◌, ◌<◌, ◌++◌, ℕ, List, [], ◌∷◌, map, length, arith, append-nil, sym, ◌∙◌}
use Rattle.cart_price.specs.declared.lent.LentLine.{LentLine}
use Rattle.cart_price.specs.declared.priced.TaxState.{TaxState}
use Rattle.cart_price.specs.Lent.{line_rows}
use Rattle.cart_process.specs.declared.line_price.LinePrice.{LinePrice}
use Rattle.cart_process.specs.Priced.{line_prices}
use Rattle.cart_process.proofs.Ranges.{prices-fit}
use Rattle.cart_process.proofs.goods.prices_of.Goals as goal

ended : (state : TaxState) (rules : List ℕ) (prices whole : List LinePrice) (rest : List LentLine) → length rest < 1 → prices ++ line_prices state rules (map line_rows rest) ≡ whole → prices ≡ whole
ended state rules prices whole [] none done = sym (append-nil prices) ∙ done
ended state rules prices whole (line ∷ rest) none done = absurd (omega arith)

pub returns-clause-fit : goal.returns-clause-fit
returns-clause-fit c =
    let e : c.loop-rest.prices.items ≡ line_prices c.args.state c.args.rules.now (map line_rows c.args.lines.now) = ended c.args.state c.args.rules.now c.loop-rest.prices.items _ c.loop-rest.rest.now c.in_default.len_below c.loop-rest.invariant.done in
    rw e (prices-fit c.args.state c.args.rules.now (map line_rows c.args.lines.now) c.requires)
