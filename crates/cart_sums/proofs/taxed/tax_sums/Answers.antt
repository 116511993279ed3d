use Rattle.std.proofs.Common.{◌≡◌, List, ap, subst, ◌∙◌, rules}
use Rattle.cart_sums.specs.declared.sums.RateSum.{RateSum}
use Rattle.cart_sums.specs.Fits.{AreSums, AreTaxed}
use Rattle.cart_sums.specs.Sums.{tax_sums}
use Rattle.cart_sums.proofs.Taxing.{sums-taxed, taxes-kept}
use Rattle.cart_sums.proofs.taxed.tax_sums.Goals as goal

pub returns-clause-taxed : goal.returns-clause-taxed
returns-clause-taxed c =
    let e : c.from_vec.result ≡ tax_sums c.args.state c.args.mode c.args.sums.now.list = search rules in
    rw e (sums-taxed c.args.state c.args.mode c.args.sums.now.list c.requires)

pub returns-clause-positions : goal.returns-clause-positions
returns-clause-positions c = λ given are.
    let e : c.from_vec.result ≡ tax_sums c.args.state c.args.mode c.args.sums.now.list = search rules in
    e ∙ ap (λ (sums : List RateSum). tax_sums c.args.state c.args.mode sums) are ∙ taxes-kept c.args.state c.args.mode given (subst AreSums are c.requires)
