use Rattle.std.proofs.Common.{◌≡◌, List, ℕ, ap, subst, ◌∙◌, rules}
use Rattle.cart_sums.specs.declared.sums.RateSum.{RateSum}
use Rattle.cart_sums.proofs.Kept.{take-kept}
use Rattle.cart_sums.specs.Fits.{Shrinks}
use Rattle.cart_sums.specs.Sums.{IsNew, take_at}
use Rattle.cart_sums.proofs.Growth.{sum_at-rate, take-there, take-left, take-shrinks}
use Rattle.cart_sums.proofs.sums.take_at.Goals as goal

pub returns-clause-shrinks : goal.returns-clause-shrinks
returns-clause-shrinks c =
    let e : c.put.new.self.list ≡ take_at c.args.state c.args.sums.list c.args.rate c.args.amount = search rules in
    rw e (take-shrinks c.args.state c.args.sums.list c.args.rate c.args.amount c.requires.sums c.requires.rate c.requires.within)

pub returns-clause-left : goal.returns-clause-left
returns-clause-left c =
    let e : c.put.new.self.list ≡ take_at c.args.state c.args.sums.list c.args.rate c.args.amount = search rules in
    rw e (take-left c.args.state c.args.sums.list c.args.rate c.args.amount c.requires.within)

pub returns-clause-positions : goal.returns-clause-positions
returns-clause-positions c = λ positions are.
    let e : c.put.new.self.list ≡ take_at c.args.state c.args.sums.list c.args.rate c.args.amount = search rules in
    e ∙ ap (λ (sums : List RateSum). take_at c.args.state sums c.args.rate c.args.amount) are ∙ take-kept c.args.state positions c.args.rate c.args.amount

pub returns-in_err-put-clause-wanted : goal.returns-in_err-put-clause-wanted
returns-in_err-put-clause-wanted c =
    let rate : c.less.result.rate ≡ c.args.rate = rw (c.less.ensures, c.sum_at-at.ensures.value) (sum_at-rate c.args.sums.list c.args.rate) in
    let new : IsNew c.args.sums.list c.args.rate = subst (λ (r : ℕ). IsNew c.args.sums.list r) rate c.in_err-put.ensures.wanted.1 in
    search (rules, new)

pub returns-clause-new : goal.returns-clause-new
returns-clause-new c =
    let e : c.put.new.self.list ≡ take_at c.args.state c.args.sums.list c.args.rate c.args.amount = search rules in
    rw e (λ new. absurd (take-there c.args.state c.args.sums.list c.args.rate c.args.amount new))
