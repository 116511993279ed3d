use Rattle.std.proofs.Common.{◌≡◌, List, ℕ, ap, subst, ◌∙◌, rules}
use Rattle.cart_sums.specs.declared.sums.RateSum.{RateSum}
use Rattle.cart_sums.proofs.Kept.{add-kept}
use Rattle.cart_sums.specs.Fits.{Grows}
use Rattle.cart_sums.specs.Sums.{IsNew, add_at}
use Rattle.cart_sums.proofs.Growth.{sum_at-rate, add-grows, add-left}
use Rattle.cart_sums.proofs.sums.add_at.Goals as goal

pub returns-clause-grows : goal.returns-clause-grows
returns-clause-grows c =
    let e : c.put.new.self.list ≡ add_at c.args.state c.args.sums.list c.args.rate c.args.amount = search rules in
    rw e (add-grows c.args.state c.args.sums.list c.args.rate c.args.amount c.requires.sums c.requires.rate c.requires.room)

pub returns-clause-left : goal.returns-clause-left
returns-clause-left c =
    let e : c.put.new.self.list ≡ add_at c.args.state c.args.sums.list c.args.rate c.args.amount = search rules in
    rw e (add-left c.args.state c.args.sums.list c.args.rate c.args.amount c.requires.sums c.requires.rate)

pub returns-clause-positions : goal.returns-clause-positions
returns-clause-positions c = λ positions are.
    let e : c.put.new.self.list ≡ add_at c.args.state c.args.sums.list c.args.rate c.args.amount = search rules in
    e ∙ ap (λ (sums : List RateSum). add_at c.args.state sums c.args.rate c.args.amount) are ∙ add-kept c.args.state positions c.args.rate c.args.amount

pub returns-in_err-put-clause-wanted : goal.returns-in_err-put-clause-wanted
returns-in_err-put-clause-wanted c =
    let rate : c.plus.result.rate ≡ c.args.rate = rw (c.plus.ensures, c.sum_at-at.ensures.value) (sum_at-rate c.args.sums.list c.args.rate) in
    let new : IsNew c.args.sums.list c.args.rate = subst (λ (r : ℕ). IsNew c.args.sums.list r) rate c.in_err-put.ensures.wanted.1 in
    search (rules, new)
