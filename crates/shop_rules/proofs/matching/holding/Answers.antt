use Rattle.std.proofs.Common.{◌≡◌, ◌<◌, ℕ, ℤ, zero, suc, Bool, true, false, List, [], ◌∷◌, length, get_or, refl, subst, arith, rules}
use Rattle.shop_rules.specs.declared.facts.CartFacts.{CartFacts}
use Rattle.shop_rules.specs.Conditions.{conditions_hold}
use Rattle.shop_rules.specs.Ranking.{Rule, holding}
use Rattle.shop_rules.proofs.matching.holding.Goals as goal

some-holds : (facts : CartFacts) (moment : ℤ) (all : List Rule) (i : ℕ) (d : Rule) → i < length all → conditions_hold (get_or all i d).2 facts moment ≡ true → 0 < length (holding all facts moment)
some-holds facts moment [] i d within holds = absurd (omega (arith, within))
some-holds facts moment (rule ∷ more) zero d within holds = rw holds (omega arith)
some-holds facts moment (rule ∷ more) (suc i) d within holds = by (some-holds facts moment more i d (omega (arith, within)) holds) (conditions_hold rule.2 facts moment) refl
  where
    by : 0 < length (holding more facts moment) → (first : Bool) → conditions_hold rule.2 facts moment ≡ first → 0 < length (holding (rule ∷ more) facts moment)
    by others true e = rw e (omega arith)
    by others false e = rw e others

pub returns-in_err-push-clause-wanted : goal.returns-in_err-push-clause-wanted
returns-in_err-push-clause-wanted c =
    let holds : conditions_hold c.loop-id-item.result.2 c.args.facts.now c.args.moment ≡ true = search rules in
    let there : conditions_hold (get_or c.args.trees.now c.loop-id.id-index c.loop-id-item.result).2 c.args.facts.now c.args.moment ≡ true = subst (λ (rule : Rule). conditions_hold rule.2 c.args.facts.now c.args.moment ≡ true) c.loop-id-item.is holds in
    let some : 0 < length (holding c.args.trees.now c.args.facts.now c.args.moment) = some-holds c.args.facts.now c.args.moment c.args.trees.now c.loop-id.id-index c.loop-id-item.result (omega (arith, c.loop-id-test.true)) there in
    search (rules, some)
