use Rattle.std.proofs.Common.{◌≡◌, ◌<◌, ◌∙◌, [], ◌∷◌, length, arith, List, ℕ, ap, sym, subst, rules}
use Rattle.std.proofs.lemmas.Grind.{common_steps}
use Rattle.shop_rules.specs.declared.ranked.Ranked.{Ranked}
use Rattle.shop_rules.specs.Ranking.{Rule, holding, in_rank, matched, AreRanked}
use Rattle.shop_rules.proofs.Ranks.{are_ranked}
use Rattle.shop_rules.proofs.matching.matched.Goals as goal

pub returns-clause-ranked : goal.returns-clause-ranked
returns-clause-ranked c =
    let value : c.from_vec.result ≡ matched c.args.trees.now c.args.facts.now c.args.moment = search rules in
    subst (λ (ids : List ℕ). AreRanked c.args.trees.now c.args.facts.now c.args.moment ids) (sym value) (are_ranked c.args.trees.now c.args.facts.now c.args.moment)

pub returns-clause-rows : goal.returns-clause-rows
returns-clause-rows c =
    let value : c.from_vec.result ≡ matched c.args.trees.now c.args.facts.now c.args.moment = search rules in
    λ rows are. value ∙ ap (λ (all : List Rule). matched all c.args.facts.now c.args.moment) are

some-ranked : (ranked : List Ranked) → 0 < length (in_rank ranked) → 0 < length ranked
some-ranked [] some = some
some-ranked (rule ∷ ranked) some = omega arith

pub returns-in_err-ids-clause-wanted : goal.returns-in_err-ids-clause-wanted
returns-in_err-ids-clause-wanted c =
    let ranked : 0 < length (in_rank (holding c.args.trees.now c.args.facts.now c.args.moment)) = grind (arith, common_steps) in
    let some : 0 < length (holding c.args.trees.now c.args.facts.now c.args.moment) = some-ranked _ ranked in
    search (rules, some)
