-- What is said of a chain in words holds of the definition, which is the result.
use Rattle.std.proofs.Common.{◌≡◌, ℕ, Option, ap, sym, ◌∙◌, subst}
use Rattle.shop_chain.specs.declared.languages.TheConstants.{SYSTEM_LANGUAGE}
use Rattle.shop_chain.specs.Chains.{walk, most_ancestors, chain_by, with_language, IsChain}
use Rattle.shop_chain.proofs.Places.{each_once-append, chain_by-words}
use Rattle.shop_chain.proofs.walk.chain.Goals as goal

pub returns-clause-words : goal.returns-clause-words
returns-clause-words c =
    let context = c.args.context in
    let parent : ℕ → Option ℕ = λ _. c.parent_of.result in
    let is : c.with.result ≡ chain_by parent context =
    c.with.ensures.value ∙ (ap (λ ids. with_language ids SYSTEM_LANGUAGE) c.with_ancestors.ensures.value ∙ sym (each_once-append (walk parent most_ancestors context) SYSTEM_LANGUAGE)) in
    subst (λ above. IsChain context above c.with.result) c.parent_of.ensures (subst (λ ids. IsChain context c.parent_of.result ids) (sym is) (chain_by-words parent context))
