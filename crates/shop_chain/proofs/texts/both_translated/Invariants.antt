use Rattle.std.proofs.Common.{◌≡◌, ◌∷◌, drop}
use Rattle.std.specs.Option.{option_copied, option_or, option_to_list}
use Rattle.shop_chain.specs.declared.numbers.TheConstants.{DESCRIPTION, NAME}
use Rattle.shop_chain.specs.Translations as spec
use Rattle.shop_chain.proofs.texts.both_translated.Given as goal

abbrev pub invariant-loop-language : goal.invariant-loop-language
invariant-loop-language g l =
    let find = spec.in_language (g.L.Look.shown l.rows) l.asked.entity l.asked.version (l.asked.id ∷ option_to_list l.asked.parent) in
    record {
      description : spec.as_value (spec.first_of (find DESCRIPTION) l.languages) ≡ option_or (option_copied l.found.description) (spec.as_value (spec.first_of (find DESCRIPTION) (drop l.language-index l.languages)));
      name : spec.as_value (spec.first_of (find NAME) l.languages) ≡ option_or (option_copied l.found.name) (spec.as_value (spec.first_of (find NAME) (drop l.language-index l.languages)));
    }
