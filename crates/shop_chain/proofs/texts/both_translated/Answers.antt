use Rattle.std.proofs.Common.{◌∷◌}
use Rattle.std.specs.Option.{option_to_list}
use Rattle.shop_chain.specs.declared.numbers.TheConstants.{DESCRIPTION, NAME}
use Rattle.shop_chain.specs.Translations.{in_language}
use Rattle.shop_chain.proofs.BothTexts.{next_place}
use Rattle.shop_chain.proofs.texts.both_translated.Goals as goal

pub loop-language-preserved : goal.loop-language-preserved
loop-language-preserved g c =
    let asked = c.args.asked.now in
    let find = in_language (g.L.Look.shown c.args.rows.now) asked.entity asked.version (asked.id ∷ option_to_list asked.parent) in
    let languages = c.args.languages.now in
    record {
      description = next_place (find DESCRIPTION) languages c.loop-language.language-index _ _ _ _ c.loop-language-test.true c.loop-language.invariant.description c.both_in_language.ensures.description c.or-found.ensures.description;
      name = next_place (find NAME) languages c.loop-language.language-index _ _ _ _ c.loop-language-test.true c.loop-language.invariant.name c.both_in_language.ensures.name c.or-found.ensures.name;
    }
