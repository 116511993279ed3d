-- What is said of a text in words holds of the definition, which is the result.
use Rattle.shop_chain.specs.Translations.{category_text, IsCategoryText}
use Rattle.shop_chain.proofs.Firsts.{category_words, of_bytes}
use Rattle.shop_chain.proofs.texts.category_text.Goals as goal

pub returns-clause-words : goal.returns-clause-words
returns-clause-words g c =
    let look = g.L.Look.shown c.args.rows.now in
    of_bytes (IsCategoryText look c.args.version c.args.category c.args.field) (category_text look c.args.version c.args.category c.args.field) (category_words look c.args.version c.args.category c.args.field) _ _ _ _ c.as_slice.ensures c.translated.ensures c.bytes.ensures
