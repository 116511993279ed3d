-- What is said of a text in words holds of the definition, which is the result.
use Rattle.shop_chain.specs.Translations.{text_of, IsProductText}
use Rattle.shop_chain.proofs.Firsts.{product_words, of_bytes}
use Rattle.shop_chain.proofs.texts.text_of.Goals as goal

pub returns-clause-words : goal.returns-clause-words
returns-clause-words g c =
    let look = g.L.Look.shown c.args.rows.now in
    of_bytes (IsProductText look c.args.version c.args.product c.args.parent c.args.field) (text_of look c.args.version c.args.product c.args.parent c.args.field) (product_words look c.args.version c.args.product c.args.parent c.args.field) _ _ _ _ c.as_slice.ensures c.translated.ensures c.bytes.ensures
