use Rattle.std.proofs.Common.{◌∙◌, [], ◌∷◌, ◌++◌, ap, codes}
use Rattle.std.proofs.lemmas.Result.{on_ok_weaker}
use Rattle.json.specs.Token.{begin_object, begin_array, key}
use Rattle.reply_json.specs.Objects.{count_data}
use Rattle.reply_json.specs.Products.{page_items}
use Rattle.reply_json.specs.Tokens.{member_tokens, rest_of_array}
use Rattle.reply_json.proofs.Chain.{then}
use Rattle.reply_json.proofs.product.put_page.Goals as goal

pub returns : goal.returns
returns c =
    let page = c.args.page.now in
    let items = c.in_ok-put_items.ensures ∙ ap (λ given. c.begin_array.new.self ++ rest_of_array (page_items given)) c.as_slice.ensures in
    on_ok_weaker c.end_object.result
    (λ put. put
    ∙ then c.put_items.new.out (member_tokens (codes "total") (count_data page.total)) _ _ c.in_ok-count_member.ensures
    ∙ then c.begin_array.new.self (rest_of_array (page_items page.items)) _ _ items
    ∙ then c.name.new.self (begin_array ∷ []) _ _ c.in_ok-begin_array.ensures
    ∙ then c.front_member.new.self (key (codes "items") ∷ []) _ _ c.in_ok-name.ensures
    ∙ then c.begin_object.new.self (member_tokens (codes "front") (count_data c.args.front)) _ _ c.in_ok-front_member.ensures
    ∙ then c.args.out.now (begin_object ∷ []) _ _ c.in_ok-begin_object.ensures)
    c.end_object.ensures
