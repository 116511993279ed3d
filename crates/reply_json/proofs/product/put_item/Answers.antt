use Rattle.std.proofs.Common.{◌∙◌, [], ◌∷◌, codes}
use Rattle.std.proofs.lemmas.Result.{on_ok_weaker}
use Rattle.json.specs.Token.{begin_object}
use Rattle.reply_json.specs.Objects.{count_data, id_data}
use Rattle.reply_json.specs.Products.{id_or_null, number_or_null}
use Rattle.reply_json.specs.Tokens.{member_tokens}
use Rattle.reply_json.proofs.Chain.{then}
use Rattle.reply_json.proofs.product.put_item.Goals as goal

pub returns : goal.returns
returns c =
    let item = c.args.item.now in
    on_ok_weaker c.end_object.result
    (λ put. put
    ∙ then c.put_number.new.out (member_tokens (codes "min") (number_or_null item.1.min)) _ _ c.in_ok-put_number-2.ensures
    ∙ then c.id_member.new.self (member_tokens (codes "max") (number_or_null item.1.max)) _ _ c.in_ok-put_number.ensures
    ∙ then c.count_member.new.self (member_tokens (codes "id") (id_data item.0)) _ _ c.in_ok-id_member.ensures
    ∙ then c.put_id.new.out (member_tokens (codes "count") (count_data item.1.count)) _ _ c.in_ok-count_member.ensures
    ∙ then c.begin_object.new.self (member_tokens (codes "cheapest") (id_or_null item.1.cheapest)) _ _ c.in_ok-put_id.ensures
    ∙ then c.args.out.now (begin_object ∷ []) _ _ c.in_ok-begin_object.ensures)
    c.end_object.ensures
