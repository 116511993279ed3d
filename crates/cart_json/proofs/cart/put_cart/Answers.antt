use Rattle.std.proofs.Common.{◌∙◌, [], ◌∷◌, ◌++◌, ap, codes}
use Rattle.std.proofs.lemmas.Result.{on_ok_weaker}
use Rattle.json.specs.Token.{begin_object, begin_array, key}
use Rattle.reply_json.specs.Objects.{number_data}
use Rattle.reply_json.specs.Tokens.{value_tokens, member_tokens, rest_of_array}
use Rattle.cart_json.specs.CartReplies.{line_data, discount_data, delivery_data, tax_data, items_by}
use Rattle.cart_json.proofs.Chain.{then}
use Rattle.cart_json.proofs.cart.put_cart.Goals as goal

pub returns : goal.returns
returns c =
    let delivery = c.in_ok-put_delivery.ensures ∙ ap (λ given. c.name.new.self ++ value_tokens (delivery_data given)) c.as_ref.ensures.value in
    let delivery_discounts = c.in_ok-put_discounts.ensures ∙ ap (λ given. c.begin_list.new.self ++ rest_of_array (items_by discount_data given)) c.as_slice.ensures in
    let discounts = c.in_ok-put_discounts-2.ensures ∙ ap (λ given. c.begin_list-2.new.self ++ rest_of_array (items_by discount_data given)) c.as_slice-2.ensures in
    let lines = c.in_ok-put_lines.ensures ∙ ap (λ given. c.begin_list-3.new.self ++ rest_of_array (items_by line_data given)) c.as_slice-3.ensures in
    let taxes = c.in_ok-put_taxes.ensures ∙ ap (λ given. c.begin_list-4.new.self ++ rest_of_array (items_by tax_data given)) c.as_slice-4.ensures in
    on_ok_weaker c.end_object.result
    (λ put. put
    ∙ then c.number_member-5.new.self (member_tokens (codes "weight") (number_data c.args.cart.now.weight)) _ _ c.in_ok-number_member-6.ensures
    ∙ then c.put_taxes.new.out (member_tokens (codes "total") (number_data c.args.cart.now.total)) _ _ c.in_ok-number_member-5.ensures
    ∙ then c.begin_list-4.new.self (rest_of_array (items_by tax_data c.args.cart.now.taxes)) _ _ taxes
    ∙ then c.number_member-4.new.self (key (codes "taxes") ∷ begin_array ∷ []) _ _ c.in_ok-begin_list-4.ensures
    ∙ then c.number_member-3.new.self (member_tokens (codes "tax") (number_data c.args.cart.now.tax)) _ _ c.in_ok-number_member-4.ensures
    ∙ then c.put_lines.new.out (member_tokens (codes "raw") (number_data c.args.cart.now.raw)) _ _ c.in_ok-number_member-3.ensures
    ∙ then c.begin_list-3.new.self (rest_of_array (items_by line_data c.args.cart.now.lines)) _ _ lines
    ∙ then c.number_member-2.new.self (key (codes "lines") ∷ begin_array ∷ []) _ _ c.in_ok-begin_list-3.ensures
    ∙ then c.put_discounts-2.new.out (member_tokens (codes "goods") (number_data c.args.cart.now.goods)) _ _ c.in_ok-number_member-2.ensures
    ∙ then c.begin_list-2.new.self (rest_of_array (items_by discount_data c.args.cart.now.discounts)) _ _ discounts
    ∙ then c.put_discounts.new.out (key (codes "discounts") ∷ begin_array ∷ []) _ _ c.in_ok-begin_list-2.ensures
    ∙ then c.begin_list.new.self (rest_of_array (items_by discount_data c.args.cart.now.delivery_discounts)) _ _ delivery_discounts
    ∙ then c.put_delivery.new.out (key (codes "delivery_discounts") ∷ begin_array ∷ []) _ _ c.in_ok-begin_list.ensures
    ∙ then c.name.new.self (value_tokens (delivery_data c.args.cart.now.delivery)) _ _ delivery
    ∙ then c.number_member.new.self (key (codes "delivery") ∷ []) _ _ c.in_ok-name.ensures
    ∙ then c.begin_object.new.self (member_tokens (codes "count") (number_data c.args.cart.now.count)) _ _ c.in_ok-number_member.ensures
    ∙ then c.args.out.now (begin_object ∷ []) _ _ c.in_ok-begin_object.ensures)
    c.end_object.ensures
