use Rattle.std.proofs.Common.{◌∙◌, [], ◌∷◌, ◌++◌, ap, codes}
use Rattle.std.proofs.lemmas.Result.{on_ok_weaker}
use Rattle.json.specs.Token.{begin_object, begin_array, key}
use Rattle.serde_json.specs.Data.{string}
use Rattle.reply_json.specs.Objects.{count_data, id_data}
use Rattle.reply_json.specs.Tokens.{value_tokens, member_tokens, rest_of_array}
use Rattle.cart_json.specs.CartReplies.{block_data, cart_data, items_by}
use Rattle.cart_json.proofs.Chain.{then}
use Rattle.cart_json.proofs.settled.put_settled.Goals as goal

pub returns : goal.returns
returns c =
    let rounds = c.in_ok-count_member-2.ensures ∙ ap (λ count. c.put_labels.new.out ++ member_tokens (codes "rounds") (count_data count)) c.from.ensures in
    let blocks = c.in_ok-put_blocks.ensures ∙ ap (λ given. c.begin_list.new.self ++ rest_of_array (items_by block_data given)) c.as_slice.ensures in
    let labels = c.in_ok-put_labels.ensures ∙ ap (λ given. c.begin_list-2.new.self ++ rest_of_array (items_by string given)) c.as_slice-2.ensures in
    let rules = c.in_ok-put_rules.ensures ∙ ap (λ given. c.begin_list-3.new.self ++ rest_of_array (items_by id_data given)) c.as_slice-3.ensures in
    on_ok_weaker c.end_object.result
    (λ put. put
    ∙ then c.begin_list-3.new.self (rest_of_array (items_by id_data c.args.settled.now.rules)) _ _ rules
    ∙ then c.count_member-2.new.self (key (codes "rules") ∷ begin_array ∷ []) _ _ c.in_ok-begin_list-3.ensures
    ∙ then c.put_labels.new.out (member_tokens (codes "rounds") (count_data c.args.settled.now.rounds)) _ _ rounds
    ∙ then c.begin_list-2.new.self (rest_of_array (items_by string c.args.settled.now.labels)) _ _ labels
    ∙ then c.count_member.new.self (key (codes "labels") ∷ begin_array ∷ []) _ _ c.in_ok-begin_list-2.ensures
    ∙ then c.put_cart.new.out (member_tokens (codes "front") (count_data c.args.front)) _ _ c.in_ok-count_member.ensures
    ∙ then c.name.new.self (value_tokens (cart_data c.args.settled.now.cart)) _ _ c.in_ok-put_cart.ensures
    ∙ then c.put_blocks.new.out (key (codes "cart") ∷ []) _ _ c.in_ok-name.ensures
    ∙ then c.begin_list.new.self (rest_of_array (items_by block_data c.args.settled.now.cart.blocks)) _ _ blocks
    ∙ then c.begin_object.new.self (key (codes "blocks") ∷ begin_array ∷ []) _ _ c.in_ok-begin_list.ensures
    ∙ then c.args.out.now (begin_object ∷ []) _ _ c.in_ok-begin_object.ensures)
    c.end_object.ensures
