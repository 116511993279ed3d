use Rattle.std.proofs.Common.{◌≡◌, List, ◌++◌, ℕ, map, ap, sym, ◌∙◌, Bor, None}
use Rattle.std.proofs.lemmas.Simd.{map-map}
use Rattle.shop_defs.specs.declared.row.Row.{Row}
use Rattle.shop_core.specs.declared.answers.Reply.TheVariants as replies
use Rattle.shop_core.specs.declared.answers.RowReply.{RowReply}
use Rattle.shop_core.specs.Requests.{bare}
use Rattle.shop_http.specs.Responses.{response_text}
use Rattle.shop_json.specs.Replying.{reply_body}
use Rattle.shop_server.proofs.Writes.{done_to}
use Rattle.shop_server.proofs.desk.list.Goals as goal

pub returns-in_ok-seen_list_text-in-Ok-clause-ok : goal.returns-in_ok-seen_list_text-in-Ok-clause-ok
returns-in_ok-seen_list_text-in-Ok-clause-ok g c =
    let printed : c.as_slice-in-Ok.result.now ≡ reply_body (replies.RowList (map bare (map (λ (row : Bor Row). row.now) c.in-Ok.rows.items))) =
    c.as_slice-in-Ok.ensures.value
    ∙ (c.in_ok-seen_list_text-in-Ok.ensures
    ∙ (ap (λ (rows : List (Bor Row)). reply_body (replies.RowList (map (λ row. bare row.now) rows))) c.as_slice.ensures.value
    ∙ ap (λ (rows : List RowReply). reply_body (replies.RowList rows)) (sym (map-map bare (λ (row : Bor Row). row.now) c.in-Ok.rows.items)))) in
    rw c.in-Ok.ensures.sees
    (done_to c.put_response.result (λ e. e ∙ ap (λ (body : List ℕ). c.args.out.now.items ++ response_text 200 body None c.args.last) printed) c.put_response.ensures.ok)
