use Rattle.std.proofs.Common.{◌++◌, ◌∙◌, ap, sym, None, length, append_assoc, codes}
use Rattle.shop_http.specs.Responses.{head_text, response_text}
use Rattle.shop_json.proofs.Constant.{store_failed_body}
use Rattle.shop_json.proofs.done.put_store_failed.Goals as goal

pub returns : goal.returns
unfolding response_text
returns c =
    c.put.ensures.items ∙ ap (λ l. l ++ codes "{\"error\":\"store_failed\"}") c.put_head.ensures.items
    ∙ append_assoc c.args.out.now.items (head_text 503 24 None c.args.closing) (codes "{\"error\":\"store_failed\"}")
    ∙ ap (λ body. c.args.out.now.items ++ (head_text 503 (length body) None c.args.closing ++ body)) (sym store_failed_body)
