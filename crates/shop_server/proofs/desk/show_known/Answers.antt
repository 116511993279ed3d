use Rattle.std.proofs.Common.{◌≡◌, ◌++◌, ℕ, List, None, Ok, Err, ap, sym, ◌∙◌}
use Rattle.shop_defs.specs.declared.broken.Broken.{Broken}
use Rattle.idx_copy.specs.Answers.{said}
use Rattle.shop_core.specs.Indexed.{direct_reply, said_reply}
use Rattle.shop_json.specs.Replying.{reply_body}
use Rattle.shop_server.specs.Answering.{reply_text}
use Rattle.shop_server.proofs.Writes.{done_to, told_text, refused_text}
use Rattle.shop_server.proofs.desk.show_known.Goals as goal

pub returns-in_ok-answer_text-in-Ok-clause-ok : goal.returns-in_ok-answer_text-in-Ok-clause-ok
returns-in_ok-answer_text-in-Ok-clause-ok g c =
    let shop = c.args.shop.now in
    let told = said c.in-Ok.answer in
    let body = c.as_slice.ensures.value ∙ (c.in_ok-answer_text-in-Ok.ensures ∙ ap (λ (front : ℕ). reply_body (said_reply front (Ok told))) c.front.ensures.front) in
    let text = told_text shop.copy.rows shop.copy.front c.args.query.now told c.as_slice.result.now c.args.last c.in-Ok.ensures.answers body in
    done_to c.put_response.result (λ e. e ∙ ap (λ (t : List ℕ). c.args.out.now.items ++ t) text) c.put_response.ensures.ok

pub returns-in-Err-Refused-clause-ok : goal.returns-in-Err-Refused-clause-ok
returns-in-Err-Refused-clause-ok g c =
    let broken = c.in-Err-Refused.broken in
    let is = rw c.in-Err-Refused.field-0-is at c.in-Err-Refused.ensures.answers in
    let reply = c.refused_at-reply.ensures ∙ (ap (λ (b : Broken). said_reply c.front-in-Err-Refused.result (Err b)) c.in-Err-Refused.broken-is ∙ ap (λ (front : ℕ). said_reply front (Err broken)) c.front-in-Err-Refused.ensures.front) in
    let said = refused_text c.args.shop.now.copy.rows c.args.shop.now.copy.front c.args.query.now broken c.refused_at-reply.result c.args.last is reply in
    done_to c.respond.result (λ e. e ∙ ap (λ (text : List ℕ). c.args.out.now.items ++ text) said) c.respond.ensures.ok
