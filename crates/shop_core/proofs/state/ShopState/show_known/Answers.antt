use Rattle.std.proofs.Common.{Err, ap, ◌∙◌}
use Rattle.shop_defs.specs.declared.broken.Broken.{Broken}
use Rattle.idx_copy.specs.Answers.{said}
use Rattle.shop_core.specs.Indexed.{said_reply}
use Rattle.shop_core.proofs.Meanings.{told_over, refused_over}
use Rattle.shop_core.proofs.state.ShopState.show_known.Goals as goal

pub returns-in-Ok : goal.returns-in-Ok
returns-in-Ok g c =
    let shop = c.args.self.now in
    record { tells = told_over shop.copy.rows c.front.result shop.copy.front c.args.query.now (said c.in-Ok.answer) c.told.result c.in-Ok.ensures.answers c.front.ensures.front c.told.ensures }

pub returns-in-Err-Refused : goal.returns-in-Err-Refused
returns-in-Err-Refused g c =
    let shop = c.args.self.now in
    let broken = c.in-Err-Refused.broken in
    let is = rw c.in-Err-Refused.field-0-is at c.in-Err-Refused.ensures.answers in
    let reply = c.refused_at.ensures ∙ ap (λ (b : Broken). said_reply c.front-in-Err-Refused.result (Err b)) c.in-Err-Refused.broken-is in
    record { tells = refused_over shop.copy.rows c.front-in-Err-Refused.result shop.copy.front c.args.query.now broken c.refused_at.result is c.front-in-Err-Refused.ensures.front reply }
