use Rattle.std.proofs.Common.{◌≡◌, ◌≤◌, ◌∙◌, FitsSigned, w64, to_z-of_z, refl, sym, subst}
use Rattle.std.specs.Prelude.{Err}
use Rattle.shop_core.specs.declared.answers.Reply.TheVariants as replies
use Rattle.shop_routes.specs.Routing.{meant}
use Rattle.shop_server.specs.Answering.{IsForm, ServesBy, asks, by_route, form_of, reply_text, turned_away, worked_out}
use Rattle.shop_server.specs.Session.{asked_of}
use Rattle.shop_server.proofs.Forms.{form_is}
use Rattle.shop_server.proofs.Lines.{on_ok}
use Rattle.shop_core.specs.Publishing.{OnlyPublishes}
use Rattle.shop_core.specs.Shops.{ShopView}
use Rattle.shop_server.proofs.Writes.{err_to, front_within, line_said, none_published, request_served, request_short}
use Rattle.shop_server.proofs.desk.DeskAnswerer.answer.Goals as goal

pub returns-in-Ok-clause-ok : goal.returns-in-Ok-clause-ok
returns-in-Ok-clause-ok g c =
    let fits : FitsSigned w64 c.args.moment = c.ranges.moment in
    let served = simp to_z-of_z at c.answer_request.ensures.ok in
    let ask = asked_of c.args._head.now c.args.body.now c.args.last in
    let form = asks c.in-Ok.request in
    let is : form_of ask.request ≡ form = sym (form_is ask.request (meant c.args.looked.now) c.requires.looked) ∙ c.in-Ok.ensures.form in
    on_ok c.answer_request.result (λ w. (
      w.1,
      request_served w.0 c.args.self.now c.answer_request.new.shop ask form c.args.moment w.1 is
          (subst (λ (shop : ShopView). shop.copy.front ≤ shop.number) c.self.view_is (front_within c.self.inside.shop c.front-front.ensures.shop))
          (subst (λ shop. ServesBy w.0 shop form c.args.moment c.args.last w.1 c.answer_request.new.shop) c.self.view_is w.2),
      w.3,
    )) served

pub returns-in-Ok-clause-err : goal.returns-in-Ok-clause-err
returns-in-Ok-clause-err g c =
    let ask = asked_of c.args._head.now c.args.body.now c.args.last in
    let within = subst (λ (shop : ShopView). shop.copy.front ≤ shop.number) c.self.view_is (front_within c.self.inside.shop c.front-front.ensures.shop) in
    err_to c.answer_request.result (λ w. (request_short c.args.self.now c.answer_request.new.shop ask c.args.moment within (subst (λ (shop : ShopView). OnlyPublishes shop c.answer_request.new.shop) c.self.view_is w.0), w.1)) c.answer_request.ensures.err

pub returns-in-Err-Line-clause-ok : goal.returns-in-Err-Line-clause-ok
returns-in-Err-Line-clause-ok g c =
    let shop = c.args.self.now in
    let line = c.in-Err-Line in
    let ask = asked_of c.args._head.now c.args.body.now c.args.last in
    let form = subst (λ turned. IsForm (by_route c.args.body.now (meant c.args.looked.now)) (Err turned)) c.in-Err-Line.field-0-is c.in-Err-Line.ensures.form in
    let is : form_of ask.request ≡ turned_away line.fault line.allow = sym (form_is ask.request (meant c.args.looked.now) c.requires.looked) ∙ form.0 in
    on_ok c.respond.result (λ said. (
      reply_text (replies.Line line.fault) line.allow c.args.last,
      request_served worked_out shop shop ask (turned_away line.fault line.allow) c.args.moment (reply_text (replies.Line line.fault) line.allow c.args.last) is
          (subst (λ (v : ShopView). v.copy.front ≤ v.number) c.self.view_is (front_within c.self.inside.shop c.front-front.ensures.shop))
          (line_said shop line.fault line.allow c.args.moment c.args.last (reply_text (replies.Line line.fault) line.allow c.args.last) refl),
      said,
    )) c.respond.ensures.ok

pub returns-in-Err-Line-clause-err : goal.returns-in-Err-Line-clause-err
returns-in-Err-Line-clause-err g c =
    let ask = asked_of c.args._head.now c.args.body.now c.args.last in
    let within = subst (λ (shop : ShopView). shop.copy.front ≤ shop.number) c.self.view_is (front_within c.self.inside.shop c.front-front.ensures.shop) in
    err_to c.respond.result (λ e. (request_short c.args.self.now c.args.self.now ask c.args.moment within (none_published c.args.self.now c.args.self.now refl), e)) c.respond.ensures.err

pub returns-in-Err-NoMemory-clause-err : goal.returns-in-Err-NoMemory-clause-err
returns-in-Err-NoMemory-clause-err g c =
    let within = subst (λ (shop : ShopView). shop.copy.front ≤ shop.number) c.self.view_is (front_within c.self.inside.shop c.front-front.ensures.shop) in
    (request_short c.args.self.now c.args.self.now (asked_of c.args._head.now c.args.body.now c.args.last) c.args.moment within (none_published c.args.self.now c.args.self.now refl), refl)
