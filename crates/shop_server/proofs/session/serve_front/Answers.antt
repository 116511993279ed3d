use Rattle.std.proofs.Common.{◌<◌, [], length, refl, sym, ap, ◌∙◌, subst}
use Rattle.shop_http.specs.Requests.{IsNextLook}
use Rattle.shop_server.specs.declared.session.Ended.TheVariants.{Closed, Truncated}
use Rattle.shop_server.proofs.Progress.{answered, closed_at_end, truncated, asked_to_close, head_refused, reply_cut, over_stepped}
use Rattle.shop_server.proofs.session.serve_front.Goals as goal

pub consume-requires : goal.consume-requires
consume-requires g c =
    (g.met.C.Framing.is_cut.takes c.args.input.now _ c.in-Whole.used (ap g.C.Framing.cut (sym c.rest.ensures) ∙ c.in-Whole.ensures.next)).1

pub returns-in-Err-clause-stepped : goal.returns-in-Err-clause-stepped
returns-in-Err-clause-stepped g c = λ most first p.
    let a = c.in-Err.ensures.answered in
    reply_cut _ _ _ _ g.met.C.Framing.is_cut most first c.args.more _
    (record { answerer = record { answerer = c.reply.new.answerer; coming = g.T.Clock.coming c.reply.new.clock }; left = g.L.Source.left c.reply.new.link; written = g.L.Sink.written c.reply.new.link; input = []; due = [] })
    a.0 a.1 _ c.in-Whole.used c.is_last-last.result p (ap g.C.Framing.cut (sym c.rest.ensures) ∙ c.in-Whole.ensures.next) c.is_last-last.ensures a.2 a.3 a.6 a.4 c.reply.ensures.left

pub returns-in-Ok-clause-stepped : goal.returns-in-Ok-clause-stepped
returns-in-Ok-clause-stepped g c =
    let a = c.in-Ok.ensures.answered in
    over_stepped _ g.C.Framing.fatal g.C.Framing.cut c.args.more _ _ c.args.input_ended c.over.result Closed [] c.over.ensures (λ most first p.
    asked_to_close _ _ _ _ g.met.C.Framing.is_cut most first c.args.more _ _
    a.0 a.1 _ c.in-Whole.used c.is_last-last.result p (ap g.C.Framing.cut (sym c.rest.ensures) ∙ c.in-Whole.ensures.next) c.if-head.true c.is_last-last.ensures a.2
    a.4 a.5 c.reply.ensures.left)

pub returns-in-Ok-2-clause-stepped : goal.returns-in-Ok-2-clause-stepped
returns-in-Ok-2-clause-stepped g c = λ most first p.
    let a = c.in-Ok-2.ensures.answered in
    answered _ g.C.Framing.fatal _ _ g.met.C.Framing.is_cut most first c.args.more _ _
    a.0 a.1 _ c.in-Whole.used c.is_last-last.result p (ap g.C.Framing.cut (sym c.rest.ensures) ∙ c.in-Whole.ensures.next) c.if-head.false c.is_last-last.ensures a.2
    a.4 a.5 c.reply.ensures.left c.consume.ensures

pub returns-in-More-clause-stepped : goal.returns-in-More-clause-stepped
returns-in-More-clause-stepped g c =
    let n = c.in-More.ensures.next in
    (ap g.C.Framing.cut (sym c.rest.ensures) ∙ n.0, n.1, refl, subst (λ bs. IsNextLook g.C.Framing.cut bs c.in-More.least) c.rest.ensures n.2)

pub returns-in-Nothing-clause-stepped : goal.returns-in-Nothing-clause-stepped
returns-in-Nothing-clause-stepped g c =
    let n = c.in-Nothing.ensures.next in
    over_stepped _ g.C.Framing.fatal g.C.Framing.cut c.args.more _ _ c.args.input_ended c.over-in-Nothing.result Closed [] c.over-in-Nothing.ensures (λ most first p.
    closed_at_end _ _ _ _ g.met.C.Framing.is_cut most first c.args.more _ p
    (ap g.C.Framing.cut (sym c.rest.ensures) ∙ n.0) (c.requires.at_end n.1) (sym c.rest.ensures ∙ n.2))

pub returns-in-Cut-clause-stepped : goal.returns-in-Cut-clause-stepped
returns-in-Cut-clause-stepped g c =
    let n = c.in-Cut.ensures.next in
    over_stepped _ g.C.Framing.fatal g.C.Framing.cut c.args.more _ _ c.args.input_ended c.over-in-Cut.result Truncated [] c.over-in-Cut.ensures (λ most first p.
    truncated _ _ _ _ g.met.C.Framing.is_cut most first c.args.more _ p
    (ap g.C.Framing.cut (sym c.rest.ensures) ∙ n.0) (c.requires.at_end n.1) (subst (λ bs. 0 < length bs) c.rest.ensures n.2))

pub returns-in-Fatal-clause-stepped : goal.returns-in-Fatal-clause-stepped
returns-in-Fatal-clause-stepped g c = λ most first p.
    head_refused _ _ _ _ g.met.C.Framing.is_cut most first c.args.more _ c.in-Fatal.fault _ p (ap g.C.Framing.cut (sym c.rest.ensures) ∙ c.in-Fatal.ensures.next) c.refusal.ensures
