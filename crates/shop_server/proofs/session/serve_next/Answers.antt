use Rattle.std.proofs.Common.{refl, [], ◌∙◌}
use Rattle.shop_server.proofs.Progress.{gone_on, went_off, finished}
use Rattle.shop_server.proofs.session.serve_next.Goals as goal

pub loop-least-preserved : goal.loop-least-preserved
loop-least-preserved g c =
    let stepped = c.in-Wanting.ensures.stepped in
    let went = c.in-Ok.ensures.went in
    record {
      progress = λ most first p. gone_on _ g.C.Framing.fatal _ _ g.met.C.Framing.is_cut most first _ _ _ _ went.2
          (c.loop-least.invariant.progress most first p) stepped.2 went.0 went.1 went.3 went.4 refl;
      at_end = went.5;
      reads = c.in-Ok.ensures.reads_kept (λ h. cc) ∙ c.serve_front.ensures.reads ∙ c.loop-least.invariant.reads;
      writes = c.in-Ok.ensures.writes_kept (λ h. cc) ∙ c.in-Wanting.ensures.kept (λ h. cc) ∙ c.loop-least.invariant.writes;
      names = c.read_on.ensures.names ∙ c.serve_front.ensures.names ∙ c.loop-least.invariant.names;
    }

pub returns-in-Err-clause-led : goal.returns-in-Err-clause-led
returns-in-Err-clause-led g c = λ most first p.
    let stepped = c.in-Wanting.ensures.stepped in
    went_off _ _ _ _ g.met.C.Framing.is_cut most first c.args.more c.in-Wanting.least _ _ _ c.in-Err.ended (c.loop-least.invariant.progress most first p) stepped.2 stepped.3 c.in-Err.ensures.went refl

pub returns-in-Over-clause-led : goal.returns-in-Over-clause-led
returns-in-Over-clause-led g c = λ most first p.
    let w = c.finish.ensures.wrote in
    finished _ _ _ _ g.met.C.Framing.is_cut most first _
    (record { answerer = record { answerer = c.serve_front.new.answerer; coming = g.T.Clock.coming c.serve_front.new.clock }; left = g.L.Source.left c.finish.new.link; written = g.L.Sink.written c.finish.new.link; input = []; due = [] })
    c.in-Over.ended c.finish.result c.in-Over.reply.now w.0
    (c.in-Over.ensures.stepped most first (c.loop-least.invariant.progress most first p)) w.1 w.2 w.3 c.finish.ensures.left refl
