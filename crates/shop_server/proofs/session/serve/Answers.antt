use Rattle.std.proofs.Common.{◌≡◌, ◌+◌, ◌-◌, ◌<◌, ℕ, zero, suc, [], refl, ◌∙◌, arith}
use Rattle.shop_server.specs.declared.session.Ended.TheVariants.{Spent}
use Rattle.shop_server.proofs.Progress.{begun, all_spent, finished, with_count}
use Rattle.shop_server.proofs.session.serve.Goals as goal

one_more : (turn : ℕ) → turn < 1000000 → 1000000 - turn ≡ suc (999999 - turn)
one_more turn h = omega arith

one_less : (turn : ℕ) → 999999 - turn ≡ 1000000 - (turn + 1)
one_less turn = omega arith

pub loop-turn-init : goal.loop-turn-init
loop-turn-init g c = record {
  progress = begun _ g.C.Framing.fatal _ _ g.met.C.Framing.is_cut 1000000 _ c.new-input.ensures c.new-due.ensures.items;
  reads = refl;
  writes = refl;
  names = refl;
}

pub returns-in-Some-clause-session : goal.returns-in-Some-clause-session
returns-in-Some-clause-session g c =
    c.in-Some.ensures.led 1000000 _ (with_count _ _ 1000000 _ _ _ _ (one_more c.loop-turn.turn c.loop-turn-test.true) c.loop-turn.invariant.progress)

pub loop-turn-preserved : goal.loop-turn-preserved
loop-turn-preserved g c = record {
  progress = with_count _ _ 1000000 _ _ _ _ (one_less c.loop-turn.turn)
      (c.in_default.ensures.led 1000000 _ (with_count _ _ 1000000 _ _ _ _ (one_more c.loop-turn.turn c.loop-turn-test.true) c.loop-turn.invariant.progress));
  reads = c.in_default.ensures.reads_kept (λ h. cc) ∙ c.loop-turn.invariant.reads;
  writes = c.in_default.ensures.writes_kept (λ h. cc) ∙ c.loop-turn.invariant.writes;
  names = c.serve_next.ensures.names ∙ c.loop-turn.invariant.names;
}

pub returns-clause-session : goal.returns-clause-session
returns-clause-session g c =
    let w = c.finish.ensures.wrote in
    finished _ _ _ _ g.met.C.Framing.is_cut _ _ _
    (record { answerer = record { answerer = c.loop-turn.answerer; coming = g.T.Clock.coming c.loop-turn.clock }; left = g.L.Source.left c.finish.new.link; written = g.L.Sink.written c.finish.new.link; input = []; due = [] })
    Spent c.finish.result [] w.0
    (all_spent _ _ _ _ g.met.C.Framing.is_cut _ _ _ (with_count _ _ 1000000 _ zero _ _ (omega arith) c.loop-turn.invariant.progress))
    w.1 w.2 w.3 c.finish.ensures.left refl
