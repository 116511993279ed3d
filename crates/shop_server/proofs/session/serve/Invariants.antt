use Rattle.std.proofs.Common.{◌≡◌, ◌-◌}
use Rattle.shop_server.specs.Session.{AtMoment}
use Rattle.shop_server.specs.Serving.{Progress}
use Rattle.shop_server.proofs.session.serve.Given as goal

abbrev pub invariant-loop-turn : goal.invariant-loop-turn
invariant-loop-turn g l = record {
  progress : Progress (AtMoment g.A.Answerer.gives) g.C.Framing.cut 1000000 (1000000 - l.turn)
      (record { answerer = record { answerer = l.fn.answerer; coming = g.T.Clock.coming l.fn.clock }; left = g.L.Source.left l.fn.link; written = g.L.Sink.written l.fn.link; input = l.initial.input; due = l.initial.due.items })
      (record { answerer = record { answerer = l.answerer; coming = g.T.Clock.coming l.clock }; left = g.L.Source.left l.link; written = g.L.Sink.written l.link; input = l.input; due = l.due.items });
  reads : g.L.Source.read_faults l.link ≡ g.L.Source.read_faults l.fn.link;
  writes : g.L.Sink.write_faults l.link ≡ g.L.Sink.write_faults l.fn.link;
  names : g.L.Link.names l.link ≡ g.L.Link.names l.fn.link;
}
