use Rattle.std.proofs.Common.{◌≡◌, ◌+◌, ◌-◌, ℕ, suc, true, cond, length}
use Rattle.std.specs.Io.KnownBytes.{IsAtEnd}
use Rattle.shop_server.specs.Session.{AtMoment, Timed}
use Rattle.shop_server.specs.Serving.{Standing, Progress}
use Rattle.shop_server.proofs.session.serve_next.Given as goal

abbrev pub invariant-loop-least : goal.invariant-loop-least
invariant-loop-least g l = record {
  progress : (most : ℕ) (first : Standing (Timed g.row.A.Denot))
      → Progress (AtMoment g.A.Answerer.gives) g.C.Framing.cut most (suc l.more) first
      (record { answerer = record { answerer = l.fn.answerer; coming = g.T.Clock.coming l.fn.clock }; left = g.L.Source.left l.fn.link; written = g.L.Sink.written l.fn.link; input = l.fn.input; due = l.fn.due.items })
      → Progress (AtMoment g.A.Answerer.gives) g.C.Framing.cut most (suc l.more) first
      (record { answerer = record { answerer = l.answerer; coming = g.T.Clock.coming l.clock }; left = g.L.Source.left l.link; written = g.L.Sink.written l.link; input = l.input; due = l.due.items });
  at_end : l.input_ended ≡ true → IsAtEnd (g.L.Source.left l.link);
  reads : g.L.Source.read_faults l.link ≡ g.L.Source.read_faults l.fn.link;
  writes : g.L.Sink.write_faults l.link ≡ g.L.Sink.write_faults l.fn.link;
  names : g.L.Link.names l.link ≡ g.L.Link.names l.fn.link;
}

-- each read makes the input longer or ends it, and an input that isn't settled is short
abbrev pub decreases-loop-least : goal.decreases-loop-least
decreases-loop-least g l = (g.C.Framing.longest - length l.input) + cond l.input_ended 0 1
