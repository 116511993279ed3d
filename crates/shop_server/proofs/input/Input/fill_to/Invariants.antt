use Rattle.std.proofs.Common.{◌≡◌, ◌++◌, ◌-◌, ℕ, List, length}
use Rattle.std.specs.Io.KnownBytes.{Consumes}
use Rattle.shop_server.proofs.input.Input.fill_to.Given as goal

abbrev pub invariant-loop-self : goal.invariant-loop-self
invariant-loop-self g l = record {
  read : (piece : List ℕ) × Consumes (g.L.Source.left l.fn.link) (g.L.Source.left l.link) piece × (l.self ≡ l.fn.self ++ piece);
  reads : g.L.Source.read_faults l.link ≡ g.L.Source.read_faults l.fn.link;
  written : g.L.Sink.written l.link ≡ g.L.Sink.written l.fn.link;
  writes : g.L.Sink.write_faults l.link ≡ g.L.Sink.write_faults l.fn.link;
  names : g.L.Link.names l.link ≡ g.L.Link.names l.fn.link;
}

abbrev pub decreases-loop-self : goal.decreases-loop-self
decreases-loop-self g l = l.least - length l.self
