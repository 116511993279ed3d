use Rattle.std.specs.Io.KnownBytes.{Keeps}
use Rattle.shop_outside.proofs.adapters.write_again.Given as goal

abbrev pub invariant-calls : goal.invariant-calls
invariant-calls g l = Keeps (g.W.Write.contents l.initial.inner) (g.W.Write.contents l.inner)
