use Rattle.std.specs.Io.KnownBytes.{Keeps}
use Rattle.shop_outside.proofs.adapters.read_again.Given as goal

abbrev pub invariant-calls : goal.invariant-calls
invariant-calls g l = Keeps (g.R.Read.remaining l.initial.inner) (g.R.Read.remaining l.inner)
