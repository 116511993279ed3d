use Rattle.std.proofs.Common.{◌≡◌, ◌≢◌, ℕ, ◌+◌, ◌<◌}
use Rattle.cart_loop.specs.Settling.{state}
use Rattle.cart_loop.proofs.settling.settle_by.Given as goal

abbrev pub invariant-loop-turn : goal.invariant-loop-turn
invariant-loop-turn g l = record {
  here : l.state ≡ state (g.R.Rounds.gives l.rounds) l.turn;
  before : (j : ℕ) → j < l.turn → state (g.R.Rounds.gives l.rounds) (j + 1) ≢ state (g.R.Rounds.gives l.rounds) j;
}
