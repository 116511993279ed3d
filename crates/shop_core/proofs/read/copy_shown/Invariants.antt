use Rattle.std.proofs.Common.{◌≡◌, take}
use Rattle.shop_chain.specs.Showing.{lent}
use Rattle.shop_core.proofs.read.copy_shown.Given as goal

abbrev pub invariant-loop-value : goal.invariant-loop-value
invariant-loop-value l = l.copy ≡ lent (take l.value-index l.value-items)
