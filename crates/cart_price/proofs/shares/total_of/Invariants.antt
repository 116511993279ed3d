use Rattle.std.proofs.Common.{◌≡◌, ◌*◌, ◌^◌, ◌≤◌, take}
use Rattle.cart_price.specs.LargestRemainder.{total}
use Rattle.cart_price.proofs.shares.total_of.Given as goal

abbrev pub invariant-loop-base : goal.invariant-loop-base
invariant-loop-base l = (l.total ≡ total (take l.base-index l.bases)) × (l.total ≤ 2 ^ 63 * l.base-index)
