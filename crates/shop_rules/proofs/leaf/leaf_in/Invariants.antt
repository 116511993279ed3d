use Rattle.std.proofs.Common.{◌≡◌, length}
use Rattle.shop_rules.specs.Leaves.{leaf_in}
use Rattle.shop_rules.proofs.leaf.leaf_in.Given as goal

abbrev pub invariant-loop-rest : goal.invariant-loop-rest
invariant-loop-rest l = leaf_in l.rest l.text ≡ leaf_in l.table l.text

abbrev pub decreases-loop-rest : goal.decreases-loop-rest
decreases-loop-rest l = length l.rest
