use Rattle.std.proofs.Common.{◌≡◌, ◌++◌, length}
use Rattle.shop_check.specs.Damage.{seen, seen_from}
use Rattle.shop_check.proofs.check.seen_rows.Given as goal

abbrev pub invariant-loop-rest : goal.invariant-loop-rest
invariant-loop-rest l = l.rows.items ++ seen_from l.before l.rest ≡ seen l.kept

abbrev pub decreases-loop-rest : goal.decreases-loop-rest
decreases-loop-rest l = length l.rest
