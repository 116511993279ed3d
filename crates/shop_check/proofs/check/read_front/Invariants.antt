use Rattle.std.proofs.Common.{◌≡◌, ◌++◌, length, None}
use Rattle.shop_check.specs.Damage.{HoldBytes}
use Rattle.shop_check.specs.Found.{own_damage, tried_from}
use Rattle.shop_check.proofs.check.read_front.Given as goal

abbrev pub invariant-loop-rest : goal.invariant-loop-rest
invariant-loop-rest l = record {
  rows : l.rows.items ++ tried_from l.before l.rest ≡ tried_from None l.kept;
  bytes : HoldBytes l.rest → HoldBytes l.kept;
  damage : own_damage l.before l.rest ≡ own_damage None l.kept;
}

abbrev pub decreases-loop-rest : goal.decreases-loop-rest
decreases-loop-rest l = length l.rest
