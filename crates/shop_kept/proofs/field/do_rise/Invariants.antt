use Rattle.std.proofs.Common.{◌≡◌, length}
use Rattle.shop_kept.specs.Spelling.{rises}
use Rattle.shop_kept.proofs.field.do_rise.Given as goal

abbrev pub invariant-loop-rest : goal.invariant-loop-rest
invariant-loop-rest g l = rises l.above l.rest ≡ rises l.initial.above l.initial.rest

abbrev pub decreases-loop-rest : goal.decreases-loop-rest
decreases-loop-rest g l = length l.rest
