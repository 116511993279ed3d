use Rattle.std.proofs.Common.{◌≡◌}
use Rattle.shop_check.specs.Found.{first_among}
use Rattle.shop_check.proofs.check.first_broken_of_all.Given as goal

abbrev pub invariant-loop-row : goal.invariant-loop-row
invariant-loop-row l = first_among l.rows.list l.rest ≡ first_among l.rows.list l.initial.rest
