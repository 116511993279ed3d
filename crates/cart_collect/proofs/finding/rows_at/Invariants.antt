use Rattle.std.proofs.Common.{◌≡◌, ◌++◌, length}
use Rattle.cart_price.specs.Lent.{lent_rows}
use Rattle.cart_collect.specs.Looking.{rows_at}
use Rattle.cart_collect.proofs.finding.rows_at.Given as goal

abbrev pub invariant-loop-rest : goal.invariant-loop-rest
invariant-loop-rest l = lent_rows l.found.items ++ rows_at l.rows.list l.rest ≡ rows_at l.rows.list l.keys

abbrev pub decreases-loop-rest : goal.decreases-loop-rest
decreases-loop-rest l = length l.rest
