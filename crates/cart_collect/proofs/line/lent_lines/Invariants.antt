use Rattle.std.proofs.Common.{◌≡◌, ◌++◌, map, length}
use Rattle.cart_price.specs.Lent.{lent_rows, line_rows}
use Rattle.cart_collect.specs.Collected.{line_of}
use Rattle.cart_collect.proofs.line.lent_lines.Given as goal

abbrev pub invariant-loop-rest : goal.invariant-loop-rest
invariant-loop-rest l = map line_rows l.lent.items ++ map (line_of l.rows.list l.chain) (lent_rows l.rest) ≡ map (line_of l.rows.list l.chain) (lent_rows l.lines)

abbrev pub decreases-loop-rest : goal.decreases-loop-rest
decreases-loop-rest l = length l.rest
