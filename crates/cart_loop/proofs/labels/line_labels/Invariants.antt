use Rattle.std.proofs.Common.{◌≡◌, ◌++◌, map, length}
use Rattle.cart_price.specs.Lent.{line_rows}
use Rattle.cart_loop.specs.Labels.{line_label}
use Rattle.cart_loop.proofs.labels.line_labels.Given as goal

abbrev pub invariant-loop-rest : goal.invariant-loop-rest
invariant-loop-rest l = l.labels ++ map line_label (map line_rows l.rest) ≡ map line_label (map line_rows l.lines)

abbrev pub decreases-loop-rest : goal.decreases-loop-rest
decreases-loop-rest l = length l.rest
