use Rattle.std.proofs.Common.{◌≡◌, ◌++◌, map, length}
use Rattle.cart_price.specs.Lent.{lent_rows}
use Rattle.cart_collect.specs.Ranks.{line_rank}
use Rattle.cart_collect.proofs.ordering.line_ranks.Given as goal

abbrev pub invariant-loop-rest : goal.invariant-loop-rest
invariant-loop-rest l = l.ranks.items ++ map line_rank (lent_rows l.rest) ≡ map line_rank (lent_rows l.lines)

abbrev pub decreases-loop-rest : goal.decreases-loop-rest
decreases-loop-rest l = length l.rest
