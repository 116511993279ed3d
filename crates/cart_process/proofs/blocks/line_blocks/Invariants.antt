use Rattle.std.proofs.Common.{◌≡◌, ◌++◌, map, length}
use Rattle.cart_price.specs.Lent.{line_rows}
use Rattle.cart_process.specs.Priced.{blocks_by}
use Rattle.cart_process.proofs.blocks.line_blocks.Given as goal

abbrev pub invariant-loop-at : goal.invariant-loop-at
invariant-loop-at l = l.blocks ++ blocks_by (map line_rows l.at) l.costs ≡ blocks_by (map line_rows l.lines) l.prices

abbrev pub decreases-loop-at : goal.decreases-loop-at
decreases-loop-at l = length l.at
