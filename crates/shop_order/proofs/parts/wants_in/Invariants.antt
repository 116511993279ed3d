use Rattle.std.proofs.Common.{◌≡◌, ◌++◌, map, length}
use Rattle.shop_order.specs.Parts.{line_want}
use Rattle.shop_order.proofs.parts.wants_in.Given as goal

abbrev pub invariant-loop-rest : goal.invariant-loop-rest
invariant-loop-rest l = l.wants.items ++ map line_want l.rest ≡ map line_want l.lines

abbrev pub decreases-loop-rest : goal.decreases-loop-rest
decreases-loop-rest l = length l.rest
