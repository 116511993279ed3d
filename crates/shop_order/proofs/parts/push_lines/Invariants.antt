use Rattle.std.proofs.Common.{◌≡◌, ◌++◌, map, length}
use Rattle.shop_order.specs.Parts.{line_part}
use Rattle.shop_order.proofs.parts.push_lines.Given as goal

abbrev pub invariant-loop-rest : goal.invariant-loop-rest
invariant-loop-rest l = l.parts.items ++ map line_part l.rest ≡ l.initial.parts.items ++ map line_part l.lines

abbrev pub decreases-loop-rest : goal.decreases-loop-rest
decreases-loop-rest l = length l.rest
