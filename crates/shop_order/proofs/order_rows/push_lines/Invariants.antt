use Rattle.std.proofs.Common.{◌≡◌, ◌≤◌, ◌+◌, ◌++◌, length}
use Rattle.shop_order.specs.OrderRows.{lines_from}
use Rattle.shop_order.proofs.order_rows.push_lines.Given as goal

abbrev pub invariant-loop-rest : goal.invariant-loop-rest
invariant-loop-rest l = record {
  pushed : l.changes ++ lines_from l.order l.position l.rest l.names ≡ l.initial.changes ++ lines_from l.order 1 l.parts l.labels;
  few : l.position + length l.rest ≤ 202;
}

abbrev pub decreases-loop-rest : goal.decreases-loop-rest
decreases-loop-rest l = length l.rest
