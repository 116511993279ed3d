use Rattle.std.proofs.Common.{◌≡◌, ◌++◌, true, length}
use Rattle.std.specs.List.{filter_map}
use Rattle.shop_order.specs.Looking.{lines_behind}
use Rattle.shop_order.specs.Wants.{is_line_key, want_of, wants_of}
use Rattle.shop_order.proofs.finding.wants_of.Given as goal

abbrev pub invariant-loop-row : goal.invariant-loop-row
invariant-loop-row l = record {
  found : l.wants.items ++ filter_map want_of (lines_behind l.rows.list l.fn.order l.at) ≡ wants_of l.rows.list l.fn.order;
  from : is_line_key l.fn.order l.at ≡ true;
}

abbrev pub decreases-loop-row : goal.decreases-loop-row
decreases-loop-row l = length (lines_behind l.rows.list l.fn.order l.at)
