use Rattle.std.proofs.Common.{◌≡◌, ◌++◌, map, length}
use Rattle.shop_order.specs.Wants.{stock_moved}
use Rattle.shop_order.proofs.wants.push_stocks.Given as goal

abbrev pub invariant-loop-rest : goal.invariant-loop-rest
invariant-loop-rest l = l.changes ++ map (stock_moved l.rows.list l.way l.wants) l.rest ≡ l.initial.changes ++ map (stock_moved l.rows.list l.way l.wants) l.wants

abbrev pub decreases-loop-rest : goal.decreases-loop-rest
decreases-loop-rest l = length l.rest
