use Rattle.std.proofs.Common.{◌≡◌, ◌++◌, map, length}
use Rattle.shop_order.specs.OrderRows.{tax_change}
use Rattle.shop_order.proofs.order_rows.push_taxes.Given as goal

abbrev pub invariant-loop-rest : goal.invariant-loop-rest
invariant-loop-rest l = l.changes ++ map (tax_change l.order) l.rest ≡ l.initial.changes ++ map (tax_change l.order) l.sums

abbrev pub decreases-loop-rest : goal.decreases-loop-rest
decreases-loop-rest l = length l.rest
