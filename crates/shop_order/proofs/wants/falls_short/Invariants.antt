use Rattle.std.proofs.Common.{◌≡◌, length, find}
use Rattle.std.specs.Option.{option_map}
use Rattle.shop_order.specs.Wants.{is_short, short_of, falls_short}
use Rattle.shop_order.proofs.wants.falls_short.Given as goal

abbrev pub invariant-loop-rest : goal.invariant-loop-rest
invariant-loop-rest l = option_map (short_of l.rows.list l.wants) (find (is_short l.rows.list l.wants) l.rest) ≡ falls_short l.rows.list l.wants

abbrev pub decreases-loop-rest : goal.decreases-loop-rest
decreases-loop-rest l = length l.rest
