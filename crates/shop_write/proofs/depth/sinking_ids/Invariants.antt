use Rattle.std.proofs.Common.{◌-◌}
use Rattle.shop_operations.specs.Upserts.{with_row}
use Rattle.shop_write.proofs.IdsDown.{Gathers}
use Rattle.shop_write.proofs.depth.sinking_ids.Given as goal

abbrev pub invariant-levels : goal.invariant-levels
invariant-levels g l = Gathers (with_row (g.V.View.seen l.view).rows l.row) l.row l.room l.steps l.level l.sinking

abbrev pub decreases-levels : goal.decreases-levels
decreases-levels g l = l.end - l.steps
