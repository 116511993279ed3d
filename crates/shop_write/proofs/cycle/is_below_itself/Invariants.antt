use Rattle.std.specs.Option.{option_copied}
use Rattle.shop_operations.specs.Upserts.{with_row}
use Rattle.shop_write.proofs.Below.{Climbs}
use Rattle.shop_write.proofs.Ranks.{MeetsSoon}
use Rattle.shop_write.proofs.cycle.is_below_itself.Given as goal

abbrev pub invariant-loop-at : goal.invariant-loop-at
invariant-loop-at g l = record {
  climbs : Climbs (with_row (g.V.View.seen l.view).rows l.row) l.row (option_copied l.at);
  soon : MeetsSoon (with_row (g.V.View.seen l.view).rows l.row) l.row l.left (option_copied l.at);
}

abbrev pub decreases-loop-at : goal.decreases-loop-at
decreases-loop-at g l = l.left
