use Rattle.std.proofs.Common.{refl, sym, ap, subst, ◌∙◌}
use Rattle.std.specs.Option.{option_copied}
use Rattle.shop_operations.specs.Upserts.{with_row}
use Rattle.shop_write.proofs.Below.{Climbs, climb_first, climb_more}
use Rattle.shop_write.proofs.Ranks.{MeetsSoon, soon_first, soon_next}
use Rattle.shop_write.proofs.cycle.is_below_itself.Goals as goal

pub loop-at-init : goal.loop-at-init
loop-at-init g c = record {
  climbs = climb_first (g.V.View.seen c.args.view.now) c.args.row.now c.requires _ c.parent_of-at.ensures;
  soon = soon_first (g.V.View.seen c.args.view.now) c.args.row.now c.requires _ _ _ c.count.ensures refl c.parent_of-at.ensures;
}

pub loop-at-preserved : goal.loop-at-preserved
loop-at-preserved g c = record {
  climbs =
      climb_more (g.V.View.seen c.args.view.now) c.args.row.now c.requires c.in-Some.above.now _
      (subst (Climbs (with_row (g.V.View.seen c.args.view.now).rows c.args.row.now) c.args.row.now) (ap option_copied c.in-Some.is) c.loop-at.invariant.climbs)
      (sym c.stands_at.ensures ∙ c.if-stands_at.false) c.parent_of-at-in-Some.ensures;
  soon =
      soon_next (g.V.View.seen c.args.view.now) c.args.row.now c.requires c.loop-at.left c.in-Some.above.now _
      (subst (MeetsSoon (with_row (g.V.View.seen c.args.view.now).rows c.args.row.now) c.args.row.now c.loop-at.left) (ap option_copied c.in-Some.is) c.loop-at.invariant.soon)
      (sym c.stands_at.ensures ∙ c.if-stands_at.false) c.if-left-eq0.false c.parent_of-at-in-Some.ensures;
}
