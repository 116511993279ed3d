use Rattle.std.proofs.Common.{ap, sym, ◌∙◌, None}
use Rattle.shop_defs.specs.Rows.{row_at}
use Rattle.shop_write.specs.Growth.{Growth, grown, at_live, left_by}
use Rattle.shop_operations.specs.Upserts.{row_in}
use Rattle.shop_write.proofs.Growths.{row_in-grown, grown_in_order}
use Rattle.shop_write.proofs.growing.GrowingView.get.Goals as goal

pub returns-in-Some-clause-row : goal.returns-in-Some-clause-row
returns-in-Some-clause-row c =
    let inside = c.self.inside in
    let put = c.in-Some.ensures ∙ ap (row_at inside.over.list) c.live_key-live.ensures in
    rw (← c.self.view_is)
    (ap (left_by (row_at inside.base.now.list (at_live c.args.key.now)) (row_at inside.lost.list (at_live c.args.key.now))) put
    ∙ sym (row_in-grown _ c.self.invariant c.args.key.now))

pub returns-in-Some-clause-order : goal.returns-in-Some-clause-order
returns-in-Some-clause-order c = rw (← c.self.view_is) (grown_in_order _ c.self.invariant)

pub returns-in-None-clause-row : goal.returns-in-None-clause-row
returns-in-None-clause-row c =
    let inside = c.self.inside in
    c.get_untouched.ensures
    ∙ (ap (λ (growth : Growth). left_by (row_at growth.base c.live_key-live.result) (row_at growth.lost c.live_key-live.result) None) (sym c.self.view_is)
    ∙ (ap (left_by (row_at inside.base.now.list c.live_key-live.result) (row_at inside.lost.list c.live_key-live.result)) c.in-None.ensures
    ∙ (ap (λ key. left_by (row_at inside.base.now.list key) (row_at inside.lost.list key) (row_at inside.over.list key)) c.live_key-live.ensures
    ∙ (sym (row_in-grown _ c.self.invariant c.args.key.now) ∙ ap (λ (growth : Growth). row_in (grown growth) c.args.key.now) c.self.view_is))))

pub returns-in-None-clause-order : goal.returns-in-None-clause-order
returns-in-None-clause-order c = rw (← c.self.view_is) (grown_in_order _ c.self.invariant)
