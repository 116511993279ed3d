use Rattle.std.proofs.Common.{ap, subst, sym, ◌∙◌, ◌+◌, drop}
use Rattle.std.proofs.lemmas.List.{drop_all}
use Rattle.shop_defs.specs.Rows.{change_rows}
use Rattle.shop_soundness.specs.Batches.{batch, live_batch}
use Rattle.shop_soundness.proofs.Outcomes.{batches_leave}
use Rattle.shop_operations.specs.References.{live}
use Rattle.shop_operations.specs.Soundness.{IsCoherent}
use Rattle.shop_operations.specs.Views.{View, live_view}
use Rattle.shop_write.specs.BatchPlans.{HaveIds}
use Rattle.shop_write.specs.Growth.{Growth, grown_view}
use Rattle.shop_write.proofs.BatchSteps.{view_first, id_at, step_at, coherent_next, plan_is}
use Rattle.shop_write.proofs.batch.plan.Goals as goal

pub loop-place-init : goal.loop-place-init
loop-place-init c = record {
  so_far = ap (λ (view : View). batch view 1 c.as_slice-all.result.now) (ap grown_view c.new-growing.ensures ∙ view_first c.args.rows.now.list);
  base = ap (λ (growth : Growth). growth.base) c.new-growing.ensures;
  coherent = subst IsCoherent (sym (ap grown_view c.new-growing.ensures ∙ view_first c.args.rows.now.list)) c.requires.coherent;
}

pub loop-place-preserved : goal.loop-place-preserved
loop-place-preserved c =
    let op = c.index-all-place.result in
    let all = c.as_slice-all.result.now in
    let place = c.loop-place.place in
    let done = c.in_ok-step.ensures in
    let id = id_at all place op (subst HaveIds (sym c.as_slice-all.ensures) c.requires.ids) c.loop-place-test.true c.index-all-place.is in
    record {
      so_far = sym (step_at c.loop-place.growing c.step.new.growing all place op c.loop-place-test.true c.index-all-place.is done.base done.ok) ∙ c.loop-place.invariant.so_far;
      base = done.base ∙ c.loop-place.invariant.base;
      coherent = coherent_next c.loop-place.growing c.step.new.growing op done.base id done.ok c.loop-place.invariant.coherent;
    }

pub returns : goal.returns
returns c =
    let all = c.as_slice-all.result.now in
    let place = c.loop-place.place in
    let changes = c.in_ok-delta.ensures in
    let plan = plan_is c.loop-place.growing c.args.rows.now.list c.args.ops.now (drop place all) (place + 1) c.in_ok-delta.delta.changes
    c.loop-place.invariant.base (drop_all place all c.loop-place-test.false)
    (c.loop-place.invariant.so_far ∙ ap (live_batch c.args.rows.now.list) c.as_slice-all.ensures)
    changes.changes changes.drafts changes.ascend changes.stand changes.live in
    record { plan = plan; leaves = batches_leave (live_view c.args.rows.now.list) 1 c.args.ops.now (live (change_rows c.args.rows.now.list c.in_ok-delta.delta.changes)) plan.batch }
