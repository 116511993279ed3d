use Rattle.std.proofs.Common.{sym, ◌∙◌}
use Rattle.shop_version.proofs.DraftBatches.{step_at, read_at, done_more, read_done}
use Rattle.shop_version.proofs.batches.do_all.Goals as goal

pub loop-place-preserved : goal.loop-place-preserved
loop-place-preserved c =
    let op = c.index-ops-place.result in
    let ops = c.args.ops.now in
    let place = c.loop-place.place in
    let layer = c.loop-place.overlay in
    let next = c.do_numbered.new.overlay in
    let is = c.in_ok-step.ensures in
    record {
      so_far = sym (step_at layer next ops place op c.loop-place-test.true c.index-ops-place.is is.done.layer (read_done layer op _ is.read ∙ is.done.rows)) ∙ c.loop-place.invariant.so_far;
      formed = is.formed;
      read = rw c.in_ok-keep.ensures.ops (read_at c.loop-place.done.ops ops place op c.in_ok-step.step.op c.loop-place-test.true c.index-ops-place.is is.read ∙ c.loop-place.invariant.read);
      done = rw c.in_ok-keep.ensures.deltas (done_more _ layer next c.in_ok-step.step.op c.loop-place.done.deltas.items c.in_ok-step.step.delta c.loop-place.invariant.done is.done);
    }
