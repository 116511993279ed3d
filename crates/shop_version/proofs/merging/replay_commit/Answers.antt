use Rattle.std.proofs.Common.{◌≡◌, List, true, subst, sym, refl, ◌∙◌}
use Rattle.std.specs.List.{list_all}
use Rattle.shop_defs.specs.declared.op.Op.{Op}
use Rattle.shop_drafts.specs.Soundness.{is_change}
use Rattle.shop_version.proofs.Changes.{op_at, coherent_next}
use Rattle.shop_version.proofs.Rounds.{op_step}
use Rattle.shop_version.proofs.merging.replay_commit.Goals as goal

pub loop-place-init : goal.loop-place-init
loop-place-init c = record { so_far = refl; base = refl; coherent = c.requires.coherent }

pub replay_op-requires-clause-change : goal.replay_op-requires-clause-change
replay_op-requires-clause-change c =
    op_at c.as_slice-ops.result.now c.loop-place.place c.index-ops-place.result (subst (λ (ops : List Op). list_all is_change ops ≡ true) (sym c.as_slice-ops.ensures) c.requires.replayable.changes) c.loop-place-test.true c.index-ops-place.is

pub loop-place-preserved : goal.loop-place-preserved
loop-place-preserved c =
    let op = c.index-ops-place.result in
    let ops = c.as_slice-ops.result.now in
    let place = c.loop-place.place in
    let done = c.in_ok-replay_op.ensures in
    let change = op_at ops place op (subst (λ (ops : List Op). list_all is_change ops ≡ true) (sym c.as_slice-ops.ensures) c.requires.replayable.changes) c.loop-place-test.true c.index-ops-place.is in
    record {
      so_far = op_step c.loop-place.growing c.replay_op.new.growing c.args.number ops place op c.loop-place-test.true c.index-ops-place.is done.base done.ok ∙ c.loop-place.invariant.so_far;
      base = done.base ∙ c.loop-place.invariant.base;
      coherent = coherent_next c.loop-place.growing c.replay_op.new.growing op change done.base done.ok c.loop-place.invariant.coherent;
    }
