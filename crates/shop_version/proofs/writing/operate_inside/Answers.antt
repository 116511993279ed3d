use Rattle.std.proofs.Common.{sym, ap, ◌∙◌, Ok}
use Rattle.shop_version.specs.Overlays.{open_rows}
use Rattle.shop_version.proofs.DraftBatches.{takes, inside_is, own_plan, versions_of, stand_of}
use Rattle.shop_version.proofs.writing.operate_inside.Goals as goal

pub plan_op-requires-clause-takes : goal.plan_op-requires-clause-takes
plan_op-requires-clause-takes c = λ kind. takes c.args.overlay.now c.args.op.now c.draft-draft.ensures.layer.is_draft c.requires.formed

pub take_in-requires : goal.take_in-requires
take_in-requires c = (own_plan c.args.overlay.now c.draft-draft.ensures.layer c.args.op.now c.in_ok-planned.planned.changes c.in_ok-delta.delta.changes c.requires.inside c.in_ok-planned.ensures.plan (rw (← c.draft-draft.ensures.version) c.in_ok-delta.ensures)).own

pub returns-clause-done : goal.returns-clause-done
returns-clause-done c =
    let plan = own_plan c.args.overlay.now c.draft-draft.ensures.layer c.args.op.now c.in_ok-planned.planned.changes c.in_ok-delta.delta.changes c.requires.inside c.in_ok-planned.ensures.plan (rw (← c.draft-draft.ensures.version) c.in_ok-delta.ensures) in
    record {
      rows = inside_is c.args.overlay.now c.args.op.now c.requires.versioned c.requires.inside ∙ (plan.rows ∙ ap Ok (sym c.in_ok-take_in.ensures.rows));
      layer = c.in_ok-take_in.ensures.found;
      own = c.in_ok-take_in.ensures.own;
      are_own = versions_of c.args.overlay.now.version (open_rows c.args.overlay.now) c.in_ok-delta.delta.changes plan.own;
      stand = stand_of c.args.overlay.now.version (open_rows c.args.overlay.now) c.in_ok-delta.delta.changes plan.own;
    }
