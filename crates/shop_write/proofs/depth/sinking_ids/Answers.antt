use Rattle.std.proofs.Common.{◌++◌, ◌∷◌, [], ap, ◌∙◌}
use Rattle.shop_write.proofs.IdsDown.{gathers_start, gathers_step, gathers_end, gathers_none}
use Rattle.shop_write.proofs.depth.sinking_ids.Goals.{then-levels-test+else-not-is_empty, else-levels-test}
use Rattle.shop_write.proofs.depth.sinking_ids.Goals as goal

pub levels-init : goal.levels-init
levels-init g c =
    gathers_start (g.V.View.seen c.args.view.now) c.args.row.now c.requires.write c.requires.free c.args.most c.requires.limited _ _ _
    (c.in_ok-push.ensures.ok ∙ ap (λ ids. ids ++ c.args.row.now.key.id ∷ []) c.new-level.ensures) c.new-sinking.ensures

pub levels-preserved : goal.levels-preserved
levels-preserved g c =
    gathers_step (g.V.View.seen c.args.view.now) c.args.row.now c.requires.write c.requires.free c.args.most c.requires.limited _ _ _ _ _ _
    c.in_ok-level.ensures c.in_ok-add_low.ensures c.levels.invariant

pub returns : goal.returns
returns g c = elim c.levels-test.branch [
  | then-levels-test+else-not-is_empty w ↦
      gathers_end (g.V.View.seen c.args.view.now) c.args.row.now c.requires.write c.requires.free c.args.most c.requires.limited c.rows_above.result _ c.levels.level _
      c.rows_above.ensures.value (w.is_empty.ensures.0 w.if-not-is_empty.false) c.levels.invariant
  | else-levels-test w ↦
      gathers_end (g.V.View.seen c.args.view.now) c.args.row.now c.requires.write c.requires.free c.args.most c.requires.limited c.rows_above.result _ c.levels.level _
      c.rows_above.ensures.value
      (gathers_none (g.V.View.seen c.args.view.now) c.args.row.now c.requires.write c.requires.free c.args.most c.requires.limited _ _ c.count.result _ _ c.count.ensures w.levels-test.false c.levels.invariant)
      c.levels.invariant
]
