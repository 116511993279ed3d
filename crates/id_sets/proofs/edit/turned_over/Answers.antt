use Rattle.id_sets.proofs.Cutting.{loop_step}
use Rattle.id_sets.proofs.edit.turned_over.Goals as goal

pub loop-rest-preserved : goal.loop-rest-preserved
loop-rest-preserved c =
    let step = loop_step c.loop-rest.ids.items c.take_turned.new.ids.items c.loop-rest.left.now c.in_ok-left.left.now c.loop-rest.rest.now _ c.in-len1-up.len_at_least c.in_ok-left.ensures c.loop-rest.invariant.rest c.loop-rest.invariant.turned in
    record { turned = step.turned; left = step.left; rest = step.rest }
