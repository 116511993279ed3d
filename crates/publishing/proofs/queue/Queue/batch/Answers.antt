use Rattle.std.proofs.Common.{List, take, ap, ◌∙◌}
use Rattle.shop_defs.specs.Joined.{Change}
use Rattle.idx_copy.specs.Fronts.{changes_in}
use Rattle.publishing.proofs.Installing.{queue_first, sound_at_end}
use Rattle.publishing.proofs.queue.Queue.batch.Goals as goal

pub returns-clause-sound : goal.returns-clause-sound
returns-clause-sound c =
    let first = ap (λ (all : List (List Change)). take c.args.most all) (ap changes_in c.as_slice.ensures.value) in
    sound_at_end _ _ _ _ (queue_first _ _ c.args.most c.self.invariant) c.in_ok-copy.ensures (c.in_ok-deltas.ensures ∙ first)
