use Rattle.std.proofs.Common.{ap, ◌∙◌}
use Rattle.std.proofs.lemmas.List.{map-append}
use Rattle.idx_copy.specs.Fronts.{changes_of, changes_in}
use Rattle.publishing.proofs.Installing.{queue_more}
use Rattle.publishing.proofs.queue.Queue.push.Goals as goal

pub invariant_of-self : goal.invariant_of-self
invariant_of-self c =
    let more = ap changes_in c.push_in_room.ensures ∙ map-append changes_of c.self.inside.pending.items _ in
    queue_more _ _ _ _ c.self.view_is c.self.invariant c.requires.keys c.requires.sound c.requires.front more
