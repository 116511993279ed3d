use Rattle.std.proofs.Common.{ap}
use Rattle.idx_copy.specs.Fronts.{changes_in}
use Rattle.publishing.proofs.Installing.{sound_at_end}
use Rattle.publishing.proofs.queue.Queue.catch_up.Goals as goal

pub next-requires-clause-sound : goal.next-requires-clause-sound
next-requires-clause-sound c = sound_at_end _ _ _ _ c.self.invariant c.deref.ensures (ap changes_in c.as_slice.ensures.value)
