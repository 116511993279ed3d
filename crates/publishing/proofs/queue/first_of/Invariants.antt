use Rattle.std.proofs.Common.{◌≡◌, take}
use Rattle.idx_copy.specs.Fronts.{changes_in}
use Rattle.publishing.proofs.queue.first_of.Given as goal

abbrev pub invariant-loop-delta : goal.invariant-loop-delta
invariant-loop-delta l = changes_in l.first.items ≡ changes_in (take l.delta-index l.delta-items)
