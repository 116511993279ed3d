use Rattle.std.proofs.Common.{◌≡◌, take}
use Rattle.idx_listing.specs.Repricing.{changed}
use Rattle.idx_listing.proofs.touched.changed_ids.Given as goal

abbrev pub invariant-loop-change : goal.invariant-loop-change
invariant-loop-change l = l.ids.items ≡ changed (take l.change-index l.changes)
