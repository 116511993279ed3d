use Rattle.std.proofs.Common.{◌≡◌, take}
use Rattle.idx_listing.specs.Repricing.{parents}
use Rattle.idx_listing.proofs.touched.parent_list.Given as goal

abbrev pub invariant-loop-change : goal.invariant-loop-change
invariant-loop-change l = l.ids.items ≡ parents l.before.list l.after.list (take l.change-index l.changes)
