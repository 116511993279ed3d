use Rattle.std.proofs.Common.{◌≡◌, take}
use Rattle.idx_listing.specs.Relisting.{changed_categories}
use Rattle.idx_listing.proofs.categories.changed_categories.Given as goal

abbrev pub invariant-loop-change : goal.invariant-loop-change
invariant-loop-change l = l.ids.items ≡ changed_categories (take l.change-index l.changes)
