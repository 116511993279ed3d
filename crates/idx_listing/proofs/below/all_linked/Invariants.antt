use Rattle.std.proofs.Common.{◌≡◌, take}
use Rattle.std.specs.List.{flat_map}
use Rattle.product_rows.specs.Affecting.{linked_to}
use Rattle.idx_listing.proofs.below.all_linked.Given as goal

abbrev pub invariant-loop-category : goal.invariant-loop-category
invariant-loop-category l = l.ids.items ≡ flat_map (linked_to l.rows.list) (take l.category-index l.categories)
