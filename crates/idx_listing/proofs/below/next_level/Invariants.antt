use Rattle.std.proofs.Common.{◌≡◌, take}
use Rattle.std.specs.List.{flat_map}
use Rattle.shop_meanings.specs.Categories.{children_of}
use Rattle.idx_listing.proofs.below.next_level.Given as goal

abbrev pub invariant-loop-id : goal.invariant-loop-id
invariant-loop-id l = l.below.items ≡ flat_map (children_of l.rows.list) (take l.id-index l.level)
