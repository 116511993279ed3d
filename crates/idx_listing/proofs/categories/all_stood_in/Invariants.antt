use Rattle.std.proofs.Common.{◌≡◌, take}
use Rattle.std.specs.List.{flat_map}
use Rattle.idx_listing.specs.Relisting.{stood_in}
use Rattle.idx_listing.proofs.categories.all_stood_in.Given as goal

abbrev pub invariant-loop-product : goal.invariant-loop-product
invariant-loop-product l = l.ids.items ≡ flat_map (stood_in l.before.list l.after.list) (take l.product-index l.products)
