use Rattle.std.proofs.Common.{◌≡◌, take}
use Rattle.std.specs.List.{flat_map}
use Rattle.product_meanings.specs.Products.{variant_ids}
use Rattle.product_rows.proofs.affected.all_variants.Given as goal

abbrev pub invariant-loop-product : goal.invariant-loop-product
invariant-loop-product l = l.ids.items ≡ flat_map (variant_ids l.rows.list) (take l.product-index l.products)
