use Rattle.std.proofs.Common.{◌≡◌, take}
use Rattle.product_meanings.specs.Products.{with_above}
use Rattle.product_rows.proofs.links.with_above.Given as goal

abbrev pub invariant-loop-id : goal.invariant-loop-id
invariant-loop-id l = l.all.items ≡ with_above l.rows.list (take l.id-index l.ids)
