use Rattle.std.proofs.Common.{◌≡◌, take}
use Rattle.product_rows.specs.Affecting.{changed_products}
use Rattle.product_rows.proofs.affected.changed_products.Given as goal

abbrev pub invariant-loop-change : goal.invariant-loop-change
invariant-loop-change l = l.ids.items ≡ changed_products (take l.change-index l.changes)
