use Rattle.std.proofs.Common.{◌≡◌, ◌++◌, map, length}
use Rattle.std.specs.List.{flat_map}
use Rattle.cart_price.specs.Lent.{line_rows}
use Rattle.cart_loop.specs.Facts.{products_of}
use Rattle.cart_loop.proofs.facts.products_of.Given as goal

abbrev pub invariant-loop-rest : goal.invariant-loop-rest
invariant-loop-rest l = l.products.items ++ flat_map products_of (map line_rows l.rest) ≡ flat_map products_of (map line_rows l.lines)

abbrev pub decreases-loop-rest : goal.decreases-loop-rest
decreases-loop-rest l = length l.rest
