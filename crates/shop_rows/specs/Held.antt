-- What contracts see of the rows of a shop.
use Rattle.std.specs.Prelude.{List, Option}
use Rattle.shop_defs.specs.declared.row.Row.{Row}
use Rattle.shop_defs.specs.declared.delta.Delta.{Delta}

-- the rows in the order of their keys, and the delta that can be applied without memory, if there is one
pub record Held : Type 0 where
  pub list : List Row
  pub spare : Option Delta
