-- A shop's products, computed.
use Rattle.std.proofs.Common.{refl}
use Rattle.shop_defs.specs.Tables.{fields_of}
use Rattle.shop_operations.specs.Parents.{parent_id}
use Rattle.row_fields.specs.Fields.{number_of}
use Rattle.trees.specs.Holding.{holds}
use Rattle.product_meanings.specs.WorkedRows.{ShirtsAreSold}

pub shirts_are_sold : ShirtsAreSold
unfolding parent_id number_of fields_of holds
shirts_are_sold = record { none_dear = refl; dear = refl; no_filter = refl; no_stream = refl; price = refl; equal = refl; inactive = refl; above = refl; page = refl; past = refl }
