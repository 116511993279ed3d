-- A shop's categories, computed.
use Rattle.std.proofs.Common.{refl}
use Rattle.shop_operations.specs.Parents.{parent_id}
use Rattle.shop_meanings.specs.WorkedRows.{ShirtsAreMoved}

pub shirts_are_moved : ShirtsAreMoved
unfolding parent_id
shirts_are_moved = record { clothing = refl; shirts = refl; polos = refl; garden = refl; less_clothing = refl; moved_shirts = refl; moved_polos = refl; more_garden = refl; no_category = refl; deeper = refl; children = refl }
