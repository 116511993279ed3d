use Rattle.std.proofs.Common.{◌≡◌, take}
use Rattle.std.specs.Prelude.{not, filter}
use Rattle.shop_write.specs.Deleting.{empties}
use Rattle.shop_write.proofs.delete.kept_fields.Given as goal

abbrev pub invariant-loop-entry : goal.invariant-loop-entry
invariant-loop-entry l = l.fields.items ≡ filter (λ entry. not (empties l.table l.lost l.row entry.0)) (take l.entry-index l.entry-items)
