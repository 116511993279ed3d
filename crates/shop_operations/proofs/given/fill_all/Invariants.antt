use Rattle.std.proofs.Common.{◌≡◌, take}
use Rattle.std.specs.List.{fold}
use Rattle.shop_operations.specs.Upserts as spec
use Rattle.shop_operations.proofs.given.fill_all.Given as goal

abbrev pub invariant-loop-field : goal.invariant-loop-field
invariant-loop-field l = l.fields.items ≡ fold spec.fill l.initial.fields.items (take l.field-index l.table)
