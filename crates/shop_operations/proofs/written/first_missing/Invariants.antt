use Rattle.std.proofs.Common.{◌≡◌, ◌&&◌, take, filter}
use Rattle.std.specs.Prelude.{is_none}
use Rattle.shop_defs.specs.Rows.{field_of}
use Rattle.shop_operations.specs.Upserts as spec
use Rattle.shop_operations.proofs.written.first_missing.Given as goal

abbrev pub invariant-loop-field : goal.invariant-loop-field
invariant-loop-field l = l.best ≡ spec.least spec.field_name (filter (λ field. field.marks.required && is_none (field_of l.row field.number)) (take l.field-index l.field-items))
