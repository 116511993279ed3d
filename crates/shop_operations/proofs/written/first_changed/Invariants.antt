use Rattle.std.proofs.Common.{◌≡◌, ◌&&◌, take, filter}
use Rattle.std.specs.Prelude.{not}
use Rattle.shop_operations.specs.Upserts as spec
use Rattle.shop_operations.proofs.written.first_changed.Given as goal

abbrev pub invariant-loop-field : goal.invariant-loop-field
invariant-loop-field l = l.best ≡ spec.least spec.field_name (filter (λ field. field.marks.fixed && not (spec.agree_in field.number l.before l.row)) (take l.field-index l.field-items))
