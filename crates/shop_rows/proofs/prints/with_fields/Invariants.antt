use Rattle.std.proofs.Common.{◌++◌, ℕ, List, take}
use Rattle.std.specs.List.{flat_map}
use Rattle.sha2.specs.Hashers.{Holds256}
use Rattle.shop_rows.specs.Prints.{field_bytes}
use Rattle.shop_rows.proofs.prints.with_fields.Given as goal

abbrev pub invariant-loop-field : goal.invariant-loop-field
invariant-loop-field l = (message : List ℕ) → Holds256 l.initial.hasher message → Holds256 l.hasher (message ++ flat_map (field_bytes l.row) (take l.field-index l.fields))
