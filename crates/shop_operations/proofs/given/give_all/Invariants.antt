use Rattle.std.proofs.Common.{◌≡◌, take}
use Rattle.std.specs.List.{fold}
use Rattle.shop_operations.specs.Upserts as spec
use Rattle.shop_operations.proofs.given.give_all.Given as goal

abbrev pub invariant-loop-number : goal.invariant-loop-number
invariant-loop-number l = l.fields.items ≡ fold spec.give l.initial.fields.items (take l.number-index l.given)
