use Rattle.std.proofs.Common.{◌≡◌, map, take}
use Rattle.shop_outside.specs.Bodies.{read_body}
use Rattle.shop_outside.proofs.holding.shared_changes.Given as goal

abbrev pub invariant-loop-change : goal.invariant-loop-change
invariant-loop-change l = map read_body l.shared.items ≡ take l.change-index l.changes
