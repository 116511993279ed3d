use Rattle.std.proofs.Common.{◌≡◌, take}
use Rattle.shop_defs.specs.Joined.{add_changes}
use Rattle.shop_defs.proofs.join.add.Given as goal

abbrev pub invariant-loop-change : goal.invariant-loop-change
invariant-loop-change l = add_changes l.initial.all.list (take l.change-index l.changes) ≡ l.all.list
