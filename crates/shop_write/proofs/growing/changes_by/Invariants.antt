use Rattle.std.proofs.Common.{◌≡◌, take}
use Rattle.std.specs.Prelude.{map}
use Rattle.shop_write.specs.Growth.{change_by}
use Rattle.shop_write.proofs.growing.changes_by.Given as goal

abbrev pub invariant-loop-key : goal.invariant-loop-key
invariant-loop-key l = l.changes ≡ map (change_by l.over.list) (take l.key-index l.keys)
