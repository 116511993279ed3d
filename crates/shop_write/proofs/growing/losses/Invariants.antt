use Rattle.std.proofs.Common.{◌≡◌, take}
use Rattle.shop_write.specs.Growth.{losses}
use Rattle.shop_write.proofs.growing.losses.Given as goal

abbrev pub invariant-loop-key : goal.invariant-loop-key
invariant-loop-key l = l.lost ≡ losses l.base.list (take l.key-index l.changes)
