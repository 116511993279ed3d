use Rattle.std.proofs.Common.{◌≡◌, take}
use Rattle.std.specs.Prelude.{map}
use Rattle.shop_version.specs.Taking.{take_out}
use Rattle.shop_version.proofs.dropping.taken.Given as goal

abbrev pub invariant-loop-key : goal.invariant-loop-key
invariant-loop-key l = l.changes ≡ map take_out (take l.key-index l.keys)
