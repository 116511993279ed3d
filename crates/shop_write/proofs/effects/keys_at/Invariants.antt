use Rattle.std.proofs.Common.{◌≡◌, take}
use Rattle.std.specs.Prelude.{map}
use Rattle.shop_write.specs.Places.{key_at}
use Rattle.shop_write.proofs.effects.keys_at.Given as goal

abbrev pub invariant-loop-place : goal.invariant-loop-place
invariant-loop-place l = l.keys.items ≡ map (key_at l.version) (take l.place-index l.places)
