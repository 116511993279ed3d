use Rattle.std.proofs.Common.{◌≡◌, take}
use Rattle.std.specs.Option.{option_map}
use Rattle.shop_requests.specs.Operations as spec
use Rattle.shop_requests.proofs.reading.least_beyond.Given as goal

abbrev pub invariant-loop-name : goal.invariant-loop-name
invariant-loop-name l = option_map (λ place. (place.name.now, place.value)) l.best ≡ spec.least_beyond l.entity (take l.name-index l.fields)
