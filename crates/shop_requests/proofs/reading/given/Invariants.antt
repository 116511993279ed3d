use Rattle.std.proofs.Common.{◌≡◌, take}
use Rattle.std.specs.Option.{option_copied}
use Rattle.shop_requests.specs.Operations as spec
use Rattle.shop_requests.proofs.reading.given.Given as goal

abbrev pub invariant-loop-other : goal.invariant-loop-other
invariant-loop-other l = option_copied l.found ≡ spec.given (take l.other-index l.fields) l.name
