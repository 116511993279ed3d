use Rattle.std.proofs.Common.{◌≡◌, None, take}
use Rattle.std.specs.Option.{option_copied}
use Rattle.shop_requests.specs.Operations as spec
use Rattle.shop_requests.proofs.reading.least_unknown.Given as goal

abbrev pub invariant-loop-name : goal.invariant-loop-name
invariant-loop-name l = option_copied l.best ≡ spec.least_name (spec.is_unknown l.entity) None (take l.name-index l.fields)
