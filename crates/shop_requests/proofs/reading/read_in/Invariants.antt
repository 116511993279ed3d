use Rattle.std.proofs.Common.{◌≡◌, take}
use Rattle.shop_requests.specs.Operations as spec
use Rattle.shop_requests.proofs.reading.read_in.Given as goal

abbrev pub invariant-loop-info : goal.invariant-loop-info
invariant-loop-info l = l.read ≡ spec.read_in (take l.info-index l.table) l.fields
