use Rattle.std.proofs.Common.{◌≡◌, take, map}
use Rattle.shop_core.specs.Requests.{bare}
use Rattle.shop_core.proofs.read.copy_bare.Given as goal

abbrev pub invariant-loop-row : goal.invariant-loop-row
invariant-loop-row l = l.copy ≡ map (λ row. bare row.now) (take l.row-index l.rows)
