use Rattle.std.proofs.Common.{◌≡◌, length}
use Rattle.shop_check.specs.Found.{first_among}
use Rattle.shop_check.proofs.among.first_broken.Given as goal

abbrev pub invariant-loop-rest : goal.invariant-loop-rest
invariant-loop-rest g l = first_among (g.O.Others.rows l.others) l.rest ≡ first_among (g.O.Others.rows l.others) l.rows

abbrev pub decreases-loop-rest : goal.decreases-loop-rest
decreases-loop-rest g l = length l.rest
