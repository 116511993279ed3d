use Rattle.std.proofs.Common.{◌≡◌, ◌++◌, map, length}
use Rattle.cart_price.specs.Lent.{lent_rows}
use Rattle.shop_rules.specs.Ranking.{rule_in}
use Rattle.cart_loop.proofs.rules.read_rules.Given as goal

abbrev pub invariant-loop-rest : goal.invariant-loop-rest
invariant-loop-rest l = l.rules.items ++ map (rule_in l.rows.list) (lent_rows l.rest) ≡ map (rule_in l.rows.list) (lent_rows l.found)

abbrev pub decreases-loop-rest : goal.decreases-loop-rest
decreases-loop-rest l = length l.rest
