use Rattle.std.proofs.Common.{◌≡◌, ◌++◌, map}
use Rattle.shop_rows.proofs.finding.keys_of_rows.Given as goal

abbrev pub invariant-loop-pair : goal.invariant-loop-pair
invariant-loop-pair l = l.keys.items ++ map (λ pair. pair.1.key) l.found ≡ map (λ pair. pair.1.key) l.initial.found
