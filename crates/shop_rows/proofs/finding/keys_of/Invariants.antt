use Rattle.std.proofs.Common.{◌≡◌, ◌++◌, map}
use Rattle.shop_rows.proofs.finding.keys_of.Given as goal

abbrev pub invariant-loop-pair : goal.invariant-loop-pair
invariant-loop-pair g l = l.keys.items ++ map (λ pair. pair.0.key) l.found ≡ map (λ pair. pair.0.key) l.initial.found
