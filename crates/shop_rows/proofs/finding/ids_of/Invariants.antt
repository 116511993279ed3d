use Rattle.std.proofs.Common.{◌≡◌, ◌++◌, map}
use Rattle.shop_rows.proofs.finding.ids_of.Given as goal

abbrev pub invariant-loop-pair : goal.invariant-loop-pair
invariant-loop-pair l = l.ids.items ++ map (λ pair. pair.0.key.id) l.found ≡ map (λ pair. pair.0.key.id) l.initial.found
