use Rattle.std.proofs.Common.{◌≡◌, ◌==◌, ◌++◌, ℕ, length, filter}
use Rattle.std.specs.Prelude.{not}
use Rattle.shop_write.proofs.depth.add_others.Given as goal

abbrev pub invariant-loop-rest : goal.invariant-loop-rest
invariant-loop-rest l = l.ids ++ filter (λ (child : ℕ). not (child == l.own)) l.rest ≡ l.initial.ids ++ filter (λ (child : ℕ). not (child == l.own)) l.children

abbrev pub decreases-loop-rest : goal.decreases-loop-rest
decreases-loop-rest l = length l.rest
