use Rattle.std.proofs.Common.{◌≡◌, ◌≤◌, ◌+◌, ◌-◌, drop, length, option_map}
use Rattle.shop_http.specs.Heads.{head_end}
use Rattle.shop_http.proofs.region.head_end.Given as goal

abbrev pub invariant-loop-line : goal.invariant-loop-line
invariant-loop-line l = (l.at ≤ length l.bytes) × (head_end l.bytes ≡ option_map (λ n. l.at + n) (head_end (drop l.at l.bytes)))

abbrev pub decreases-loop-line : goal.decreases-loop-line
decreases-loop-line l = length l.initial.bytes - l.at
