use Rattle.std.proofs.Common.{◌≡◌, ◌≤◌, length, take, map, pos}
use Rattle.std.specs.Vec.{vec_len, vec_capacity}
use Rattle.cart_price.specs.LargestRemainder.{part}
use Rattle.cart_price.proofs.shares.parts_in.Given as goal

abbrev pub invariant-loop-at : goal.invariant-loop-at
invariant-loop-at l = record {
  done : l.parts.items ≡ map (λ at. (at.rate, pos (part l.claims l.left at))) (take l.at-index l.claims);
  len : vec_len l.parts ≡ l.at-index;
  room : length l.claims ≤ vec_capacity l.parts;
}
