use Rattle.std.proofs.Common.{◌≡◌, ◌≤◌, length, take, map}
use Rattle.std.specs.Vec.{vec_len, vec_capacity}
use Rattle.cart_price.specs.LargestRemainder.{claim}
use Rattle.cart_price.proofs.shares.claims_in.Given as goal

abbrev pub invariant-loop-base : goal.invariant-loop-base
invariant-loop-base l = record {
  done : l.claims.items ≡ map (claim l.amount l.whole) (take l.base-index l.bases);
  len : vec_len l.claims ≡ l.base-index;
  room : length l.bases ≤ vec_capacity l.claims;
}
