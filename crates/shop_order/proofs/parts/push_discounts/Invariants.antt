use Rattle.std.proofs.Common.{◌≡◌, ◌++◌, map, length}
use Rattle.shop_order.specs.Parts.{discount_part, AreDiscounts}
use Rattle.shop_order.proofs.parts.push_discounts.Given as goal

abbrev pub invariant-loop-rest : goal.invariant-loop-rest
invariant-loop-rest l = record {
  pushed : l.parts.items ++ map (discount_part l.kind) l.rest ≡ l.initial.parts.items ++ map (discount_part l.kind) l.discounts;
  off : AreDiscounts l.rest;
}

abbrev pub decreases-loop-rest : goal.decreases-loop-rest
decreases-loop-rest l = length l.rest
