use Rattle.std.proofs.Common.{◌≡◌, [], map, length, true}
use Rattle.shop_routes.specs.Filling.{is_free, router_of}
use Rattle.shop_routes.proofs.table.filled.Given as goal

abbrev pub invariant-loop-rest : goal.invariant-loop-rest
invariant-loop-rest l = record {
  free : is_free l.router (map (λ x. (x.0, x.1.now, x.2)) l.rest) ≡ true;
  goes_on : router_of l.router (map (λ x. (x.0, x.1.now, x.2)) l.rest) ≡ router_of [] (map (λ x. (x.0, x.1.now, x.2)) l.initial.rest);
}

abbrev pub decreases-loop-rest : goal.decreases-loop-rest
decreases-loop-rest l = length l.rest
