use Rattle.std.proofs.Common.{◌≡◌, ◌++◌, length}
use Rattle.cart_price.specs.Lent.{lent_rows}
use Rattle.cart_collect.specs.Finding.{live_of}
use Rattle.cart_collect.proofs.Walks.{behind, IsFrom}
use Rattle.cart_collect.proofs.walking.live_rows.Given as goal

abbrev pub invariant-loop-row : goal.invariant-loop-row
invariant-loop-row l = record {
  found : lent_rows l.found.items ++ live_of (behind l.at l.rows.list) l.fn.entity ≡ live_of l.rows.list l.fn.entity;
  from : IsFrom l.fn.entity l.at;
}

abbrev pub decreases-loop-row : goal.decreases-loop-row
decreases-loop-row l = length (behind l.at l.rows.list)
