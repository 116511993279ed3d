use Rattle.std.proofs.Common.{◌≡◌, ◌≤◌, ◌+◌, length, vec_len, vec_capacity}
use Rattle.std.specs.Vec.Iter.{into_iter_items}
use Rattle.shop_defs.specs.declared.key.Key.{Key}
use Rattle.shop_outside.specs.Keeping.{bytes_at, kept_rows}
use Rattle.shop_outside.specs.Scanning.{bytes_in_turn}
use Rattle.shop_outside.proofs.Unchanged.{AllChange}
use Rattle.shop_outside.proofs.bodies.change_all_by_scan.Given as goal

abbrev pub invariant-loop-key : goal.invariant-loop-key
invariant-loop-key l = record {
  bytes : (q : Key) → bytes_in_turn (bytes_at l.rows.items q) (into_iter_items l.key-iterator) q ≡ bytes_in_turn (bytes_at l.initial.rows.items q) (into_iter_items l.initial.key-iterator) q;
  others : kept_rows l.fn.changes.items l.rows.items ≡ kept_rows l.fn.changes.items l.initial.rows.items;
  rest : AllChange l.fn.changes.items (into_iter_items l.key-iterator);
  room : vec_len l.rows + length (into_iter_items l.key-iterator) ≤ vec_capacity l.rows;
}
