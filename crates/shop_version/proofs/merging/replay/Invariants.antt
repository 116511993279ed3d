use Rattle.std.proofs.Common.{◌≡◌, ◌≤◌, ◌+◌, ◌*◌, drop, length, flat_map}
use Rattle.shop_operations.specs.Soundness.{IsCoherent}
use Rattle.shop_drafts.specs.Drafts.{commits}
use Rattle.shop_drafts.specs.Merging.{replayed, logged}
use Rattle.shop_write.specs.Growth.{grown_view}
use Rattle.shop_version.proofs.merging.replay.Given as goal

abbrev pub invariant-loop-number : goal.invariant-loop-number
invariant-loop-number l = record {
  so_far : replayed (grown_view l.growing) (flat_map logged (drop l.number (commits l.rows.list l.version))) ≡ replayed (grown_view l.initial.growing) (flat_map logged (commits l.rows.list l.version));
  base : l.growing.base ≡ l.initial.growing.base;
  coherent : IsCoherent (grown_view l.growing);
  counted : l.replayed + length (flat_map logged (drop l.number (commits l.rows.list l.version))) ≡ length (flat_map logged (commits l.rows.list l.version));
  few : l.replayed ≤ 1000 * l.number;
  most : l.number ≤ l.count;
}
