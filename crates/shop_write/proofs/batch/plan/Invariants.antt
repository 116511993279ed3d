use Rattle.std.proofs.Common.{◌≡◌, ◌+◌, drop}
use Rattle.shop_soundness.specs.Batches.{batch, live_batch}
use Rattle.shop_operations.specs.Soundness.{IsCoherent}
use Rattle.shop_write.specs.Growth.{grown_view}
use Rattle.shop_write.proofs.batch.plan.Given as goal

abbrev pub invariant-loop-place : goal.invariant-loop-place
invariant-loop-place l = record {
  so_far : batch (grown_view l.growing) (l.place + 1) (drop l.place l.all) ≡ live_batch l.fn.rows.list l.all;
  base : l.growing.base ≡ l.fn.rows.list;
  coherent : IsCoherent (grown_view l.growing);
}
