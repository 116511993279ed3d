use Rattle.std.proofs.Common.{◌≡◌, ◌+◌, drop}
use Rattle.shop_operations.specs.Soundness.{IsCoherent}
use Rattle.shop_drafts.specs.Merging.{replayed, logged_from}
use Rattle.shop_write.specs.Growth.{grown_view}
use Rattle.shop_version.proofs.merging.replay_commit.Given as goal

abbrev pub invariant-loop-place : goal.invariant-loop-place
invariant-loop-place l = record {
  so_far : replayed (grown_view l.growing) (logged_from l.number (l.place + 1) (drop l.place l.ops)) ≡ replayed (grown_view l.initial.growing) (logged_from l.number 1 l.ops);
  base : l.growing.base ≡ l.initial.growing.base;
  coherent : IsCoherent (grown_view l.growing);
}
