use Rattle.std.proofs.Common.{◌≡◌, ◌+◌, ◌++◌, drop}
use Rattle.shop_drafts.specs.Writing.{batch_in, read_all}
use Rattle.shop_version.specs.DraftSteps.{AreDone}
use Rattle.shop_version.specs.DraftWrites.{AreFormed}
use Rattle.shop_version.specs.Overlays.{layer_rows, layer_view}
use Rattle.shop_version.proofs.batches.do_all.Given as goal

abbrev pub invariant-loop-place : goal.invariant-loop-place
invariant-loop-place l = record {
  so_far : batch_in l.overlay.root (layer_view l.overlay) (l.place + 1) (drop l.place l.ops) ≡ batch_in l.initial.overlay.root (layer_view l.initial.overlay) 1 l.ops;
  formed : AreFormed (layer_rows l.overlay);
  read : l.done.ops ++ read_all (drop l.place l.ops) ≡ read_all l.ops;
  done : AreDone l.initial.overlay l.overlay l.done.deltas.items;
}
