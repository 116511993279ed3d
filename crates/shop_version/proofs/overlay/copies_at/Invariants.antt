use Rattle.std.proofs.Common.{◌≡◌, ◌++◌, drop}
use Rattle.shop_version.specs.Overlays.{rows_at}
use Rattle.shop_version.proofs.overlay.copies_at.Given as goal

abbrev pub invariant-loop-key : goal.invariant-loop-key
invariant-loop-key l = l.copies.items ++ rows_at l.rows.list (drop l.key-index l.keys) ≡ rows_at l.rows.list l.keys
