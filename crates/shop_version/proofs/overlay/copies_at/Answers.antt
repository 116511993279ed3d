use Rattle.std.proofs.Common.{◌∙◌}
use Rattle.shop_version.proofs.OwnRows.{copied_step}
use Rattle.shop_version.proofs.overlay.copies_at.Goals as goal

pub loop-key-preserved : goal.loop-key-preserved
loop-key-preserved c = rw c.in_ok-push_row.ensures (copied_step c.args.rows.now.list c.loop-key.copies.items c.args.keys.now c.loop-key.key-index _ c.loop-key-test.true ∙ c.loop-key.invariant)
