use Rattle.std.proofs.Common.{ap, sym, ◌∙◌, ◌++◌}
use Rattle.std.specs.Option.{option_map, option_to_list}
use Rattle.shop_defs.specs.Rows.{row_at}
use Rattle.shop_write.specs.Growth.{put_in}
use Rattle.shop_write.proofs.Taking.{losses_more}
use Rattle.shop_write.proofs.growing.losses.Goals as goal

pub loop-key-preserved : goal.loop-key-preserved
loop-key-preserved c =
    let change = c.loop-key-item.result in
    c.in_ok-push_loss.ensures
    ∙ (ap (λ lost. lost ++ option_to_list (option_map put_in (row_at c.args.base.now.list change.0))) c.loop-key.invariant
    ∙ sym (losses_more c.args.base.now.list c.args.changes.now c.loop-key.key-index change c.loop-key-test.true c.loop-key-item.is))
