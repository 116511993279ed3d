use Rattle.std.proofs.Common.{sym, ◌∙◌}
use Rattle.shop_write.proofs.JoinedKeys.{joined_step}
use Rattle.shop_write.proofs.merging.joined_keys.Goals as goal

pub loop-other-preserved : goal.loop-other-preserved
loop-other-preserved c =
    rw (c.in_ok-push.ensures.items, c.in_ok-rest.ensures.joined, c.in_ok-rest.ensures.rest)
    (sym (joined_step c.loop-other.joined.items c.loop-other.rest.now c.args.others.now c.loop-other.other-index _ c.loop-other-test.true c.requires) ∙ c.loop-other.invariant)
