use Rattle.shop_rows.proofs.Moving.{settled_next}
use Rattle.shop_rows.proofs.pages.settled_changes.Goals as goal

pub loop-change-preserved : goal.loop-change-preserved
loop-change-preserved c =
    settled_next c.args.changes.now c.loop-change.change-index c.change-item.result c.loop-change-test.true c.change-item.is c.in_ok-own_change.field-0 c.loop-change.settled.list c.put.new.self.list
    c.in_ok-own_change.ensures c.in_ok-put.ensures.ok c.loop-change.invariant
