use Rattle.shop_kept.specs.Readers.{many_at}
use Rattle.shop_kept.proofs.Loop.{goes_on}
use Rattle.shop_kept.proofs.spelled.read_many.Goals as goal

pub loop-preserved : goal.loop-preserved
loop-preserved g c = rw c.in_ok-push.ensures.ok (goes_on g.T.Spelled.read_at c.loop.items c.args.count c.loop.counter c.loop.rest.now c.in_ok-item.item c.in_ok-item.after.now (many_at g.T.Spelled.read_at c.args.count c.args.bytes.now) c.loop-test.true c.in_ok-item.ensures c.loop.invariant)
