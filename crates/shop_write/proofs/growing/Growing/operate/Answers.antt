use Rattle.shop_write.proofs.BatchSteps.{keys_live}
use Rattle.shop_write.proofs.growing.Growing.operate.Goals as goal

pub take_in-requires-clause-live : goal.take_in-requires-clause-live
take_in-requires-clause-live c = keys_live c.args.self.now c.in_ok-delta.delta.changes c.in_ok-delta.ensures.plan.keys
