use Rattle.shop_shared.proofs.Looking.{both_see}
use Rattle.shop_shared.proofs.locked.Locked.meet.Goals as goal

pub returns-clause-met : goal.returns-clause-met
returns-clause-met g c = both_see c.args.self.now c.look-one.new.self c.look-one.result c.look-two.result c.look-one.ensures.all c.look-one.ensures.same c.look-two.ensures.all
