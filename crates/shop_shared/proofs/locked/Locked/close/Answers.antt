use Rattle.shop_shared.proofs.Looking.{closes}
use Rattle.shop_shared.proofs.locked.Locked.close.Goals as goal

pub returns : goal.returns
returns g c = closes c.self.inside.state _ c.close.ensures.shop c.close.ensures.content
