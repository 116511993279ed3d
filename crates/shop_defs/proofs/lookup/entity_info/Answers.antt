use Rattle.shop_defs.proofs.Found.{info_at}
use Rattle.shop_defs.proofs.lookup.entity_info.Goals as goal

pub returns : goal.returns
returns c = rw c.number.ensures (info_at c.args.entity _)
