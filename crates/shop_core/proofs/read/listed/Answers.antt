use Rattle.shop_core.proofs.Listed.{listed_first}
use Rattle.shop_core.proofs.read.listed.Goals as goal

pub returns : goal.returns
returns c =
    rw (← listed_first c.args.entity c.args.id c.args.second c.args.rows.now.list c.len-order.ensures.order, ← c.behind.ensures) c.first_live.ensures
