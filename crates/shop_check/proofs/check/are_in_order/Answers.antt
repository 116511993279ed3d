use Rattle.std.proofs.Common.{None}
use Rattle.shop_check.proofs.Orders.{in_order}
use Rattle.shop_check.proofs.check.are_in_order.Goals as goal

pub loop-rest-init : goal.loop-rest-init
loop-rest-init c = in_order None c.args.rows.now
