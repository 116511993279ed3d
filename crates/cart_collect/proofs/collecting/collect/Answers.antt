use Rattle.std.proofs.Common.{subst, sym}
use Rattle.cart_price.specs.Lent.{CartRows}
use Rattle.cart_collect.specs.Ordered.{AreInOrder}
use Rattle.cart_collect.proofs.InOrder.{in_order_data}
use Rattle.cart_collect.proofs.collecting.collect.Goals as goal

pub returns-in_ok-lent_cart-in-Some-clause-order : goal.returns-in_ok-lent_cart-in-Some-clause-order
returns-in_ok-lent_cart-in-Some-clause-order c =
    subst (λ (lent : CartRows). AreInOrder c.args.rows.now.list lent) (sym c.in_ok-lent_cart-in-Some.ensures) (in_order_data c.args.rows.now.list _ c.in_order.ensures)
