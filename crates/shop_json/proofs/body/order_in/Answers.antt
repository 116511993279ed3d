use Rattle.std.proofs.Common.{sym, subst, ap}
use Rattle.shop_requests.specs.declared.command.Command.TheVariants as commands
use Rattle.shop_requests.specs.declared.route.Route.TheVariants as routes
use Rattle.body_json.specs.Objects.{order}
use Rattle.shop_json.specs.Asking.{Reads, as_write, request_in}
use Rattle.shop_json.proofs.Bodies.{err_is, is_said, not_said}
use Rattle.shop_json.proofs.body.order_in.Goals as goal

pub returns-in_err-order-clause-answer : goal.returns-in_err-order-clause-answer
returns-in_err-order-clause-answer c =
    let fault = c.in_err-order.field-0.0 in
    subst (λ answer. Reads (request_in (routes.PlaceCart c.args.cart) c.args.body.now) answer) (sym (err_is c.from_residual.result fault c.from_residual.ensures.1))
    (not_said order (λ x. commands.Place c.args.cart x) c.args.body.now fault c.in_err-order.ensures)

pub returns-clause-answer : goal.returns-clause-answer
returns-clause-answer c = ap (as_write (λ x. commands.Place c.args.cart x)) (is_said order c.args.body.now c.in_ok-order.order c.in_ok-order.ensures)
