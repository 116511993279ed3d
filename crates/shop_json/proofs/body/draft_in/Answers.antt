use Rattle.std.proofs.Common.{sym, subst, ap}
use Rattle.shop_requests.specs.declared.command.Command.TheVariants as commands
use Rattle.shop_requests.specs.declared.route.Route.TheVariants as routes
use Rattle.body_json.specs.Objects.{draft}
use Rattle.shop_json.specs.Asking.{Reads, as_write, request_in}
use Rattle.shop_json.proofs.Bodies.{err_is, is_said, not_said}
use Rattle.shop_json.proofs.body.draft_in.Goals as goal

pub returns-in_err-named-clause-answer : goal.returns-in_err-named-clause-answer
returns-in_err-named-clause-answer c =
    let fault = c.in_err-named.field-0.0 in
    subst (λ answer. Reads (request_in (routes.Draft c.args.version) c.args.body.now) answer) (sym (err_is c.from_residual.result fault c.from_residual.ensures.1))
    (not_said draft (λ x. commands.MakeDraft c.args.version x.entity x.root) c.args.body.now fault c.in_err-named.ensures)

pub returns-clause-answer : goal.returns-clause-answer
returns-clause-answer c = ap (as_write (λ x. commands.MakeDraft c.args.version x.entity x.root)) (is_said draft c.args.body.now c.in_ok-named.named c.in_ok-named.ensures)
