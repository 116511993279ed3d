use Rattle.std.proofs.Common.{ℤ, sym, subst, ap, ◌∙◌, Result, Ok, w64}
use Rattle.std.proofs.lemmas.Int.{to_z-of_z}
use Rattle.shop_requests.specs.declared.line_fault.LineFault.{LineFault}
use Rattle.shop_core.specs.declared.answers.Request.{Request}
use Rattle.shop_core.specs.declared.answers.Request.TheVariants as requests
use Rattle.shop_requests.specs.declared.command.Command.TheVariants as commands
use Rattle.shop_requests.specs.declared.route.Route.TheVariants as routes
use Rattle.body_json.specs.Objects.{amount}
use Rattle.shop_json.specs.Asking.{Reads, as_write, request_in}
use Rattle.shop_json.proofs.Bodies.{err_is, is_said, not_said}
use Rattle.shop_json.proofs.body.stock_in.Goals as goal

pub returns-in_err-amount-clause-answer : goal.returns-in_err-amount-clause-answer
returns-in_err-amount-clause-answer c =
    let fault = c.in_err-amount.field-0.0 in
    subst (λ answer. Reads (request_in (routes.Stock c.args.product) c.args.body.now) answer) (sym (err_is c.from_residual.result fault c.from_residual.ensures.1))
    (not_said amount (λ x. commands.AdjustStock c.args.product x) c.args.body.now fault c.in_err-amount.ensures.answer)

pub returns-clause-answer : goal.returns-clause-answer
returns-clause-answer c =
    let asked : ℤ → Result Request LineFault = λ n. Ok (requests.Write (commands.AdjustStock c.args.product n)) in
    ap (as_write (λ x. commands.AdjustStock c.args.product x)) (is_said amount c.args.body.now c.in_ok-amount.amount c.in_ok-amount.ensures.answer)
    ∙ ap asked (sym (to_z-of_z w64 c.in_ok-amount.amount c.in_ok-amount.ensures.fits))
