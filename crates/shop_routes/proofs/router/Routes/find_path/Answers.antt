use Rattle.std.proofs.Common.{arith}
use Rattle.shop_routes.proofs.LineFound.{answered, unanswered}
use Rattle.shop_routes.proofs.router.Routes.find_path.Goals as goal

pub returns-in-Ok : goal.returns-in-Ok
returns-in-Ok c =
    rw c.in-Ok.ensures.path (answered c.args.path.now _ c.utf8.path (λ i. omega (arith, c.type_inv.path i)) (rw c.args.self.now.full at c.in-Ok.ensures.found))

pub returns-in-Err : goal.returns-in-Err
returns-in-Err c = unanswered c.args.path.now (rw c.args.self.now.full at c.in-Err.ensures.missing)
