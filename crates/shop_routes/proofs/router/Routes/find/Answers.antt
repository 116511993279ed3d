use Rattle.std.proofs.Common.{refl}
use Rattle.shop_routes.specs.Paths.{found}
use Rattle.shop_routes.proofs.router.Routes.find.Goals as goal

pub returns-in-Some : goal.returns-in-Some
unfolding found
returns-in-Some c = rw (c.in-Some.ensures.1, ← c.in-Some.ensures.0) c.find_path.ensures

pub returns-in-None : goal.returns-in-None
unfolding found
returns-in-None c = rw c.in-None.ensures refl
