use Rattle.std.proofs.Common.{refl}
use Rattle.matchit.proofs.OnLiterals.{matchit_on_literals}
use Rattle.shop_routes.proofs.table.full_router.Goals as goal

pub filled-requires : goal.filled-requires
unfolding matchit_on_literals
filled-requires c = refl
