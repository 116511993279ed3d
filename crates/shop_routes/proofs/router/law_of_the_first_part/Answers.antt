use Rattle.shop_routes.proofs.FirstParts.{first_part}
use Rattle.shop_routes.proofs.router.law_of_the_first_part.Goals as goal

pub returns : goal.returns
returns c = first_part
