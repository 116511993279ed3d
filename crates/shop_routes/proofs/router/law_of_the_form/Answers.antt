use Rattle.shop_routes.proofs.Formed.{all_formed}
use Rattle.shop_routes.proofs.router.law_of_the_form.Goals as goal

pub returns : goal.returns
returns c = all_formed
