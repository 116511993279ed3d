use Rattle.shop_server.proofs.Folds.{few_accepted}
use Rattle.shop_server.proofs.desk.law_of_the_count.Goals as goal

pub returns : goal.returns
returns c = few_accepted
