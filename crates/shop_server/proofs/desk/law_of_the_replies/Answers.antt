use Rattle.shop_server.proofs.Folds.{answers_fold}
use Rattle.shop_server.proofs.desk.law_of_the_replies.Goals as goal

pub returns : goal.returns
returns c = answers_fold
