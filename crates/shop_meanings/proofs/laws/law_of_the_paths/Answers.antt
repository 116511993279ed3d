use Rattle.shop_meanings.proofs.Paths.{paths_go_up}
use Rattle.shop_meanings.proofs.laws.law_of_the_paths.Goals as goal

pub returns : goal.returns
returns c = paths_go_up
