use Rattle.shop_core.proofs.Histories.{each_is_counted}
use Rattle.shop_core.proofs.laws.law_of_counting.Goals as goal

pub returns : goal.returns
returns c = each_is_counted
