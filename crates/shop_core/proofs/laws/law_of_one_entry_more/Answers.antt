use Rattle.shop_core.proofs.Histories.{one_entry_more}
use Rattle.shop_core.proofs.laws.law_of_one_entry_more.Goals as goal

pub returns : goal.returns
returns c = one_entry_more
