use Rattle.shop_core.proofs.Histories.{prefixes_stay}
use Rattle.shop_core.proofs.laws.law_of_prefixes.Goals as goal

pub returns : goal.returns
returns c = prefixes_stay
