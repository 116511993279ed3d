use Rattle.shop_version.proofs.AllDrafted.{stay_drafted}
use Rattle.shop_version.proofs.laws.law_of_drafted_rows.Goals as goal

pub returns : goal.returns
returns c = stay_drafted
