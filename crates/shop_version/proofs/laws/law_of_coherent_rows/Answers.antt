use Rattle.shop_version.proofs.StillCoherent.{stay_coherent}
use Rattle.shop_version.proofs.laws.law_of_coherent_rows.Goals as goal

pub returns : goal.returns
returns c = stay_coherent
