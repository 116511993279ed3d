use Rattle.shop_check.proofs.KeptKinds.{kinds_are_kept}
use Rattle.shop_check.proofs.kind.law_of_the_kinds.Goals as goal

pub returns : goal.returns
returns c = kinds_are_kept
