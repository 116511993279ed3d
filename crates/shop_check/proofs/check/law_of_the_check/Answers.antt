use Rattle.shop_check.proofs.Laws as laws
use Rattle.shop_check.proofs.check.law_of_the_check.Goals as goal

pub returns-clause-kept : goal.returns-clause-kept
returns-clause-kept c = laws.undamaged

pub returns-clause-undamaged : goal.returns-clause-undamaged
returns-clause-undamaged c = laws.undamaged_are_kept
