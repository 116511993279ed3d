use Rattle.shop_core.proofs.NameTexts.{names_are_texts}
use Rattle.shop_core.proofs.laws.law_of_the_names.Goals as goal

pub returns : goal.returns
returns c = names_are_texts
