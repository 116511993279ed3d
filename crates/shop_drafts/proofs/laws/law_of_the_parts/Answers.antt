use Rattle.shop_drafts.proofs.Parts.{parts_are_these}
use Rattle.shop_drafts.proofs.laws.law_of_the_parts.Goals as goal

pub returns : goal.returns
returns c = parts_are_these
