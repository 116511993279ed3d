use Rattle.shop_drafts.proofs.OwnParts.{drafts_show_their_parts}
use Rattle.shop_drafts.proofs.laws.law_of_the_parts_shown.Goals as goal

pub returns : goal.returns
returns c = drafts_show_their_parts
