use Rattle.shop_drafts.proofs.Shown.{nothing_else_changes}
use Rattle.shop_drafts.proofs.laws.law_of_other_rows.Goals as goal

pub returns : goal.returns
returns c = nothing_else_changes
