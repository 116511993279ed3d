use Rattle.shop_drafts.proofs.Seen.{drafts_are_views}
use Rattle.shop_drafts.proofs.laws.law_of_the_views.Goals as goal

pub returns : goal.returns
returns c = drafts_are_views
