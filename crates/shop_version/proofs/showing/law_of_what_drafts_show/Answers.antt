use Rattle.shop_drafts.proofs.Seen.{drafts_are_views}
use Rattle.shop_version.proofs.showing.law_of_what_drafts_show.Goals as goal

pub returns : goal.returns
returns c = λ rows version root op formed n. record { formed = drafts_are_views.formed rows version root formed; shallow = λ given live. absurd (n live) }
