use Rattle.shop_kept.proofs.Rows.{spellings_differ}
use Rattle.shop_kept.proofs.row.law_of_the_spellings.Goals as goal

pub returns : goal.returns
returns c = spellings_differ
