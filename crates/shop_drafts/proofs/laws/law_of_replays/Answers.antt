use Rattle.shop_drafts.proofs.Unwritten.{replays_keep_rows}
use Rattle.shop_drafts.proofs.laws.law_of_replays.Goals as goal

pub returns : goal.returns
returns c = replays_keep_rows
