use Rattle.shop_drafts.proofs.Merged.{merges_are_replays}
use Rattle.shop_drafts.proofs.laws.law_of_merges.Goals as goal

pub returns : goal.returns
returns c = merges_are_replays
