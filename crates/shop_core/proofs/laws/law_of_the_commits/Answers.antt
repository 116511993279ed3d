use Rattle.shop_core.proofs.Replaying.{commits_are_the_replay}
use Rattle.shop_core.proofs.laws.law_of_the_commits.Goals as goal

pub returns : goal.returns
returns c = commits_are_the_replay
