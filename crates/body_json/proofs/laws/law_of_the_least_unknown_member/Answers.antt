use Rattle.body_json.proofs.LeastNames.{least_is_named}
use Rattle.body_json.proofs.laws.law_of_the_least_unknown_member.Goals as goal

pub returns : goal.returns
returns c = least_is_named
