use Rattle.body_json.proofs.InOrder.{first_is_named}
use Rattle.body_json.proofs.laws.law_of_the_first_wrong_place.Goals as goal

pub returns : goal.returns
returns c = first_is_named
