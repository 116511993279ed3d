use Rattle.closure.proofs.Laws.{all_reached_are_least}
use Rattle.closure.proofs.law_of_the_closure.Goals as goal

pub returns : goal.returns
returns g c = record { least = all_reached_are_least _ }
