use Rattle.product_meanings.proofs.Picked.{picked_of_all}
use Rattle.product_meanings.proofs.laws.law_of_the_picked.Goals as goal

pub returns : goal.returns
returns c = picked_of_all
