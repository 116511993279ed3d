use Rattle.shop_meanings.proofs.Paths.{children_are_counted}
use Rattle.shop_meanings.proofs.laws.law_of_the_children.Goals as goal

pub returns : goal.returns
returns c = children_are_counted
