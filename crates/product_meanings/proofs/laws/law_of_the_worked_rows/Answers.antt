use Rattle.product_meanings.proofs.Worked.{shirts_are_sold}
use Rattle.product_meanings.proofs.laws.law_of_the_worked_rows.Goals as goal

pub returns : goal.returns
returns c = shirts_are_sold
