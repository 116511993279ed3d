use Rattle.shop_order.proofs.FieldNumbers.{of_the_tables}
use Rattle.shop_order.proofs.laws.law_of_the_tables.Goals as goal

pub returns : goal.returns
returns c = of_the_tables
