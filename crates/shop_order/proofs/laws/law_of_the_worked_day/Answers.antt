use Rattle.shop_order.proofs.Worked.{the_day}
use Rattle.shop_order.proofs.laws.law_of_the_worked_day.Goals as goal

pub returns : goal.returns
returns c = the_day
