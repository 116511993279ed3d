use Rattle.shop_operations.proofs.Fields.{rows_take_what_is_given}
use Rattle.shop_operations.proofs.laws.law_of_the_given_row.Goals as goal

pub returns : goal.returns
returns c = rows_take_what_is_given
