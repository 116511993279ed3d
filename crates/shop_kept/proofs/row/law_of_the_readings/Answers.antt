use Rattle.shop_kept.proofs.Rows.{spellings_are_read, nothing_else_is_read}
use Rattle.shop_kept.proofs.row.law_of_the_readings.Goals as goal

pub returns-clause-read : goal.returns-clause-read
returns-clause-read c = spellings_are_read

pub returns-clause-nothing_else : goal.returns-clause-nothing_else
returns-clause-nothing_else c = nothing_else_is_read
