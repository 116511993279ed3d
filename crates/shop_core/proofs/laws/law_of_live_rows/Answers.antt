use Rattle.shop_core.proofs.LiveRows.{live_rows_are_replaced}
use Rattle.shop_core.proofs.laws.law_of_live_rows.Goals as goal

pub returns : goal.returns
returns c = live_rows_are_replaced
