use Rattle.shop_soundness.proofs.Kept.{operations_keep_rows}
use Rattle.shop_soundness.proofs.Made.{operations_make_up_nothing}
use Rattle.shop_soundness.proofs.Outcomes.{operations_leave}
use Rattle.shop_soundness.proofs.Sound.{no_rows_are_coherent, operations_keep_coherence}
use Rattle.shop_soundness.proofs.law_of_the_operations.Goals as goal

pub returns : goal.returns
returns c = record { start = no_rows_are_coherent; coherent = operations_keep_coherence; formed = operations_keep_rows; origins = operations_make_up_nothing; outcomes = operations_leave }
