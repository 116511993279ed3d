use Rattle.shop_soundness.proofs.Kept.{batches_keep_rows}
use Rattle.shop_soundness.proofs.Made.{batches_make_up_nothing}
use Rattle.shop_soundness.proofs.Outcomes.{batches_leave}
use Rattle.shop_soundness.proofs.Sound.{batches_keep_coherence}
use Rattle.shop_soundness.proofs.law_of_the_batches.Goals as goal

pub returns : goal.returns
returns c = record { coherent = batches_keep_coherence; formed = batches_keep_rows; origins = batches_make_up_nothing; outcomes = batches_leave }
