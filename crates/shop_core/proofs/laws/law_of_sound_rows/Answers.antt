use Rattle.shop_core.proofs.Sound.{rows_stay_sound}
use Rattle.shop_core.proofs.laws.law_of_sound_rows.Goals as goal

pub returns : goal.returns
returns c = rows_stay_sound
