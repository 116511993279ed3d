use Rattle.shop_core.proofs.SoundCarts.{sound_rows}
use Rattle.shop_core.proofs.laws.law_of_cart_rows.Goals as goal

pub returns : goal.returns
returns c = sound_rows
