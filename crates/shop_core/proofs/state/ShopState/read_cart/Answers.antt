use Rattle.shop_core.proofs.SoundCarts.{sound_rows}
use Rattle.shop_core.proofs.state.ShopState.read_cart.Goals as goal

pub settle-requires-clause-rows : goal.settle-requires-clause-rows
settle-requires-clause-rows g c = sound_rows c.self.inside.rows.list c.self.invariant.sound
