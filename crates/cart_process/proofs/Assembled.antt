-- The parts of a round's cart are the cart.
use Rattle.std.proofs.Common.{◌≡◌, ℕ, ℤ, List, ◌++◌, refl}
use Rattle.cart_price.specs.declared.priced.Block.{Block}
use Rattle.cart_price.specs.declared.priced.PricedLine.{PricedLine}
use Rattle.cart_price.specs.declared.priced.TaxState.{TaxState}
use Rattle.cart_price.specs.declared.priced.TaxSum.{TaxSum}
use Rattle.cart_price.specs.Lent.{CartRows}
use Rattle.cart_sums.specs.Positions.{tax_sums}
use Rattle.cart_process.specs.declared.goods.Goods.{Goods}
use Rattle.cart_process.specs.declared.sending.Sending.{Sending}
use Rattle.cart_process.specs.Priced.{blocked_by, blocks_by, cart_of, goods_of, lines_by, positions_of, priced, sending_of}
use Rattle.cart_process.specs.Words.{mode_of, state_of}
use Rattle.cart_process.proofs.Carts.{blocks_by-priced, lines_by-priced}

pub assembled : (rows : CartRows) (moment : ℤ) (rules : List ℕ) (state : TaxState) (goods : Goods) (sending : Sending) (taxes : List TaxSum) (lines : List PricedLine) (blocks : List Block)
    → state ≡ state_of rows.cart → goods ≡ goods_of state moment rules rows → sending ≡ sending_of state moment rules rows goods.measures
    → taxes ≡ tax_sums state (mode_of rows.cart) (positions_of goods sending)
    → lines ≡ lines_by rows.lines goods.prices → blocks ≡ blocks_by rows.lines goods.prices ++ blocked_by rows.cart.key.id sending.cause
    → cart_of rows state lines blocks goods sending taxes ≡ priced rows moment rules
unfolding priced
assembled rows moment rules state goods sending taxes lines blocks is_state is_goods is_sending is_taxes is_lines is_blocks =
    rw (is_blocks, is_lines, is_taxes, is_sending, is_goods, is_state, lines_by-priced (state_of rows.cart) rules rows.lines, blocks_by-priced (state_of rows.cart) rules rows.lines) refl
