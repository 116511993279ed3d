use Rattle.std.proofs.Common.{◌≡◌, length}
use Rattle.cart_price.specs.Lent.{lent_rows}
use Rattle.cart_process.specs.Offers.{is_given_text}
use Rattle.cart_process.proofs.offers.is_among.Given as goal

abbrev pub invariant-loop-rest : goal.invariant-loop-rest
invariant-loop-rest l = is_given_text (lent_rows l.rest) l.text ≡ is_given_text (lent_rows l.codes) l.text

abbrev pub decreases-loop-rest : goal.decreases-loop-rest
decreases-loop-rest l = length l.rest
