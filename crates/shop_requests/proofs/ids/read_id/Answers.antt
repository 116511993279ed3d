use Rattle.std.proofs.Common.{sym}
use Rattle.shop_requests.proofs.IdTexts.{digits_print}
use Rattle.shop_requests.proofs.ids.read_id.Goals as goal

pub returns-else-id-eq0-clause-prints : goal.returns-else-id-eq0-clause-prints
returns-else-id-eq0-clause-prints c =
    rw c.number_of-id.ensures (digits_print c.args.text.now c.if-text-ne-DIGITS.false (sym c.if-not-has_id_digits.ensures))
