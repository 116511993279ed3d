use Rattle.std.proofs.Common.{append_assoc}
use Rattle.cart_json.proofs.cart.put_method.Goals as goal

pub returns : goal.returns
returns c =
    simp
    (c.in_ok-count_member.ensures, c.in_ok-id_member.ensures, c.in_ok-number_member.ensures, c.in_ok-begin_object.ensures, c.from.ensures, append_assoc)
    at c.end_object.ensures
