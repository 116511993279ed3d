use Rattle.std.proofs.Common.{append_assoc}
use Rattle.cart_json.proofs.cart.put_line.Goals as goal

pub returns : goal.returns
returns c =
    simp
    (c.in_ok-number_member-2.ensures, c.in_ok-number_member.ensures, c.in_ok-count_member-2.ensures, c.in_ok-count_member.ensures, c.in_ok-id_member-2.ensures, c.in_ok-id_member.ensures, c.in_ok-begin_object.ensures, c.from.ensures, c.from-2.ensures, append_assoc)
    at c.end_object.ensures
