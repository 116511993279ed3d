use Rattle.std.proofs.Common.{append_assoc}
use Rattle.reply_json.proofs.product.put_members.Goals as goal

pub returns : goal.returns
returns c = simp (c.in_ok-put_ids.ensures, c.in_ok-begin_array.ensures, c.in_ok-name.ensures, c.in_ok-front_member.ensures, c.in_ok-begin_object.ensures, append_assoc) at c.end_object.ensures
