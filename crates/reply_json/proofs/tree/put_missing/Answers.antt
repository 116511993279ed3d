use Rattle.std.proofs.Common.{append_assoc}
use Rattle.reply_json.proofs.tree.put_missing.Goals as goal

pub returns : goal.returns
returns c = simp (c.in_ok-key_member.ensures, c.in_ok-front_member.ensures, c.in_ok-text_member.ensures, c.in_ok-begin_object.ensures, append_assoc) at c.end_object.ensures
