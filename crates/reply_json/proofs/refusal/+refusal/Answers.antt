use Rattle.std.proofs.Common.{append_assoc}
use Rattle.reply_json.proofs.refusal.+refusal.Goals as goal

pub put_merge_broken-returns : goal.put_merge_broken-returns
put_merge_broken-returns t c =
    simp (c.in_ok-count_member-2.ensures, c.in_ok-put_broken.ensures, c.in_ok-name.ensures, c.in_ok-text_member.ensures, c.in_ok-count_member.ensures, c.in_ok-begin_object.ensures, append_assoc) at c.end_object.ensures
