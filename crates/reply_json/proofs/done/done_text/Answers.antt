use Rattle.std.proofs.Common.{FitsSigned, w64}
use Rattle.std.proofs.lemmas.Int.{to_z-of_z}
use Rattle.reply_json.specs.RowReplies.{done_data}
use Rattle.reply_json.proofs.Printed.{printed}
use Rattle.reply_json.proofs.done.done_text.Goals as goal

pub returns : goal.returns
returns c =
    let fits : FitsSigned w64 c.args.value = c.ranges.value in
    printed (done_data c.args.front c.args.value) _ _ _ c.in_ok-out.ensures (simp to_z-of_z at c.in_ok-put_done.ensures) c.finish.ensures
