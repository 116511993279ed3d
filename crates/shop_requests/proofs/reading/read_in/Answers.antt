use Rattle.std.proofs.Common.{sym, ◌∙◌, arith}
use Rattle.shop_requests.proofs.GivenFields.{read_in_given, read_in_missing}
use Rattle.shop_requests.proofs.reading.read_in.Goals as goal
use Rattle.shop_requests.proofs.reading.read_in.Goals.{in-Some+in_ok-push, in_default}

pub loop-info-preserved : goal.loop-info-preserved
loop-info-preserved c =
    elim c.match-branch-3.branch [
      | in-Some+in_ok-push w ↦
          let more = read_in_given c.args.table.now c.args.fields.now c.loop-info.info-index _ w.in-Some.field (omega arith) (sym w.in-Some.is ∙ c.in_ok-field.ensures) in
          cc (more, w.in_ok-push.ensures.ok)
      | in_default w ↦
          let more = read_in_missing c.args.table.now c.args.fields.now c.loop-info.info-index _ (omega arith) (sym w.in_default.is ∙ c.in_ok-field.ensures) in
          cc more
    ]
