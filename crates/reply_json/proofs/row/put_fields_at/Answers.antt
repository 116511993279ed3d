use Rattle.std.proofs.Common.{◌∙◌, ◌++◌, ap}
use Rattle.reply_json.specs.RowReplies.{field_tokens}
use Rattle.reply_json.proofs.RowTokens.{next_place}
use Rattle.reply_json.proofs.row.put_fields_at.Goals as goal

pub loop-place-preserved : goal.loop-place-preserved
loop-place-preserved c =
    let put = c.in_ok-put_field.ensures ∙ ap (λ field. c.loop-place.out ++ field_tokens c.args.row.now field) c.at.ensures in
    next_place c.args.row.now c.args.table.now c.args.places.now c.loop-place.place-index c.loop-place.out c.put_field.new.out _ c.loop-place-test.true put c.loop-place.invariant
