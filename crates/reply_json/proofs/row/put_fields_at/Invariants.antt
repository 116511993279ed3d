use Rattle.std.proofs.Common.{◌≡◌, ◌++◌, drop}
use Rattle.reply_json.specs.FieldOrder.{fields_at}
use Rattle.reply_json.specs.RowReplies.{field_members}
use Rattle.reply_json.specs.Tokens.{rest_of_object}
use Rattle.reply_json.proofs.row.put_fields_at.Given as goal

abbrev pub invariant-loop-place : goal.invariant-loop-place
invariant-loop-place l =
    l.out ++ rest_of_object (field_members l.row (fields_at l.table (drop l.place-index l.places)))
    ≡ l.initial.out ++ rest_of_object (field_members l.row (fields_at l.table l.places))
