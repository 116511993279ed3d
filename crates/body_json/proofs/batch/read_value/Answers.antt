use Rattle.std.proofs.Common.{arith}
use Rattle.serde_json.specs.View.{view}
use Rattle.body_json.proofs.Lengths.{batch_whole, batch_wrong, batch_none}
use Rattle.body_json.proofs.Steps.{named}
use Rattle.body_json.proofs.batch.read_value.Goals as goal
use Rattle.body_json.proofs.batch.read_value.Goals.{in_default-via-in-Some+else-is_count, in_default-via-in_default}

pub returns-in-Some-clause-answer : goal.returns-in-Some-clause-answer
returns-in-Some-clause-answer c =
    let whole = batch_whole c.in-Some.values.items c.len.result (view c.args.value) c.in-Some.ensures (omega arith) c.if-is_count.ensures.value in
    rw whole c.read_elements.ensures.answer

pub returns-in_default-clause-answer : goal.returns-in_default-clause-answer
returns-in_default-clause-answer c =
    elim c.in_default.branch [
      | in_default-via-in-Some+else-is_count w ↦
          named _ _ _ (batch_wrong w.in-Some.values.items w.len.result (view c.args.value) w.in-Some.ensures (omega arith) w.if-is_count.ensures.value) c.wrong_body.ensures
      | in_default-via-in_default w ↦ named _ _ _ (batch_none (view c.args.value) w.in_default.ensures) c.wrong_body.ensures
    ]
