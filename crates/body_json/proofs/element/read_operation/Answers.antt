use Rattle.std.proofs.Common.{◌∙◌, Some, sym, ap}
use Rattle.serde_json.specs.View.{members_view}
use Rattle.body_json.proofs.Steps as step
use Rattle.body_json.proofs.element.read_operation.Goals as goal

pub returns-in_default-clause-answer : goal.returns-in_default-clause-answer
returns-in_default-clause-answer c = step.named _ _ _ (step.wrong_kind _ _ c.in_default.ensures) c.wrong_member.ensures

pub returns-in_default-take_text-clause-answer : goal.returns-in_default-take_text-clause-answer
returns-in_default-take_text-clause-answer c =
    step.named _ _ _ (step.wrong_entity _ _ _ c.in-Some.ensures c.in_default-take_text.ensures.value) c.wrong_member-in_default-take_text.ensures

pub returns-in_default-read_row_id-clause-answer : goal.returns-in_default-read_row_id-clause-answer
returns-in_default-read_row_id-clause-answer c =
    let id = step.id_whole (members_view c.args.members.entries) (members_view c.take_text.new.members.entries) c.take_text.ensures.rest _ c.in_default-read_row_id.ensures in
    step.named _ _ _ (step.wrong_id _ _ _ c.in-Some.ensures _ c.in-Some-take_text.ensures.value id) c.wrong_member-in_default-read_row_id.ensures

pub returns-in_default-read_second-clause-answer : goal.returns-in_default-read_second-clause-answer
returns-in_default-read_second-clause-answer c =
    let id = step.id_whole (members_view c.args.members.entries) (members_view c.take_text.new.members.entries) c.take_text.ensures.rest _ c.in-Some-read_row_id.ensures in
    let second = step.second_whole (members_view c.args.members.entries) (members_view c.take_text.new.members.entries) c.take_text.ensures.rest _ c.in_default-read_second.ensures in
    step.named _ _ _ (step.wrong_second _ _ _ c.in-Some.ensures _ c.in-Some-take_text.ensures.value _ id second) c.wrong_member-in_default-read_second.ensures

pub returns-in_default-2-clause-answer : goal.returns-in_default-2-clause-answer
returns-in_default-2-clause-answer c =
    let id = step.id_whole (members_view c.args.members.entries) (members_view c.take_text.new.members.entries) c.take_text.ensures.rest _ c.in-Some-read_row_id.ensures in
    let second = step.second_whole (members_view c.args.members.entries) (members_view c.take_text.new.members.entries) c.take_text.ensures.rest _ c.in-Some-read_second.ensures in
    let fields = step.fields_whole (members_view c.args.members.entries) (members_view c.take_text.new.members.entries) c.take_text.ensures.rest c.in-Some.kind _ (sym c.in_default-2.is ∙ c.in_ok-fields.ensures.value) in
    step.named _ _ _ (step.wrong_fields _ _ _ c.in-Some.ensures _ c.in-Some-take_text.ensures.value _ id _ second fields) c.wrong_member-in_default-2.ensures

pub returns-in-Some-unknown_member-clause-answer : goal.returns-in-Some-unknown_member-clause-answer
returns-in-Some-unknown_member-clause-answer c =
    let id = step.id_whole (members_view c.args.members.entries) (members_view c.take_text.new.members.entries) c.take_text.ensures.rest _ c.in-Some-read_row_id.ensures in
    let second = step.second_whole (members_view c.args.members.entries) (members_view c.take_text.new.members.entries) c.take_text.ensures.rest _ c.in-Some-read_second.ensures in
    let fields = step.fields_whole (members_view c.args.members.entries) (members_view c.take_text.new.members.entries) c.take_text.ensures.rest c.in-Some.kind _ (sym c.in-Some-2.is ∙ c.in_ok-fields.ensures.value) in
    let name = step.unknown_whole (members_view c.args.members.entries) (members_view c.take_text.new.members.entries) c.take_text.ensures.rest c.in-Some.kind (members_view c.take_fields.new.members.entries) c.in_ok-fields.ensures.rest _ c.in-Some-unknown_member.ensures in
    step.named _ _ _ (step.wrong_name _ _ _ c.in-Some.ensures _ c.in-Some-take_text.ensures.value _ id _ second _ fields _ name) c.wrong_member-in-Some-unknown_member.ensures

pub returns-clause-answer : goal.returns-clause-answer
returns-clause-answer c =
    let id = step.id_whole (members_view c.args.members.entries) (members_view c.take_text.new.members.entries) c.take_text.ensures.rest _ c.in-Some-read_row_id.ensures in
    let second = step.second_whole (members_view c.args.members.entries) (members_view c.take_text.new.members.entries) c.take_text.ensures.rest _ c.in-Some-read_second.ensures in
    let fields = step.fields_whole (members_view c.args.members.entries) (members_view c.take_text.new.members.entries) c.take_text.ensures.rest c.in-Some.kind _ (sym c.in-Some-2.is ∙ c.in_ok-fields.ensures.value) in
    let none = step.unknown_whole (members_view c.args.members.entries) (members_view c.take_text.new.members.entries) c.take_text.ensures.rest c.in-Some.kind (members_view c.take_fields.new.members.entries) c.in_ok-fields.ensures.rest _ c.in_default-unknown_member.ensures in
    step.whole _ _ _ c.in-Some.ensures _ (ap Some c.from_string.ensures ∙ c.in-Some-take_text.ensures.value) _ id _ second _ fields none
