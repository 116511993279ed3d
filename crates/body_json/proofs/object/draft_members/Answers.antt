use Rattle.std.proofs.Common.{Some, sym, ap, ◌∙◌}
use Rattle.serde_json.specs.View.{members_view}
use Rattle.body_json.specs.Shapes.{entity_in}
use Rattle.body_json.proofs.ObjectSteps.{no_entity, not_there, is_there, no_root, beside_root, draft_whole}
use Rattle.body_json.proofs.Steps.{named}
use Rattle.body_json.proofs.object.draft_members.Goals as goal

pub returns-then-not-is_text : goal.returns-then-not-is_text
returns-then-not-is_text c =
    let ms = members_view c.args.members.entries in
    named _ _ _ (no_entity ms (not_there ms (entity_in ms) (sym c.if-not-is_text.true ∙ c.is_text.ensures))) c.wrong_name.ensures

pub returns-in_default : goal.returns-in_default
returns-in_default c =
    let ms = members_view c.args.members.entries in
    let there = is_there ms (entity_in ms) (sym c.if-not-is_text.false ∙ c.is_text.ensures) in
    named _ _ _ (no_root ms there.0 there.1 c.in_default.ensures) c.wrong_name-in_default.ensures

pub returns-in-Some-other_member : goal.returns-in-Some-other_member
returns-in-Some-other_member c =
    let ms = members_view c.args.members.entries in
    let there = is_there ms (entity_in ms) (sym c.if-not-is_text.false ∙ c.is_text.ensures) in
    named _ _ _ (beside_root ms there.0 there.1 _ c.in-Some.ensures _ c.in-Some-other_member.ensures) c.wrong_name-in-Some-other_member.ensures

pub returns-in-Some-take_text : goal.returns-in-Some-take_text
returns-in-Some-take_text c =
    let ms = members_view c.args.members.entries in
    draft_whole ms _ (ap Some c.from_string.ensures ∙ c.in-Some-take_text.ensures.value) _ c.in-Some.ensures c.in_default-other_member.ensures
