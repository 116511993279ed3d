use Rattle.std.proofs.Common.{◌≡◌}
use Rattle.serde_json.specs.View.{members_view}
use Rattle.body_json.specs.Objects.{names_of}
use Rattle.body_json.specs.Shapes.{unknown}
use Rattle.body_json.proofs.object.other_member.Given as goal

abbrev pub invariant-loop-name : goal.invariant-loop-name
invariant-loop-name l =
    (goal.iterator-loop-name).can_next l.name-iterator ×
    (goal.iterator-loop-name).is_finite l.name-iterator ×
    (unknown (names_of l.form) (members_view l.members.entries) ≡ unknown (names_of l.form) (members_view l.name-iterator))
