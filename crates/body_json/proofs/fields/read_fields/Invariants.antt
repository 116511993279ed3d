use Rattle.std.proofs.Common.{◌≡◌, ◌++◌}
use Rattle.serde_json.specs.View.{members_view}
use Rattle.body_json.specs.Shapes.{given}
use Rattle.body_json.proofs.fields.read_fields.Given as goal

abbrev pub invariant-loop-name : goal.invariant-loop-name
invariant-loop-name l = l.fields ++ given (members_view l.name-iterator) ≡ given (members_view l.fn.members.entries)
