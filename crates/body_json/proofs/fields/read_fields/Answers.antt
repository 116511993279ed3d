use Rattle.std.proofs.Common.{◌≡◌, rules, sym, subst}
use Rattle.serde_json.specs.View.{members_view}
use Rattle.body_json.specs.WellFormed.{NamesAscend}
use Rattle.body_json.specs.Shapes.{given}
use Rattle.body_json.proofs.FieldNames.{names_ascend}
use Rattle.body_json.proofs.fields.read_fields.Goals as goal

pub returns-clause-names : goal.returns-clause-names
returns-clause-names c =
    let is : c.loop-name.fields ≡ given (members_view c.args.members.entries) = search rules in
    subst NamesAscend (sym is) (names_ascend c.args.members.entries (c.into_iter-name-iterator.ensures.into_iter_gives.5))
