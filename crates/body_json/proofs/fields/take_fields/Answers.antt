use Rattle.std.proofs.Common.{sym, subst}
use Rattle.body_json.specs.WellFormed.{NamesAscend}
use Rattle.body_json.proofs.FieldNames.{none_ascend}
use Rattle.body_json.proofs.fields.take_fields.Goals as goal

pub returns-then-eq-clause-names : goal.returns-then-eq-clause-names
returns-then-eq-clause-names c = subst NamesAscend (sym c.new.ensures) none_ascend

pub returns-in-None-clause-names : goal.returns-in-None-clause-names
returns-in-None-clause-names c = subst NamesAscend (sym c.new-in-None.ensures) none_ascend
