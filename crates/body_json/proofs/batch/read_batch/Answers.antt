use Rattle.std.proofs.lemmas.Result.{IfOk-weaker}
use Rattle.body_json.proofs.EachOperation.{have_ids, have_names}
use Rattle.body_json.proofs.batch.read_batch.Goals as goal

pub returns-clause-ids : goal.returns-clause-ids
returns-clause-ids c = IfOk-weaker c.read_value.result _ _ have_ids c.read_value.ensures.well_formed

pub returns-clause-names : goal.returns-clause-names
returns-clause-names c = IfOk-weaker c.read_value.result _ _ have_names c.read_value.ensures.well_formed
