-- What follows for each operation of a batch.
use Rattle.std.proofs.Common.{List, [], ◌∷◌}
use Rattle.std.specs.List.{AllByRecursion}
use Rattle.shop_requests.specs.declared.raw.RawOp.{RawOp}
use Rattle.body_json.specs.WellFormed.{IsWellFormed, HaveIds, HaveAscendingNames}

pub have_ids : (ops : List RawOp) → AllByRecursion IsWellFormed ops → HaveIds ops
have_ids [] all = tt
have_ids (op ∷ ops) all = (all.0.id, have_ids ops all.1)

pub have_names : (ops : List RawOp) → AllByRecursion IsWellFormed ops → HaveAscendingNames ops
have_names [] all = tt
have_names (op ∷ ops) all = (all.0.names, have_names ops all.1)
