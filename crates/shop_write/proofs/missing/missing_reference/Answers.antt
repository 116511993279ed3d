use Rattle.shop_write.proofs.OnePart.{references_name_one_part}
use Rattle.shop_write.proofs.missing.missing_reference.Goals as goal

pub least_missing-requires-clause-one : goal.least_missing-requires-clause-one
least_missing-requires-clause-one g c = references_name_one_part
