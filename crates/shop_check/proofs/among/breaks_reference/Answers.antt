use Rattle.shop_check.proofs.Ones.{references_name_one_part}
use Rattle.shop_check.proofs.among.breaks_reference.Goals as goal

pub is_grounded-requires-clause-one : goal.is_grounded-requires-clause-one
is_grounded-requires-clause-one g c = references_name_one_part

pub is_of_one_tree-requires-clause-one : goal.is_of_one_tree-requires-clause-one
is_of_one_tree-requires-clause-one g c = references_name_one_part
