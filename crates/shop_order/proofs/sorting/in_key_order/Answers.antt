use Rattle.std.proofs.Common.{sym, subst}
use Rattle.keyed.specs.Keyed.{Ascends}
use Rattle.shop_defs.specs.Keys.{key_cmp}
use Rattle.shop_defs.specs.Joined.{change_key}
use Rattle.shop_order.proofs.sorting.in_key_order.Goals as goal

pub returns-clause-ascend : goal.returns-clause-ascend
returns-clause-ascend c = subst (Ascends key_cmp change_key) (sym c.from_vec.ensures) c.into_vec.ensures.ascends
