use Rattle.id_sets.proofs.Sets.{sorted_once}
use Rattle.id_sets.proofs.set.Ids.from_vec.Goals as goal

pub invariant_of-result : goal.invariant_of-result
invariant_of-result c = (sorted_once _ _ _ c.sort_unstable.ensures.permutation c.sort_unstable.ensures.sorted c.dedup.ensures.filtered).ascends

pub returns-clause-same : goal.returns-clause-same
returns-clause-same c = (sorted_once _ _ _ c.sort_unstable.ensures.permutation c.sort_unstable.ensures.sorted c.dedup.ensures.filtered).same

pub returns-clause-ascends : goal.returns-clause-ascends
returns-clause-ascends c = (sorted_once _ _ _ c.sort_unstable.ensures.permutation c.sort_unstable.ensures.sorted c.dedup.ensures.filtered).ascends
