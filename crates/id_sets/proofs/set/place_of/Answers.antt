use Rattle.std.specs.Ordering.{nat_cmp}
use Rattle.std.proofs.lemmas.Cmp.{nat_cmp_total}
use Rattle.keyed.proofs.Places.{searched}
use Rattle.id_sets.specs.Sets.{itself}
use Rattle.id_sets.proofs.set.place_of.Goals as goal

pub returns : goal.returns
returns c = searched nat_cmp itself nat_cmp_total _ _ _ c.requires c.binary_search.ensures.bound c.binary_search.ensures.position
