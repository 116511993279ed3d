use Rattle.paged.proofs.Places.{counted_at, counted_gap}
use Rattle.paged.proofs.search.count_up_to.Goals as goal

pub returns-in-Ok : goal.returns-in-Ok
returns-in-Ok g c = counted_at g.K.Ord.cmp g.met.K.Ord.total _ _ _ c.requires c.in-Ok.ensures.found

pub returns-in-Err : goal.returns-in-Err
returns-in-Err g c = counted_gap g.K.Ord.cmp _ _ _ c.in-Err.ensures.absent
