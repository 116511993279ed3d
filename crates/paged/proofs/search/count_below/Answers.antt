use Rattle.std.proofs.Common.{arith}
use Rattle.paged.proofs.Places.{take_at, take_gap, drop_at, drop_gap, from_at, from_gap}
use Rattle.paged.proofs.search.count_below.Goals as goal

pub returns-in-Ok : goal.returns-in-Ok
returns-in-Ok g c = record {
  bound = omega (arith, c.in-Ok.ensures.found.in_range);
  below = take_at g.K.Ord.cmp _ _ _ c.in-Ok.ensures.found;
  others = drop_at g.K.Ord.cmp g.met.K.Ord.total _ _ _ c.requires c.in-Ok.ensures.found;
  from = from_at g.K.Ord.cmp _ _ _ c.in-Ok.ensures.found;
}

pub returns-in-Err : goal.returns-in-Err
returns-in-Err g c = record {
  bound = omega (arith, c.in-Err.ensures.absent.in_range);
  below = take_gap g.K.Ord.cmp _ _ _ c.in-Err.ensures.absent;
  others = drop_gap g.K.Ord.cmp _ _ _ c.in-Err.ensures.absent;
  from = from_gap g.K.Ord.cmp _ _ _ c.in-Err.ensures.absent;
}
