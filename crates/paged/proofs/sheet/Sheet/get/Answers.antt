use Rattle.paged.proofs.Places.{ascends_map, get_found, get_absent}
use Rattle.paged.proofs.sheet.Sheet.get.Goals as goal

pub search-requires : goal.search-requires
search-requires g c = rw c.as_slice.ensures.value (ascends_map g.K.Ord.cmp g.C.Leaf.leaf_value _ (rw c.self.view_is c.requires))

pub returns-in-Ok : goal.returns-in-Ok
returns-in-Ok g c = rw (← c.self.view_is) (get_found g.K.Ord.cmp g.C.Leaf.leaf_value c.self.inside.entries.items c.args.key.now c.in-Ok.at c.index.result.now c.value.result.now (rw c.as_slice.ensures.value at c.in-Ok.ensures.found) c.index.ensures c.value.ensures)

pub returns-in-Err : goal.returns-in-Err
returns-in-Err g c = rw (← c.self.view_is) (get_absent g.K.Ord.cmp g.C.Leaf.leaf_value c.self.inside.entries.items c.args.key.now c.in-Err.field-0 (rw c.as_slice.ensures.value at c.in-Err.ensures.absent))
