use Rattle.paged.proofs.Places.{ascends_map, above_is, above_isnt}
use Rattle.paged.proofs.sheet.Sheet.above.Goals as goal

pub count_up_to-requires : goal.count_up_to-requires
count_up_to-requires g c = rw c.as_slice.ensures.value (ascends_map g.K.Ord.cmp g.C.Leaf.leaf_value _ (rw c.self.view_is c.requires))

pub returns-in-Some : goal.returns-in-Some
returns-in-Some g c =
    let found = rw c.deref.ensures.value at c.in-Some.ensures.lookup in
    rw (← c.self.view_is) (above_is g.K.Ord.cmp g.C.Leaf.leaf_value c.self.inside.entries.items c.args.key.now c.count_up_to.result c.in-Some.field-0.now c.value.result.now (rw c.as_slice.ensures.value at c.count_up_to.ensures.above) found.3.0 found.1 c.value.ensures)

pub returns-in-None : goal.returns-in-None
returns-in-None g c =
    let found = rw c.deref.ensures.value at c.in-None.ensures.lookup in
    rw (← c.self.view_is) (above_isnt g.K.Ord.cmp g.C.Leaf.leaf_value c.self.inside.entries.items c.args.key.now c.count_up_to.result (rw c.as_slice.ensures.value at c.count_up_to.ensures.above) found.3)
