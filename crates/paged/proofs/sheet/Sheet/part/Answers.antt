use Rattle.std.proofs.Common.{◌≡◌, ◌+◌, ◌-◌, arith}
use Rattle.paged.proofs.Places.{ascends_map, part_is}
use Rattle.paged.proofs.sheet.Sheet.part.Goals as goal

pub count_up_to-count-requires : goal.count_up_to-count-requires
count_up_to-count-requires g c = rw c.as_slice.ensures.value (ascends_map g.K.Ord.cmp g.C.Leaf.leaf_value _ (rw c.self.view_is c.requires))

pub returns : goal.returns
returns g c =
    let n = c.count_up_to-count.result - 1 in
    let is : c.count_up_to-count.result ≡ n + 1 = omega (arith, c.if-count-eq0.false) in
    rw (← c.self.view_is) (part_is g.K.Ord.cmp g.C.Leaf.leaf_value c.self.inside.entries.items c.args.key.now c.index.result.now c.value.result.now n (rw c.as_slice.ensures.value at (c.count_up_to-count.ensures.part n c.index.result.now is)) c.index.ensures c.value.ensures)
