use Rattle.std.proofs.Common.{sym}
use Rattle.paged.proofs.Places.{ascends_map}
use Rattle.paged.proofs.Edits.{at_seen, gap_seen}
use Rattle.paged.proofs.editing.edit_page.Goals as goal

pub search-requires : goal.search-requires
search-requires g c = rw c.as_slice.ensures.value (ascends_map g.K.Ord.cmp g.C.Leaf.leaf_value _ (rw c.page.view_is c.requires))

pub edit_found-requires-clause-found : goal.edit_found-requires-clause-found
edit_found-requires-clause-found g c = rw (← c.page.view_is) (at_seen g.K.Ord.cmp g.C.Leaf.leaf_value c.page.inside.entries.items c.args.key c.in-Ok.at (rw c.as_slice.ensures.value at c.in-Ok.ensures.found))

pub edit_absent-requires-clause-absent : goal.edit_absent-requires-clause-absent
edit_absent-requires-clause-absent g c = rw (← c.page.view_is) (gap_seen g.K.Ord.cmp g.C.Leaf.leaf_value c.page.inside.entries.items c.args.key c.in-Err.at (rw c.as_slice.ensures.value at c.in-Err.ensures.absent))
