use Rattle.std.proofs.Common.{◌<◌, length, sym, arith, subst}
use Rattle.std.proofs.lemmas.List.{length-map}
use Rattle.paged.specs.Pairs.{pair_by}
use Rattle.paged.specs.Edited.{IsEdited}
use Rattle.paged.proofs.Edits.{edited_set, edited_remove}
use Rattle.paged.proofs.editing.edit_found.Goals as goal

pub returns-in-Ok-clause-done : goal.returns-in-Ok-clause-done
returns-in-Ok-clause-done g c = rw (c.in-Some.is, ← c.in-Ok.ensures) (edited_set g.K.Ord.cmp g.met.K.Ord.total g.C.Leaf.leaf_value c.page.inside.entries.items c.args.page.now c.args.key c.in-Ok.shared c.args.at c.page.view_is c.requires.order c.requires.found (omega (arith, c.if-at-eq0.false)))

pub returns-else-len-le-LEAST-clause-done : goal.returns-else-len-le-LEAST-clause-done
returns-else-len-le-LEAST-clause-done g c =
    let size : 16 < length c.args.page.now = rw (← c.page.view_is, length-map) (omega (arith, c.if-len-le-LEAST.false, c.len.ensures)) in
    rw (c.in-None.is, c.remove.ensures.items) (edited_remove g.K.Ord.cmp g.met.K.Ord.total g.C.Leaf.leaf_value c.page.inside.entries.items c.args.page.now c.args.key c.args.at c.page.view_is c.requires.order c.requires.found (omega (arith, c.if-at-eq0.false)) size)
