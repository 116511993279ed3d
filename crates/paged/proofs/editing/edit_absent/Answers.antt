use Rattle.std.proofs.Common.{◌<◌, length, arith}
use Rattle.std.proofs.lemmas.List.{length-map}
use Rattle.paged.proofs.Edits.{edited_insert, edited_none}
use Rattle.paged.proofs.editing.edit_absent.Goals as goal

pub returns-in-None-clause-done : goal.returns-in-None-clause-done
returns-in-None-clause-done g c = rw c.in-None.is (edited_none g.K.Ord.cmp g.met.K.Ord.total c.args.page.now c.args.key c.args.at c.requires.absent)

pub returns-in-Ok-insert-clause-done : goal.returns-in-Ok-insert-clause-done
returns-in-Ok-insert-clause-done g c =
    let room : length c.args.page.now < 64 = rw (← c.page.view_is, length-map) (omega (arith, c.if-len-ge-MOST.false, c.len.ensures)) in
    rw (c.in-Some.is, ← c.in-Ok.ensures, c.in-Ok-insert.ensures.items) (edited_insert g.K.Ord.cmp g.met.K.Ord.total g.C.Leaf.leaf_value c.page.inside.entries.items c.args.page.now c.args.key c.in-Ok.shared c.args.at c.page.view_is c.requires.order c.requires.absent (omega (arith, c.if-at-eq0.false)) room)
