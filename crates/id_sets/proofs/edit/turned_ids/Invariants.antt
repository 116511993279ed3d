use Rattle.std.proofs.Common.{◌≡◌, take, filter}
use Rattle.id_sets.specs.Sets.{is_turned}
use Rattle.id_sets.proofs.edit.turned_ids.Given as goal

abbrev pub invariant-loop-id : goal.invariant-loop-id
invariant-loop-id g l = l.turned.items ≡ filter (is_turned l.old (g.P.Pick.picks l.pick)) (take l.id-index l.ids)
