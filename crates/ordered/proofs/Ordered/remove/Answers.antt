use Rattle.std.proofs.Common.{ap, ◌∙◌, sym}
use Rattle.keyed.specs.Keyed.{without}
use Rattle.keyed.proofs.Places.{without_gap}
use Rattle.keyed.proofs.Edits.{remove_takes}
use Rattle.ordered.specs.Held.{Held}
use Rattle.ordered.proofs.Ordered.remove.Goals as goal

pub invariant_of-self : goal.invariant_of-self
invariant_of-self g c = let same = ap (λ (h : Held g.row.T.Denot). h.list) c.self.view_is in rw c.remove.ensures.items (remove_takes g.T.Key.Ord.cmp g.T.Entry.key_of g.met.T.Key.Ord.total c.self.inside.items.items c.self.invariant c.args.key.now c.in-Ok.at (rw same c.in-Ok.ensures.found)).order

pub returns-in-Ok-clause-list : goal.returns-in-Ok-clause-list
returns-in-Ok-clause-list g c = let same = ap (λ (h : Held g.row.T.Denot). h.list) c.self.view_is in c.remove.ensures.items ∙ (remove_takes g.T.Key.Ord.cmp g.T.Entry.key_of g.met.T.Key.Ord.total c.self.inside.items.items c.self.invariant c.args.key.now c.in-Ok.at (rw same c.in-Ok.ensures.found)).list ∙ ap (λ l. without g.T.Key.Ord.cmp g.T.Entry.key_of l c.args.key.now) same

pub returns-in-Err-clause-list : goal.returns-in-Err-clause-list
returns-in-Err-clause-list g c = sym (without_gap g.T.Key.Ord.cmp g.T.Entry.key_of _ _ _ c.in-Err.ensures.absent)
