use Rattle.std.proofs.Common.{ap, ◌∙◌}
use Rattle.keyed.specs.Keyed.{put}
use Rattle.keyed.proofs.Edits.{set_puts, insert_puts}
use Rattle.ordered.specs.Held.{Held}
use Rattle.ordered.proofs.Ordered.put_in_room.Goals as goal

pub invariant_of-self : goal.invariant_of-self
invariant_of-self g c = let same = ap (λ (h : Held g.row.T.Denot). h.list) c.self.view_is in (set_puts g.T.Key.Ord.cmp g.T.Entry.key_of g.met.T.Key.Ord.total c.self.inside.items.items c.self.invariant c.args.item c.in-Ok.at (rw (same, ← c.key.ensures) c.in-Ok.ensures.found)).order

pub returns-in-Ok-clause-list : goal.returns-in-Ok-clause-list
returns-in-Ok-clause-list g c = let same = ap (λ (h : Held g.row.T.Denot). h.list) c.self.view_is in (set_puts g.T.Key.Ord.cmp g.T.Entry.key_of g.met.T.Key.Ord.total c.self.inside.items.items c.self.invariant c.args.item c.in-Ok.at (rw (same, ← c.key.ensures) c.in-Ok.ensures.found)).list ∙ ap (λ l. put g.T.Key.Ord.cmp g.T.Entry.key_of l c.args.item) same

pub invariant_of-self-in-Err : goal.invariant_of-self-in-Err
invariant_of-self-in-Err g c = let same = ap (λ (h : Held g.row.T.Denot). h.list) c.self.view_is in rw c.insert_in_room.ensures.items (insert_puts g.T.Key.Ord.cmp g.T.Entry.key_of g.met.T.Key.Ord.total c.self.inside.items.items c.self.invariant c.args.item c.in-Err.at (rw (same, ← c.key.ensures) c.in-Err.ensures.absent)).order

pub returns-clause-list : goal.returns-clause-list
returns-clause-list g c = let same = ap (λ (h : Held g.row.T.Denot). h.list) c.self.view_is in c.insert_in_room.ensures.items ∙ (insert_puts g.T.Key.Ord.cmp g.T.Entry.key_of g.met.T.Key.Ord.total c.self.inside.items.items c.self.invariant c.args.item c.in-Err.at (rw (same, ← c.key.ensures) c.in-Err.ensures.absent)).list ∙ ap (λ l. put g.T.Key.Ord.cmp g.T.Entry.key_of l c.args.item) same
