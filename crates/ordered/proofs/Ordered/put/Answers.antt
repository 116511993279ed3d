use Rattle.std.proofs.Common.{ap, ◌≡◌, ◌∙◌, None, arith, rules}
use Rattle.keyed.specs.Keyed.{find, put}
use Rattle.keyed.proofs.Places.{find_gap}
use Rattle.keyed.proofs.Edits.{set_puts, insert_puts}
use Rattle.ordered.specs.Held.{Held}
use Rattle.ordered.proofs.Ordered.put.Goals as goal

pub invariant_of-self : goal.invariant_of-self
invariant_of-self g c = let same = ap (λ (h : Held g.row.T.Denot). h.list) c.self.view_is in (set_puts g.T.Key.Ord.cmp g.T.Entry.key_of g.met.T.Key.Ord.total c.self.inside.items.items c.self.invariant c.args.item c.in-Ok.at (rw (same, ← c.key.ensures) c.in-Ok.ensures.found)).order

pub returns-in-Ok-clause-ok : goal.returns-in-Ok-clause-ok
returns-in-Ok-clause-ok g c = let same = ap (λ (h : Held g.row.T.Denot). h.list) c.self.view_is in (set_puts g.T.Key.Ord.cmp g.T.Entry.key_of g.met.T.Key.Ord.total c.self.inside.items.items c.self.invariant c.args.item c.in-Ok.at (rw (same, ← c.key.ensures) c.in-Ok.ensures.found)).list ∙ ap (λ l. put g.T.Key.Ord.cmp g.T.Entry.key_of l c.args.item) same

pub invariant_of-self-in-Err : goal.invariant_of-self-in-Err
invariant_of-self-in-Err g c = let same = ap (λ (h : Held g.row.T.Denot). h.list) c.self.view_is in rw c.in_ok-insert-in-Err.ensures.items (insert_puts g.T.Key.Ord.cmp g.T.Entry.key_of g.met.T.Key.Ord.total c.self.inside.items.items c.self.invariant c.args.item c.in-Err.at (rw (same, ← c.key.ensures) c.in-Err.ensures.absent)).order

pub returns-clause-ok : goal.returns-clause-ok
returns-clause-ok g c = let same = ap (λ (h : Held g.row.T.Denot). h.list) c.self.view_is in c.in_ok-insert-in-Err.ensures.items ∙ (insert_puts g.T.Key.Ord.cmp g.T.Entry.key_of g.met.T.Key.Ord.total c.self.inside.items.items c.self.invariant c.args.item c.in-Err.at (rw (same, ← c.key.ensures) c.in-Err.ensures.absent)).list ∙ ap (λ l. put g.T.Key.Ord.cmp g.T.Entry.key_of l c.args.item) same

pub returns-in_err-insert-in-Err-clause-wanted : goal.returns-in_err-insert-in-Err-clause-wanted
returns-in_err-insert-in-Err-clause-wanted g c =
    let room = ap (λ (h : Held g.row.T.Denot). h.spare) c.self.view_is in
    let full : c.args.self.now.spare ≡ 0 = omega (arith, room, c.in_err-insert-in-Err.ensures.full) in
    let absent : find g.T.Key.Ord.cmp g.T.Entry.key_of c.args.self.now.list (g.T.Entry.key_of c.args.item) ≡ None = (rw (← c.key.ensures) (find_gap g.T.Key.Ord.cmp g.T.Entry.key_of c.args.self.now.list c.key.result c.in-Err.at c.in-Err.ensures.absent)) in
    search (rules, full, absent)
