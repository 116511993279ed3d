use Rattle.std.proofs.Common.{◌≡◌, ◌∙◌, ◌==◌, ℕ, List, true, filter, length, sym, ap, subst}
use Rattle.std.specs.Prelude.{fold}
use Rattle.id_sets.specs.Sets.{AreAscending, has, is_turned, turn}
use Rattle.id_sets.proofs.Sets.{edited_none, edited_some, filter_ascends, fold_ascends}
use Rattle.id_sets.proofs.edit.edited.Goals as goal

pub returns-then-is_empty-clause-has : goal.returns-then-is_empty-clause-has
returns-then-is_empty-clause-has g c =
    edited_none c.args.old.now c.args.ids.now c.in_ok-turned.turned.items (g.P.Pick.picks c.args.pick.now) c.as_slice-before.ensures.ascends c.as_slice-looked_at.ensures.ascends
    (c.in_ok-turned.ensures ∙ ap (filter (is_turned c.args.old.now (g.P.Pick.picks c.args.pick.now))) c.as_slice-looked_at.ensures.ids)
    (ap (λ (ids : List ℕ). length ids == 0) (sym c.as_slice-coming.ensures.value) ∙ sym c.if-is_empty.ensures)

pub turned_over-requires-clause-turned : goal.turned_over-requires-clause-turned
turned_over-requires-clause-turned g c =
    let e = c.as_slice-coming.ensures.value ∙ (c.in_ok-turned.ensures ∙ ap (filter (is_turned c.args.old.now (g.P.Pick.picks c.args.pick.now))) c.as_slice-looked_at.ensures.ids) in
    subst AreAscending (sym e) (filter_ascends (is_turned c.args.old.now (g.P.Pick.picks c.args.pick.now)) c.args.ids.now c.as_slice-looked_at.ensures.ascends)

pub from_ascending-requires : goal.from_ascending-requires
from_ascending-requires g c =
    let before = c.as_slice-before.ensures.ids in
    let f : c.in_ok-all.all.items ≡ fold turn c.args.old.now c.as_slice-coming.result.now = c.in_ok-all.ensures ∙ ap (λ (ids : List ℕ). fold turn ids c.as_slice-coming.result.now) before in
    subst AreAscending (sym f) (fold_ascends c.as_slice-coming.result.now c.args.old.now c.as_slice-before.ensures.ascends)

pub returns-clause-has : goal.returns-clause-has
returns-clause-has g c =
    let before = c.as_slice-before.ensures.ids in
    let f : c.in_ok-all.all.items ≡ fold turn c.args.old.now c.in_ok-turned.turned.items = c.in_ok-all.ensures ∙ (λ i. fold turn (before i) (c.as_slice-coming.ensures.value i)) in
    let law = edited_some c.args.old.now c.args.ids.now c.in_ok-turned.turned.items c.in_ok-all.all.items (g.P.Pick.picks c.args.pick.now) c.as_slice-before.ensures.ascends c.as_slice-looked_at.ensures.ascends
    (c.in_ok-turned.ensures ∙ ap (filter (is_turned c.args.old.now (g.P.Pick.picks c.args.pick.now))) c.as_slice-looked_at.ensures.ids) f in
    λ id. ap (λ (ids : List ℕ). has ids id) c.from_ascending.ensures ∙ law.has id
