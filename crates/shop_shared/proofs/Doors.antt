-- Steps of the door keep the rule: it is made, it lets one in, and it is given up.
use Rattle.std.proofs.Common.{◌≡◌, ◌≢◌, ℕ, ◌+◌, ◌<◌, ◌^◌, Bool, [], set, refl, sym, ap, ◌∙◌, subst, arith, true, false}
use mathlib.Core.Option.{some}
use lib.ListN.{get_elem?}
use Rattle.atomic_table.specs.Table.{Splits, Joins}
use Rattle.atomic_table.proofs.Lists.{set_here, set_else}
use Rattle.shop_shared.specs.declared.view.View.{View}
use Rattle.shop_shared.specs.declared.view.View.TheVariants.{Keeps, Admits, Calls, Spent}
use Rattle.shop_shared.specs.declared.view.MasterView.{MasterView}
use Rattle.shop_shared.specs.declared.view.CallerView.{CallerView}
use Rattle.shop_shared.specs.declared.view.DoorView.{DoorView}
use Rattle.shop_shared.specs.declared.view.Held.{Held}
use Rattle.shop_shared.specs.declared.view.Start.{Start}
use Rattle.shop_shared.specs.Views.{with_door, new_door, one_more, new_caller, door_left, door_right, enter_left, enter_right, shut_down, shut_both}
use Rattle.shop_shared.specs.Rule.{EachView, AtCaller, AtHeld, HasSeenShut, AreBelow, Clash, IsEarly, IsKept, IsRuled}
use Rattle.shop_core.specs.History.{own}
use Rattle.shop_shared.proofs.Prefixes.{prefix_self}
use Rattle.shop_shared.proofs.Entries.{own_below, own_none, below_none}
use Rattle.shop_shared.proofs.EachSeat.{at_length, the_view, each_set, held_on, callers_set}
use Rattle.shop_shared.proofs.Building.{Change, changed, spends, Addition, added, more}
use Rattle.shop_shared.proofs.Keeping.{master_kept}

-- door: the master has that the door was made, and the new seat is the door
pub door_splits : (m : MasterView) → m.door_made ≡ false → Splits IsRuled 0 (Keeps m) (door_left (Keeps m)) (door_right (Keeps m))
door_splits m off s h at =
    let k = master_kept m s h at in
    let b = k.before off in
    let m' = with_door m in
    let change : Change m m' s.words s.views = record {
      words_are = k.words_are;
      front = k.front;
      legal = k.legal;
      start = refl;
      history = prefix_self m.history;
      rises = omega arith;
      starts = k.starts.1;
      seen = k.seen.1;
      fronts = k.fronts.1;
      looks = k.looks.1;
      count = omega arith;
      counts = k.counts.1;
      shut = λ x. x;
      shuts = k.shuts.1;
      found_held = k.found_held;
      own_held = k.own_held;
      own_seen = λ j c _ p. p;
      below = λ j d e. let p = k.below j (Admits d) e in (p.0.1, p.1);
      held_apart = k.held_apart;
      before = λ on. absurd (cc on);
    } in
    let k' = changed m m' s.words s.words s.views k change in
    let views = set s.views 0 (Keeps m') in
    let early : EachView (λ j v. IsEarly v) views = each_set (λ j v. IsEarly v) s.views 0 (Keeps m') (λ j v _ e. b.0 j v e) tt in
    let callers : (P : CallerView → Type 0) → EachView (λ j v. AtCaller P v) views = λ P j v e. no_callers P v (early j v e) in
    let none_held : (P : Held → Type 0) → AtHeld P m.held = λ P. subst (AtHeld P) (sym b.1) tt in
    let addition : Addition m' views (Admits (new_door m)) = record {
      starts = tt;
      seen = tt;
      fronts = tt;
      looks = tt;
      counts = tt;
      shuts = tt;
      own_seen = tt;
      one_master = tt;
      doors = (refl, omega arith);
      below = λ j d e. tt;
      below_it = ((callers (λ c. c.number < 0), none_held (λ h. h.earlier.number < 0)), subst (AreBelow 0) (sym b.2) (below_none 0));
      apart = ((λ j w e. no_door w (early j w e)), (λ j w e. no_door_second w (early j w e)));
      held_apart = tt;
      before = refl;
    } in
    (m', added m' s.words views (Admits (new_door m)) k' addition)
  where
    no_callers : (P : CallerView → Type 0) (v : View) → IsEarly v → AtCaller P v
    no_callers P (Keeps n) e = tt
    no_callers P Spent e = tt
    no_callers P (Calls c) e = absurd e
    no_callers P (Admits d) e = absurd e

    no_door : (w : View) → IsEarly w → Clash (Admits (new_door m)) w → ⊥
    no_door (Keeps n) e x = x
    no_door Spent e x = x
    no_door (Calls c) e x = x
    no_door (Admits d) e x = e

    no_door_second : (w : View) → IsEarly w → Clash w (Admits (new_door m)) → ⊥
    no_door_second (Keeps n) e x = x
    no_door_second Spent e x = x
    no_door_second (Calls c) e x = x
    no_door_second (Admits d) e x = e

-- enter: the door counts one more, and the new seat is a caller of the number that the door had
pub enter_splits : (id : ℕ) (d : DoorView) → d.made + 1 < 2 ^ 32 → Splits IsRuled id (Admits d) (enter_left (Admits d)) (enter_right (Admits d))
enter_splits id d room s h at =
    let m = h.0 in
    let k = h.1 in
    let views = set s.views id (Admits (one_more d)) in
    let k' = more m s.words s.views id d at room k in
    let of_door = k.doors id (Admits d) at in
    let under = k.below id (Admits d) at in
    let under' = k'.below id (Admits (one_more d)) (set_here s.views id (Admits (one_more d)) (at_length s.views id (Admits d) at)) in
    let first : ℕ = d.start.number in
    let none_own : own d.made m.history ≡ own d.made [] = own_below d.made m.history under.1 ∙ sym (own_none d.made) in
    let made : (m.door_made ≡ true) = is_made m k at in
    let callers : EachView (λ j v. AtCaller (λ c. c.number < d.made) v) views = callers_set (λ c. c.number < d.made) (λ c. c.number < d.made) s.views id (Admits (one_more d)) (λ j w _ _ p. p) tt under.0.0 in
    let addition : Addition m views (Calls (new_caller d)) = record {
      starts = of_door.0;
      seen = (m.history, refl);
      fronts = ((omega arith, omega arith, omega arith), (let f = k.front.0 in let e : d.start.number ≡ m.start.number = ap (λ (x : Start). x.number) of_door.0 in omega arith));
      looks = (tt, refl, refl);
      counts = omega arith;
      shuts = λ off. absurd (cc off);
      own_seen = none_own;
      one_master = tt;
      doors = tt;
      below = λ j d' e. only_door j d' e k';
      below_it = tt;
      apart = ((λ j w e. fresh w (callers j w e)), (λ j w e. fresh_second w (callers j w e)));
      held_apart = held_on (λ h. h.earlier.number < d.made) (λ h. d.made ≢ h.earlier.number) m.held (λ h _ p. (λ e. omega arith)) under.0.1;
      before = made;
    } in
    (m, added m s.words views (Calls (new_caller d)) k' addition)
  where
    is_made : (m : MasterView) → IsKept m s.words s.views → get_elem? s.views id ≡ some (Admits d) → m.door_made ≡ true
    is_made m k at = by_made m.door_made refl
      where
        by_made : (b : Bool) → m.door_made ≡ b → m.door_made ≡ true
        by_made true e = e
        by_made false e = absurd ((k.before e).0 id (Admits d) at)

    only_door : (j : ℕ) (d' : DoorView) → get_elem? (set s.views id (Admits (one_more d))) j ≡ some (Admits d') → IsKept h.0 s.words (set s.views id (Admits (one_more d))) → d.made < d'.made
    only_door j d' e k' =
        let here = set_here s.views id (Admits (one_more d)) (at_length s.views id (Admits d) at) in
        let same : id ≡ j = k'.apart id (Admits (one_more d)) here j (Admits d') e tt in
        let both : Admits (one_more d) ≡ Admits d' = the_view (set s.views id (Admits (one_more d))) id (Admits (one_more d)) (Admits d') here (subst (λ (i : ℕ). get_elem? (set s.views id (Admits (one_more d))) i ≡ some (Admits d')) (sym same) e) in
        let is : one_more d ≡ d' = cc both in
        let made : d.made + 1 ≡ d'.made = ap (λ x. x.made) is in
        omega arith

    fresh : (w : View) → AtCaller (λ c. c.number < d.made) w → Clash (Calls (new_caller d)) w → ⊥
    fresh (Calls c) p x = omega arith
    fresh (Admits e) p x = x
    fresh (Keeps n) p x = x
    fresh Spent p x = x

    fresh_second : (w : View) → AtCaller (λ c. c.number < d.made) w → Clash w (Calls (new_caller d)) → ⊥
    fresh_second (Calls c) p x = omega arith
    fresh_second (Admits e) p x = x
    fresh_second (Keeps n) p x = x
    fresh_second Spent p x = x

-- shut: the master has that the shop was shut, and the door is spent
pub shut_joins : (m : MasterView) (other : ℕ) (d : DoorView) → Joins IsRuled 0 (Keeps m) other (Admits d) (shut_both (Keeps m) (Admits d)) Spent
shut_joins m other d s h at apart there =
    let k = master_kept m s h at in
    let m' = shut_down m in
    let seat : get_elem? s.views other ≡ some (Admits d) = sym (set_else s.views 0 other (Keeps m') apart) ∙ there in
    let change : Change m m' s.words s.views = record {
      words_are = k.words_are;
      front = k.front;
      legal = k.legal;
      start = refl;
      history = prefix_self m.history;
      rises = omega arith;
      starts = k.starts.1;
      seen = k.seen.1;
      fronts = k.fronts.1;
      looks = k.looks.1;
      count = omega arith;
      counts = k.counts.1;
      shut = λ x. refl;
      shuts = held_on (λ h. HasSeenShut m h.earlier) (λ h. HasSeenShut m' h.earlier) m.held (λ h _ p. λ x. refl) k.shuts.1;
      found_held = k.found_held;
      own_held = k.own_held;
      own_seen = λ j w _ p. p;
      below = λ j w e. let p = k.below j (Admits w) e in (p.0.1, p.1);
      held_apart = k.held_apart;
      before = λ off. let b = k.before off in (off, b.1, b.2);
    } in
    let k' = changed m m' s.words s.words s.views k change in
    (m', spends m' s.words (set s.views 0 (Keeps m')) other (Admits d) (λ e. apart (sym e)) there k')
