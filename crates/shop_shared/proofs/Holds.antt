-- Steps that take a caller in and let it go keep the rule, and so does one that only tells.
use Rattle.std.proofs.Common.{◌≡◌, ◌≢◌, ℕ, zero, suc, ◌<◌, ◌≤◌, Bool, List, [], ◌∷◌, ◌++◌, length, set, refl, sym, ap, ◌∙◌, subst, ⊎_elim, arith, Some, None, true, false}
use Rattle.std.specs.Prelude.{slice_index, slice_set}
use mathlib.Core.Option.{some, none}
use lib.ListN.{get_elem?}
use Rattle.atomic_table.specs.Table.{step, Allows, Splits, Joins, keeps}
use Rattle.atomic_table.proofs.Lists.{at_set, set_else}
use Rattle.shop_shared.specs.declared.view.View.{View}
use Rattle.shop_shared.specs.declared.view.View.TheVariants.{Keeps, Admits, Calls, Spent}
use Rattle.shop_shared.specs.declared.view.MasterView.{MasterView}
use Rattle.shop_shared.specs.declared.view.CallerView.{CallerView}
use Rattle.shop_shared.specs.declared.view.DoorView.{DoorView}
use Rattle.shop_shared.specs.declared.view.Held.{Held}
use Rattle.shop_shared.specs.declared.view.Start.{Start}
use Rattle.shop_shared.specs.Views.{holding, released, new_look, given, join_both, split_left, split_right, given_if}
use Rattle.shop_shared.specs.Plays.{checked, leaves}
use Rattle.shop_shared.specs.Rule.{EachView, AtCaller, StartsAs, HasSeen, HasSeenFront, HasLooks, IsFound, Clash, IsApart, IsKept, IsRuled}
use Rattle.shop_shared.specs.Looks.{NeverFall, last_front, last_faults}
use Rattle.shop_shared.proofs.Prefixes.{prefix_self, prefix_length}
use Rattle.shop_shared.proofs.LooksMore.{never_fall_more, last_length_more, last_front_more, last_faults_more}
use Rattle.shop_shared.proofs.EachSeat.{each_set, callers_on, callers_set}
use Rattle.shop_shared.proofs.Building.{Change, changed, spends, Addition, added}
use Rattle.shop_shared.proofs.Keeping.{master_kept, held_here, known, words_zero, stays, frees}

-- check: the rule is read, and nothing changes
pub check_allowed : (slots : ℕ) (m : MasterView) (c : List (ℕ × ℕ)) → Allows IsRuled slots 0 (Keeps m, c) 0 (λ n. n) (checked (step slots 0 0 0 none) (Keeps m, c))
check_allowed slots m c s h len at small =
    let k = master_kept m s h at in
    let words = words_zero m m (λ n. n) s.words k.words_are refl refl in (
      Keeps m,
      keeps,
      tt,
      (m, changed m m s.words (slice_set s.words 0 (slice_index s.words 0)) s.views k (stays m s.words (slice_set s.words 0 (slice_index s.words 0)) s.views k words)),
      (refl, known m s.words s.views k),
    )

-- join: the master holds the caller, whose seat is spent
pub join_joins : (m : MasterView) (other : ℕ) (c : CallerView) → m.held ≡ None → Joins IsRuled 0 (Keeps m) other (Calls c) (join_both (Keeps m) (Calls c)) Spent
join_joins m other c free s h at apart there =
    let k = master_kept m s h at in
    let m' = holding m c in
    let seat : get_elem? s.views other ≡ some (Calls c) = sym (set_else s.views 0 other (Keeps m') apart) ∙ there in
    let spent = set s.views other Spent in
    let k' = spends m s.words s.views other (Calls c) (λ e. apart (sym e)) seat k in
    let change : Change m m' s.words spent = record {
      words_are = k.words_are;
      front = k.front;
      legal = k.legal;
      start = refl;
      history = prefix_self m.history;
      rises = omega arith;
      starts = k.starts.0 other (Calls c) seat;
      seen = k.seen.0 other (Calls c) seat;
      fronts = k.fronts.0 other (Calls c) seat;
      looks = k.looks.0 other (Calls c) seat;
      count = omega arith;
      counts = k.counts.0 other (Calls c) seat;
      shut = λ x. x;
      shuts = k.shuts.0 other (Calls c) seat;
      found_held = (k.counts.0 other (Calls c) seat, omega arith);
      own_held = sym (k.own_seen other (Calls c) seat);
      own_seen = λ j d _ p. p;
      below = λ j d e. let door = spent_door s.views other j d e in let p = k.below j (Admits d) door in (p.0.0 other (Calls c) seat, p.1);
      held_apart = each_set (λ j v. AtCaller (λ w. w.number ≢ c.number) v) s.views other Spent (λ j v ne e. callers_on (λ w. Unit {0}) (λ w. w.number ≢ c.number) v (λ w is _. λ same. ne (k.apart j v e other (Calls c) seat (subst (λ (u : View). Clash u (Calls c)) (sym is) same))) (trivial v)) tt;
      before = λ off. absurd ((k.before off).0 other (Calls c) seat);
    } in
    (m', subst (λ (vs : List View). IsKept m' s.words vs) (sym (set_swap s.views 0 other (Keeps m') Spent (λ e. apart (sym e)))) (changed m m' s.words s.words spent k' change))
  where
    trivial : (v : View) → AtCaller (λ w. Unit {0}) v
    trivial (Calls w) = tt
    trivial (Admits d) = tt
    trivial (Keeps n) = tt
    trivial Spent = tt

    spent_door : (views : List View) (other j : ℕ) (d : DoorView) → get_elem? (set views other Spent) j ≡ some (Admits d) → get_elem? views j ≡ some (Admits d)
    spent_door views other j d e =
        ⊎_elim
        (λ (t : (j ≡ other) × (Spent ≡ Admits d)). let is : Spent ≡ Admits d = t.1 in absurd (cc is))
        (λ (t : (j ≢ other) × (get_elem? views j ≡ some (Admits d))). t.1)
        (at_set views other j Spent (Admits d) e)

    set_swap : {A : Type 0} (l : List A) (i j : ℕ) (a b : A) → i ≢ j → set (set l i a) j b ≡ set (set l j b) i a
    set_swap [] i j a b ne = refl
    set_swap (x ∷ xs) zero zero a b ne = absurd (ne refl)
    set_swap (x ∷ xs) zero (suc j) a b ne = refl
    set_swap (x ∷ xs) (suc i) zero a b ne = refl
    set_swap (x ∷ xs) (suc i) (suc j) a b ne = ap (λ l. x ∷ l) (set_swap xs i j a b (λ e. ne (ap suc e)))

-- leave: the master holds nobody
pub leave_allowed : (slots : ℕ) (m : MasterView) (c : List (ℕ × ℕ)) → Allows IsRuled slots 0 (Keeps m, c) 0 (λ n. n) (leaves (step slots 0 0 0 none) (Keeps m, c))
leave_allowed slots m c s h len at small =
    let k = master_kept m s h at in
    let m' = released m in
    let words' = slice_set s.words 0 (slice_index s.words 0) in
    let words = words_zero m m (λ n. n) s.words k.words_are refl refl in
    (Keeps m', keeps, tt, (m', changed m m' s.words words' s.views k (frees m s.words words' s.views k words)), refl)

-- what the held caller's looks are with one more
pub looks_given : (m : MasterView) (h : Held) → StartsAs m h.earlier → HasSeen m h.earlier → HasSeenFront m h.earlier → HasLooks h.earlier → last_faults 0 h.earlier.looks ≤ h.found → h.found ≤ m.faults → HasLooks (given m h)
looks_given m h start seen front looks found count =
    let longer : length h.earlier.seen ≤ length m.history = prefix_length h.earlier.seen m.history seen in
    let base : h.earlier.start.number ≡ m.start.number = ap (λ (x : Start). x.number) start in (
      never_fall_more 0 m.start.number 0 h.earlier.looks (new_look m h) (subst (λ (b : ℕ). NeverFall 0 b 0 h.earlier.looks) base looks.0) (let l = looks.1 in omega arith) (let l = subst (λ (b : ℕ). last_front b h.earlier.looks ≡ h.earlier.front) base looks.2 in let f = front.1 in omega arith) found count,
      last_length_more 0 h.earlier.looks (new_look m h),
      last_front_more m.start.number h.earlier.looks (new_look m h),
    )

-- split: the held caller is given all of the history, and a look more
pub split_splits : (m : MasterView) (h : Held) → m.held ≡ Some h → Splits IsRuled 0 (Keeps m) (split_left (Keeps m)) (split_right (Keeps m))
split_splits m held is s hh at =
    let k = master_kept m s hh at in
    let m' = released m in
    let q = given m held in
    let k' = changed m m' s.words s.words s.views k (frees m s.words s.words s.views k k.words_are) in
    let views = set s.views 0 (Keeps m') in
    let start = held_here (λ h. StartsAs m h.earlier) m.held held is k.starts.1 in
    let seen = held_here (λ h. HasSeen m h.earlier) m.held held is k.seen.1 in
    let front = held_here (λ h. HasSeenFront m h.earlier) m.held held is k.fronts.1 in
    let looks = held_here (λ h. HasLooks h.earlier) m.held held is k.looks.1 in
    let found = held_here (IsFound m) m.held held is k.found_held in
    let others : EachView (λ j v. AtCaller (λ w. w.number ≢ held.earlier.number) v) views = callers_set (IsApart m) (λ w. w.number ≢ held.earlier.number) s.views 0 (Keeps m') (λ j w _ _ p. held_here (λ h. w.number ≢ h.earlier.number) m.held held is p) tt k.held_apart in
    let door : m.door_made ≡ true = by_made k m.door_made refl in
    let addition : Addition m' views (Calls q) = record {
      starts = refl;
      seen = prefix_self m.history;
      fronts = (k.front, omega arith);
      looks = looks_given m held start seen front looks found.0 found.1;
      counts = subst (λ (n : ℕ). n ≤ m.faults) (sym (last_faults_more 0 held.earlier.looks (new_look m held))) (omega arith);
      shuts = λ x. x;
      own_seen = refl;
      one_master = tt;
      doors = tt;
      below = λ j d e. held_here (λ h. h.earlier.number < d.made) m.held held is (k.below j (Admits d) (old_door m' j d e)).0.1;
      below_it = tt;
      apart = ((λ j w e. fresh w (others j w e)), (λ j w e. fresh_second w (others j w e)));
      held_apart = tt;
      before = door;
    } in
    (m', subst (λ (v : View). IsKept m' s.words (views ++ v ∷ [])) (λ i. given_if m (sym is i)) (added m' s.words views (Calls q) k' addition))
  where
    by_made : IsKept m s.words s.views → (b : Bool) → m.door_made ≡ b → m.door_made ≡ true
    by_made k true e = e
    by_made k false e = let b : m.held ≡ None = (k.before e).1 in absurd (cc (is, b))

    old_door : (m' : MasterView) (j : ℕ) (d : DoorView) → get_elem? (set s.views 0 (Keeps m')) j ≡ some (Admits d) → get_elem? s.views j ≡ some (Admits d)
    old_door m' j d e =
        ⊎_elim
        (λ (t : (j ≡ 0) × (Keeps m' ≡ Admits d)). let is : Keeps m' ≡ Admits d = t.1 in absurd (cc is))
        (λ (t : (j ≢ 0) × (get_elem? s.views j ≡ some (Admits d))). t.1)
        (at_set s.views 0 j (Keeps m') (Admits d) e)

    fresh : (w : View) → AtCaller (λ c. c.number ≢ held.earlier.number) w → Clash (Calls (given m held)) w → ⊥
    fresh (Calls c) p x = p (sym x)
    fresh (Admits e) p x = x
    fresh (Keeps n) p x = x
    fresh Spent p x = x

    fresh_second : (w : View) → AtCaller (λ c. c.number ≢ held.earlier.number) w → Clash w (Calls (given m held)) → ⊥
    fresh_second (Calls c) p x = p x
    fresh_second (Admits e) p x = x
    fresh_second (Keeps n) p x = x
    fresh_second Spent p x = x
