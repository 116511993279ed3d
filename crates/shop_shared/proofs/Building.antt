-- The rule after the master's view was changed, a caller's view was spent, the door counted one more, or a seat was added.
use Rattle.std.proofs.Common.{◌≡◌, ◌≢◌, ℕ, ◌+◌, ◌<◌, ◌≤◌, ◌^◌, List, [], ◌∷◌, ◌++◌, length, set, refl, sym, ◌∙◌, subst, arith, None, true, false}
use mathlib.Core.Option.{some}
use mathlib.Core.List.{IsPrefix}
use lib.ListN.{get_elem?}
use Rattle.atomic_table.proofs.Lists.{set_here, set_else, at_longer}
use Rattle.shop_shared.proofs.Prefixes.{prefix_trans}
use Rattle.shop_shared.proofs.Entries.{below_more}
use Rattle.shop_shared.specs.declared.view.View.{View}
use Rattle.shop_shared.specs.declared.view.View.TheVariants.{Keeps, Admits, Calls, Spent}
use Rattle.shop_shared.specs.declared.view.MasterView.{MasterView}
use Rattle.shop_shared.specs.declared.view.CallerView.{CallerView}
use Rattle.shop_shared.specs.declared.view.DoorView.{DoorView}
use Rattle.shop_shared.specs.Views.{one_more}
use Rattle.shop_shared.specs.Rule.{EachView, AtCaller, AtDoor, AtMaster, AtHeld, WordsAre, HasFront, HasLegal, StartsAs, HasSeen, HasSeenFront, HasLooks, HasCounts, HasSeenShut, HeldFound, HeldOwn, HasAllItsOwn, IsDoorOf, AreBelow, NumbersBelow, Clash, IsApart, IsEarly, IsKept}
use Rattle.shop_shared.proofs.EachSeat.{at_length, the_view, each_set, each_new, doors_on, held_on, callers_set, callers_new, doors_set, doors_new, apart_set, apart_new}

-- what a change of the master's view owes
pub record Change (m m' : MasterView) (words : List ℕ) (views : List View) : Type 0 where
  pub words_are : WordsAre m' words
  pub front : HasFront m'
  pub legal : HasLegal m'
  pub start : m.start ≡ m'.start
  pub history : IsPrefix m.history m'.history
  pub rises : m.front ≤ m'.front
  pub starts : AtHeld (λ h. StartsAs m' h.earlier) m'.held
  pub seen : AtHeld (λ h. HasSeen m' h.earlier) m'.held
  pub fronts : AtHeld (λ h. HasSeenFront m' h.earlier) m'.held
  pub looks : AtHeld (λ h. HasLooks h.earlier) m'.held
  pub count : m.faults ≤ m'.faults
  pub counts : AtHeld (λ h. HasCounts m' h.earlier) m'.held
  pub shut : m.shut ≡ true → m'.shut ≡ true
  pub shuts : AtHeld (λ h. HasSeenShut m' h.earlier) m'.held
  pub found_held : HeldFound m'
  pub own_held : HeldOwn m'
  pub own_seen : (j : ℕ) (c : CallerView) → get_elem? views j ≡ some (Calls c) → HasAllItsOwn m c → HasAllItsOwn m' c
  pub below : (j : ℕ) (d : DoorView) → get_elem? views j ≡ some (Admits d) → AtHeld (λ h. h.earlier.number < d.made) m'.held × AreBelow d.made m'.history
  pub held_apart : EachView (λ j v. AtCaller (IsApart m') v) views
  pub before : m'.door_made ≡ false → (m.door_made ≡ false) × (m'.held ≡ None) × (m'.history ≡ [])

pub changed : (m m' : MasterView) (words words' : List ℕ) (views : List View) → IsKept m words views → Change m m' words' views → IsKept m' words' (set views 0 (Keeps m'))
changed m m' words words' views k c = record {
  at = set_here views 0 (Keeps m') (at_length views 0 (Keeps m) k.at);
  words_are = c.words_are;
  front = c.front;
  legal = c.legal;
  starts = (callers_set (StartsAs m) (StartsAs m') views 0 (Keeps m') (λ j w _ _ p. p ∙ c.start) tt k.starts.0, c.starts);
  seen = (callers_set (HasSeen m) (HasSeen m') views 0 (Keeps m') (λ j w _ _ p. prefix_trans w.seen m.history m'.history p c.history) tt k.seen.0, c.seen);
  fronts = (callers_set (HasSeenFront m) (HasSeenFront m') views 0 (Keeps m') (λ j w _ _ p. (p.0, (let f = c.rises in let q = p.1 in omega arith))) tt k.fronts.0, c.fronts);
  looks = (callers_set HasLooks HasLooks views 0 (Keeps m') (λ j w _ _ p. p) tt k.looks.0, c.looks);
  counts = (callers_set (HasCounts m) (HasCounts m') views 0 (Keeps m') (λ j w _ _ p. (let f = c.count in omega arith)) tt k.counts.0, c.counts);
  shuts = (callers_set (HasSeenShut m) (HasSeenShut m') views 0 (Keeps m') (λ j w _ _ p. λ s. c.shut (p s)) tt k.shuts.0, c.shuts);
  found_held = c.found_held;
  own_held = c.own_held;
  own_seen = callers_set (HasAllItsOwn m) (HasAllItsOwn m') views 0 (Keeps m') (λ j w _ e p. c.own_seen j w e p) tt k.own_seen;
  one_master = each_set (λ j v. AtMaster (j ≡ 0) v) views 0 (Keeps m') (λ j v _ e. k.one_master j v e) refl;
  doors = doors_set (IsDoorOf m) (IsDoorOf m') views 0 (Keeps m') (λ j d _ _ p. (p.0 ∙ c.start, p.1)) tt k.doors;
  below = doors_set (NumbersBelow m views) (NumbersBelow m' (set views 0 (Keeps m'))) views 0 (Keeps m')
      (λ j d _ e p. let b = c.below j d e in ((callers_set (λ w. w.number < d.made) (λ w. w.number < d.made) views 0 (Keeps m') (λ _ w _ _ q. q) tt p.0.0, b.0), b.1))
      tt k.below;
  apart = apart_set views 0 (Keeps m) (Keeps m') k.at (λ w x. x) (no_clash m m') k.apart;
  held_apart = callers_set (IsApart m') (IsApart m') views 0 (Keeps m') (λ j w _ _ p. p) tt c.held_apart;
  before = λ off. let b = c.before off in (each_set (λ j v. IsEarly v) views 0 (Keeps m') (λ j v _ e. (k.before b.0).0 j v e) tt, b.1, b.2);
}
  where
    no_clash : (m m' : MasterView) (w : View) → Clash w (Keeps m') → Clash w (Keeps m)
    no_clash m m' (Calls c) x = x
    no_clash m m' (Admits d) x = x
    no_clash m m' (Keeps n) x = x
    no_clash m m' Spent x = x

-- a view other than the master's is spent
pub spends : (m : MasterView) (words : List ℕ) (views : List View) (k : ℕ) (old : View) → 0 ≢ k → get_elem? views k ≡ some old → IsKept m words views → IsKept m words (set views k Spent)
spends m words views at old other here k = record {
  at = set_else views at 0 Spent other ∙ k.at;
  words_are = k.words_are;
  front = k.front;
  legal = k.legal;
  starts = (same (StartsAs m) k.starts.0, k.starts.1);
  seen = (same (HasSeen m) k.seen.0, k.seen.1);
  fronts = (same (HasSeenFront m) k.fronts.0, k.fronts.1);
  looks = (same HasLooks k.looks.0, k.looks.1);
  counts = (same (HasCounts m) k.counts.0, k.counts.1);
  shuts = (same (HasSeenShut m) k.shuts.0, k.shuts.1);
  found_held = k.found_held;
  own_held = k.own_held;
  own_seen = same (HasAllItsOwn m) k.own_seen;
  one_master = each_set (λ j v. AtMaster (j ≡ 0) v) views at Spent (λ j v _ e. k.one_master j v e) tt;
  doors = doors_set (IsDoorOf m) (IsDoorOf m) views at Spent (λ j d _ _ p. p) tt k.doors;
  below = doors_set (NumbersBelow m views) (NumbersBelow m (set views at Spent)) views at Spent (λ j d _ e p. ((same (λ w. w.number < d.made) p.0.0, p.0.1), p.1)) tt k.below;
  apart = apart_set views at old Spent here (λ w x. absurd x) (λ w x. absurd (none w x)) k.apart;
  held_apart = same (IsApart m) k.held_apart;
  before = λ off. let b = k.before off in (each_set (λ j v. IsEarly v) views at Spent (λ j v _ e. b.0 j v e) tt, b.1, b.2);
}
  where
    same : (P : CallerView → Type 0) → EachView (λ j v. AtCaller P v) views → EachView (λ j v. AtCaller P v) (set views at Spent)
    same P all = callers_set P P views at Spent (λ j w _ _ p. p) tt all

    none : (w : View) → Clash w Spent → ⊥
    none (Calls c) x = x
    none (Admits d) x = x
    none (Keeps n) x = x
    none Spent x = x

-- what a new seat owes
pub record Addition (m : MasterView) (views : List View) (x : View) : Type 0 where
  pub starts : AtCaller (StartsAs m) x
  pub seen : AtCaller (HasSeen m) x
  pub fronts : AtCaller (HasSeenFront m) x
  pub looks : AtCaller HasLooks x
  pub counts : AtCaller (HasCounts m) x
  pub shuts : AtCaller (HasSeenShut m) x
  pub own_seen : AtCaller (HasAllItsOwn m) x
  pub one_master : AtMaster ⊥ x
  pub doors : AtDoor (IsDoorOf m) x
  pub below : (j : ℕ) (d : DoorView) → get_elem? views j ≡ some (Admits d) → AtCaller (λ c. c.number < d.made) x
  pub below_it : AtDoor (NumbersBelow m views) x
  pub apart : EachView (λ j w. Clash x w → ⊥) views × EachView (λ j w. Clash w x → ⊥) views
  pub held_apart : AtCaller (IsApart m) x
  pub before : m.door_made ≡ true

pub added : (m : MasterView) (words : List ℕ) (views : List View) (x : View) → IsKept m words views → Addition m views x → IsKept m words (views ++ x ∷ [])
added m words views x k a = record {
  at = at_longer views (x ∷ []) 0 (Keeps m) k.at;
  words_are = k.words_are;
  front = k.front;
  legal = k.legal;
  starts = (callers_new (StartsAs m) views x a.starts k.starts.0, k.starts.1);
  seen = (callers_new (HasSeen m) views x a.seen k.seen.0, k.seen.1);
  fronts = (callers_new (HasSeenFront m) views x a.fronts k.fronts.0, k.fronts.1);
  looks = (callers_new HasLooks views x a.looks k.looks.0, k.looks.1);
  counts = (callers_new (HasCounts m) views x a.counts k.counts.0, k.counts.1);
  shuts = (callers_new (HasSeenShut m) views x a.shuts k.shuts.0, k.shuts.1);
  found_held = k.found_held;
  own_held = k.own_held;
  own_seen = callers_new (HasAllItsOwn m) views x a.own_seen k.own_seen;
  one_master = each_new (λ j v. AtMaster (j ≡ 0) v) views x k.one_master (never (length views) x a.one_master);
  doors = doors_new (IsDoorOf m) (IsDoorOf m) views x (λ j d _ p. p) a.doors k.doors;
  below = doors_new (NumbersBelow m views) (NumbersBelow m (views ++ x ∷ [])) views x
      (λ j d e p. ((callers_new (λ w. w.number < d.made) views x (a.below j d e) p.0.0, p.0.1), p.1))
      (doors_on (NumbersBelow m views) (NumbersBelow m (views ++ x ∷ [])) x (λ d is p. ((callers_new (λ w. w.number < d.made) views x (subst (λ (v : View). AtCaller (λ w. w.number < d.made) v) (sym is) tt) p.0.0, p.0.1), p.1)) a.below_it)
      k.below;
  apart = apart_new views x a.apart.0 a.apart.1 k.apart;
  held_apart = callers_new (IsApart m) views x a.held_apart k.held_apart;
  before = λ off. absurd (cc (off, a.before));
}
  where
    never : (j : ℕ) (v : View) → AtMaster ⊥ v → AtMaster (j ≡ 0) v
    never j (Keeps n) f = absurd f
    never j (Calls c) f = tt
    never j (Admits d) f = tt
    never j Spent f = tt

-- the door counts one more
pub more : (m : MasterView) (words : List ℕ) (views : List View) (k : ℕ) (d : DoorView) → get_elem? views k ≡ some (Admits d) → d.made + 1 < 2 ^ 32 → IsKept m words views → IsKept m words (set views k (Admits (one_more d)))
more m words views at d here room k = record {
  at = set_else views at 0 (Admits (one_more d)) apart ∙ k.at;
  words_are = k.words_are;
  front = k.front;
  legal = k.legal;
  starts = (same (StartsAs m) k.starts.0, k.starts.1);
  seen = (same (HasSeen m) k.seen.0, k.seen.1);
  fronts = (same (HasSeenFront m) k.fronts.0, k.fronts.1);
  looks = (same HasLooks k.looks.0, k.looks.1);
  counts = (same (HasCounts m) k.counts.0, k.counts.1);
  shuts = (same (HasSeenShut m) k.shuts.0, k.shuts.1);
  found_held = k.found_held;
  own_held = k.own_held;
  own_seen = same (HasAllItsOwn m) k.own_seen;
  one_master = each_set (λ j v. AtMaster (j ≡ 0) v) views at (Admits (one_more d)) (λ j v _ e. k.one_master j v e) tt;
  doors = doors_set (IsDoorOf m) (IsDoorOf m) views at (Admits (one_more d)) (λ j d' _ _ p. p) (let p = k.doors at (Admits d) here in (p.0, room)) k.doors;
  below = doors_set (NumbersBelow m views) (NumbersBelow m (set views at (Admits (one_more d)))) views at (Admits (one_more d))
      (λ j d' _ e p. ((same (λ w. w.number < d'.made) p.0.0, p.0.1), p.1))
      (let p = k.below at (Admits d) here in ((callers_set (λ w. w.number < d.made) (λ w. w.number < d.made + 1) views at (Admits (one_more d)) (λ j w _ _ q. omega arith) tt p.0.0, held_on (λ h. h.earlier.number < d.made) (λ h. h.earlier.number < d.made + 1) m.held (λ h _ q. omega arith) p.0.1), below_more d.made (d.made + 1) m.history (omega arith) p.1))
      k.below;
  apart = apart_set views at (Admits d) (Admits (one_more d)) here (λ w x. door_first w x) (λ w x. door_second w x) k.apart;
  held_apart = same (IsApart m) k.held_apart;
  before = λ off. absurd ((k.before off).0 at (Admits d) here);
}
  where
    apart : 0 ≢ at
    apart e = let both : Keeps m ≡ Admits d = the_view views 0 (Keeps m) (Admits d) k.at (subst (λ (j : ℕ). get_elem? views j ≡ some (Admits d)) (sym e) here) in absurd (cc both)

    same : (P : CallerView → Type 0) → EachView (λ j v. AtCaller P v) views → EachView (λ j v. AtCaller P v) (set views at (Admits (one_more d)))
    same P all = callers_set P P views at (Admits (one_more d)) (λ j w _ _ p. p) tt all

    door_first : (w : View) → Clash (Admits (one_more d)) w → Clash (Admits d) w
    door_first (Admits e) x = x
    door_first (Calls c) x = x
    door_first (Keeps n) x = x
    door_first Spent x = x

    door_second : (w : View) → Clash w (Admits (one_more d)) → Clash w (Admits d)
    door_second (Admits e) x = x
    door_second (Calls c) x = x
    door_second (Keeps n) x = x
    door_second Spent x = x
