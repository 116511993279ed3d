-- What the rule says at the master, and what steps owe that change little.
use Rattle.std.proofs.Common.{◌≡◌, ℕ, List, [], ◌∷◌, refl, sym, subst, arith, Some, Option}
use Rattle.std.specs.Prelude.{slice_index, slice_set}
use mathlib.Core.Option.{some}
use lib.ListN.{get_elem?}
use Rattle.atomic_table.specs.Table.{State}
use Rattle.shop_shared.specs.declared.view.View.{View}
use Rattle.shop_shared.specs.declared.view.View.TheVariants.{Keeps, Admits}
use Rattle.shop_shared.specs.declared.view.MasterView.{MasterView}
use Rattle.shop_shared.specs.declared.view.Held.{Held}
use Rattle.shop_shared.specs.Views.{released}
use Rattle.shop_shared.specs.Rule.{AtHeld, accepted, WordsAre, IsApart, IsKept, IsRuled, IsKnown}
use Rattle.shop_shared.proofs.Prefixes.{prefix_self}
use Rattle.shop_shared.proofs.EachSeat.{the_view, callers_on}
use Rattle.shop_shared.proofs.Building.{Change}

-- the rule is kept at the view that the first seat has
pub master_kept : (m : MasterView) (s : State ℕ View) → IsRuled s → get_elem? s.views 0 ≡ some (Keeps m) → IsKept m s.words s.views
master_kept m s h at =
    let both : Keeps h.0 ≡ Keeps m = the_view s.views 0 (Keeps h.0) (Keeps m) h.1.at at in
    let same : h.0 ≡ m = cc both in
    subst (λ (n : MasterView). IsKept n s.words s.views) same h.1

pub held_here : (P : Held → Type 0) (o : Option Held) (h : Held) → o ≡ Some h → AtHeld P o → P h
held_here P o h is p = subst (AtHeld P) is p

pub known : (m : MasterView) (words : List ℕ) (views : List View) → IsKept m words views → IsKnown m
known m words views k = record {
  front = k.front;
  legal = k.legal;
  starts = k.starts.1;
  seen = k.seen.1;
  fronts = k.fronts.1;
  looks = k.looks.1;
  found_held = k.found_held;
  own_held = k.own_held;
}

-- the words after a step on one of them
pub words_zero : (m m' : MasterView) (f : ℕ → ℕ) (words : List ℕ) → WordsAre m words → f (accepted m) ≡ accepted m' → m.front ≡ m'.front → WordsAre m' (slice_set words 0 (f (slice_index words 0)))
words_zero m m' f words w is front = subst (λ (ws : List ℕ). WordsAre m' (slice_set ws 0 (f (slice_index ws 0)))) (sym w.1) (w.0, λ i. is i ∷ front i ∷ w.0 ∷ [])

pub words_one : (m m' : MasterView) (f : ℕ → ℕ) (words : List ℕ) → WordsAre m words → accepted m ≡ accepted m' → f m.front ≡ m'.front → WordsAre m' (slice_set words 1 (f (slice_index words 1)))
words_one m m' f words w is front = subst (λ (ws : List ℕ). WordsAre m' (slice_set ws 1 (f (slice_index ws 1)))) (sym w.1) (w.0, λ i. is i ∷ front i ∷ w.0 ∷ [])

pub words_two : (m m' : MasterView) (f : ℕ → ℕ) (words : List ℕ) → WordsAre m words → accepted m ≡ accepted m' → m.front ≡ m'.front → WordsAre m' (slice_set words 2 (f (slice_index words 2)))
words_two m m' f words w is front = subst (λ (ws : List ℕ). WordsAre m' (slice_set ws 2 (f (slice_index ws 2)))) (sym w.1) (f w.0, λ i. is i ∷ front i ∷ f w.0 ∷ [])

-- what a change owes where the held caller and the history stay
pub stays : (m : MasterView) (words words' : List ℕ) (views : List View) → IsKept m words views → WordsAre m words' → Change m m words' views
stays m words words' views k w = record {
  words_are = w;
  front = k.front;
  legal = k.legal;
  start = refl;
  history = prefix_self m.history;
  rises = omega arith;
  starts = k.starts.1;
  seen = k.seen.1;
  fronts = k.fronts.1;
  looks = k.looks.1;
  count = omega arith;
  counts = k.counts.1;
  shut = λ s. s;
  shuts = k.shuts.1;
  found_held = k.found_held;
  own_held = k.own_held;
  own_seen = λ j c _ p. p;
  below = λ j d e. let p = k.below j (Admits d) e in (p.0.1, p.1);
  held_apart = k.held_apart;
  before = λ off. let b = k.before off in (off, b.1, b.2);
}

-- what a change owes where nobody is held after it
pub frees : (m : MasterView) (words words' : List ℕ) (views : List View) → IsKept m words views → WordsAre m words' → Change m (released m) words' views
frees m words words' views k w = record {
  words_are = w;
  front = k.front;
  legal = k.legal;
  start = refl;
  history = prefix_self m.history;
  rises = omega arith;
  starts = tt;
  seen = tt;
  fronts = tt;
  looks = tt;
  count = omega arith;
  counts = tt;
  shut = λ x. x;
  shuts = tt;
  found_held = tt;
  own_held = tt;
  own_seen = λ j d _ p. p;
  below = λ j d e. let p = k.below j (Admits d) e in (tt, p.1);
  held_apart = λ j v e. callers_on (IsApart m) (IsApart (released m)) v (λ w _ p. tt) (k.held_apart j v e);
  before = λ off. let b = k.before off in (off, refl, b.2);
}
