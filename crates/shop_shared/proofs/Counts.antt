-- Steps of the history, the front and the count keep the rule.
use Rattle.std.proofs.Common.{◌≡◌, ◌≢◌, ℕ, ◌+◌, ◌%◌, ◌<◌, ◌≤◌, ◌^◌, List, [], ◌∷◌, ◌++◌, length, refl, sym, ap, ◌∙◌, arith, Some, None, Option, length-append}
use Rattle.std.specs.Prelude.{slice_index, slice_set}
use mathlib.Core.Option.{none}
use Rattle.atomic_table.specs.Table.{step, Allows, keeps}
use Rattle.shop_core.specs.declared.answers.Entry.{Entry}
use Rattle.shop_shared.specs.declared.view.View.TheVariants.{Keeps, Admits, Calls}
use Rattle.shop_shared.specs.declared.view.MasterView.{MasterView}
use Rattle.shop_shared.specs.declared.view.Held.{Held}
use Rattle.shop_shared.specs.Views.{grown, committed, raised, commit_to, faulted}
use Rattle.shop_shared.specs.Plays.{commits, publishes, counts}
use Rattle.shop_core.specs.Publishing.{most_pending}
use Rattle.shop_shared.specs.Rule.{AtHeld, accepted, WordsAre, StartsAs, HasSeen, HasSeenFront, HasLooks, HasCounts, HasSeenShut, IsFound, IsApart, IsRuled}
use Rattle.shop_core.specs.Steps.{IsAccepted}
use Rattle.shop_core.specs.History.{step_at, replay, own}
use Rattle.shop_shared.specs.Views.{first_state}
use Rattle.shop_shared.proofs.Prefixes.{prefix_self, prefix_longer}
use Rattle.shop_shared.proofs.Entries.{legal_more, own_mine, own_other, below_one_more}
use Rattle.shop_shared.proofs.EachSeat.{callers_on, held_on}
use Rattle.shop_shared.proofs.Building.{Change, changed}
use Rattle.shop_shared.proofs.Keeping.{master_kept, held_here, words_zero, words_one, words_two}

-- the held caller of a longer history
grown_on : (P Q : Held → Type 0) (o : Option Held) (e : Entry) → ((h : Held) → o ≡ Some h → P h → Q (record h { own = h.own ++ e ∷ [] })) → AtHeld P o → AtHeld Q (grown o e)
grown_on P Q (Some h) e f p = f h refl p
grown_on P Q None e f p = tt

-- commit: the history and the held caller's list grow by the same entry
pub commit_allowed : (slots : ℕ) (m : MasterView) (c : List (ℕ × ℕ)) (h : Held) (e : Entry)
    → m.held ≡ Some h → e.caller ≡ h.earlier.number → IsAccepted (step_at (replay (first_state m.start) m.history) e)
    → accepted m < m.front + most_pending → accepted m + 1 < 2 ^ 64
    → Allows IsRuled slots 0 (Keeps m, c) 0 (λ n. (n + 1) % 2 ^ 64) (commits (Some e) (step slots 0 1 0 none) (Keeps m, c))
commit_allowed slots m c held e is mine may room small s hh len at bound =
    let k = master_kept m s hh at in
    let m' = committed m e in
    let long : length (m.history ++ e ∷ []) ≡ length m.history + 1 = length-append m.history (e ∷ []) in
    let next : (accepted m + 1) % 2 ^ 64 ≡ accepted m' = omega arith in
    let words = words_zero m m' (λ n. (n + 1) % 2 ^ 64) s.words k.words_are next refl in
    let words' = slice_set s.words 0 ((slice_index s.words 0 + 1) % 2 ^ 64) in
    let by : ℕ = e.caller in
    let change : Change m m' words' s.views = record {
      words_are = words;
      front = (let f = k.front in (f.0, omega arith, omega arith));
      legal = legal_more (first_state m.start) m.history e k.legal may;
      start = refl;
      history = prefix_longer m.history m.history (e ∷ []) (prefix_self m.history);
      rises = omega arith;
      starts = grown_on (λ h. StartsAs m h.earlier) (λ h. StartsAs m' h.earlier) m.held e (λ h _ p. p) k.starts.1;
      seen = grown_on (λ h. HasSeen m h.earlier) (λ h. HasSeen m' h.earlier) m.held e (λ h _ p. prefix_longer h.earlier.seen m.history (e ∷ []) p) k.seen.1;
      fronts = grown_on (λ h. HasSeenFront m h.earlier) (λ h. HasSeenFront m' h.earlier) m.held e (λ h _ p. p) k.fronts.1;
      looks = grown_on (λ h. HasLooks h.earlier) (λ h. HasLooks h.earlier) m.held e (λ h _ p. p) k.looks.1;
      count = omega arith;
      counts = grown_on (λ h. HasCounts m h.earlier) (λ h. HasCounts m' h.earlier) m.held e (λ h _ p. p) k.counts.1;
      shut = λ x. x;
      shuts = grown_on (λ h. HasSeenShut m h.earlier) (λ h. HasSeenShut m' h.earlier) m.held e (λ h _ p. p) k.shuts.1;
      found_held = grown_on (IsFound m) (IsFound m') m.held e (λ h _ p. p) k.found_held;
      own_held = grown_on (λ h. h.own ≡ own h.earlier.number m.history) (λ h. h.own ≡ own h.earlier.number m'.history) m.held e
          (λ h o p. let same : held ≡ h = cc (is, o) in
          let caller : by ≡ h.earlier.number = mine ∙ ap (λ x. x.earlier.number) same in
          ap (λ l. l ++ e ∷ []) p ∙ sym (own_mine h.earlier.number m.history e caller)) k.own_held;
      own_seen = λ j w there p. own_other w.number m.history e (λ same. held_here (λ h. w.number ≢ h.earlier.number) m.held held is (k.held_apart j (Calls w) there) (sym same ∙ mine)) ∙ p;
      below = λ j d there. let p = k.below j (Admits d) there in (
        grown_on (λ h. h.earlier.number < d.made) (λ h. h.earlier.number < d.made) m.held e (λ h _ q. q) p.0.1,
        below_one_more d.made m.history e p.1 (let q = held_here (λ h. h.earlier.number < d.made) m.held held is p.0.1 in omega arith),
      );
      held_apart = λ j v there. callers_on (IsApart m) (IsApart m') v (λ w _ p. grown_on (λ h. w.number ≢ h.earlier.number) (λ h. w.number ≢ h.earlier.number) m.held e (λ h _ q. q) p) (k.held_apart j v there);
      before = λ off. let b : m.held ≡ None = (k.before off).1 in absurd (cc (is, b));
    } in
    (Keeps m', keeps, tt, (m', changed m m' s.words words' s.views k change), (λ x same. let is : e ≡ x = cc same in ap (λ y. (commit_to (Keeps m) y, c)) is))

-- publish: the front rises
pub publish_allowed : (slots : ℕ) (m : MasterView) (c : List (ℕ × ℕ)) (up : ℕ)
    → m.front + up ≤ accepted m → m.front + up < 2 ^ 64
    → Allows IsRuled slots 0 (Keeps m, c) 1 (λ n. (n + up) % 2 ^ 64) (publishes (step slots 1 up 0 none) (Keeps m, c))
publish_allowed slots m c up most small s h len at bound =
    let k = master_kept m s h at in
    let m' = raised m up in
    let next : (m.front + up) % 2 ^ 64 ≡ m.front + up = omega arith in
    let words = words_one m m' (λ n. (n + up) % 2 ^ 64) s.words k.words_are refl next in
    let words' = slice_set s.words 1 ((slice_index s.words 1 + up) % 2 ^ 64) in
    let change : Change m m' words' s.views = record {
      words_are = words;
      front = (let f = k.front in (omega arith, most, omega arith));
      legal = k.legal;
      start = refl;
      history = prefix_self m.history;
      rises = omega arith;
      starts = k.starts.1;
      seen = k.seen.1;
      fronts = held_on (λ h. HasSeenFront m h.earlier) (λ h. HasSeenFront m' h.earlier) m.held (λ h _ p. (p.0, (let q = p.1 in omega arith))) k.fronts.1;
      looks = k.looks.1;
      count = omega arith;
      counts = k.counts.1;
      shut = λ x. x;
      shuts = k.shuts.1;
      found_held = k.found_held;
      own_held = k.own_held;
      own_seen = λ j d _ p. p;
      below = λ j d e. let p = k.below j (Admits d) e in (p.0.1, p.1);
      held_apart = k.held_apart;
      before = λ off. let b = k.before off in (off, b.1, b.2);
    } in
    (Keeps m', keeps, tt, (m', changed m m' s.words words' s.views k change), refl)

-- fault: the master's count is one that is no less
pub fault_allowed : (slots : ℕ) (m : MasterView) (c : List (ℕ × ℕ)) (n : ℕ) → m.faults ≤ n
    → Allows IsRuled slots 0 (Keeps m, c) 2 (λ x. (x + 1) % 2 ^ 64) (counts n (step slots 2 1 0 none) (Keeps m, c))
fault_allowed slots m c n up s h len at bound =
    let k = master_kept m s h at in
    let m' = faulted m n in
    let words' = slice_set s.words 2 ((slice_index s.words 2 + 1) % 2 ^ 64) in
    let words : WordsAre m' words' = words_two m m' (λ x. (x + 1) % 2 ^ 64) s.words k.words_are refl refl in
    let change : Change m m' words' s.views = record {
      words_are = words;
      front = k.front;
      legal = k.legal;
      start = refl;
      history = prefix_self m.history;
      rises = omega arith;
      starts = k.starts.1;
      seen = k.seen.1;
      fronts = k.fronts.1;
      looks = k.looks.1;
      count = up;
      counts = held_on (λ h. HasCounts m h.earlier) (λ h. HasCounts m' h.earlier) m.held (λ h _ p. omega arith) k.counts.1;
      shut = λ x. x;
      shuts = k.shuts.1;
      found_held = held_on (IsFound m) (IsFound m') m.held (λ h _ p. (p.0, (let q = p.1 in omega arith))) k.found_held;
      own_held = k.own_held;
      own_seen = λ j d _ p. p;
      below = λ j d e. let p = k.below j (Admits d) e in (p.0.1, p.1);
      held_apart = k.held_apart;
      before = λ off. let b = k.before off in (off, b.1, b.2);
    } in
    (Keeps m', keeps, tt, (m', changed m m' s.words words' s.views k change), refl)
