-- What stands under the lock after calls, and what a write tells.
use Rattle.std.proofs.Common.{◌≡◌, ◌⊎◌, ℕ, ℤ, ◌+◌, ◌-◌, ◌≤◌, ◌<◌, ◌^◌, List, [], ◌∷◌, ◌++◌, length, refl, sym, ap, ◌∙◌, subst, arith, Some, None, Option, true, false, Bool, Result, Ok, Err, length-append, w64, to_z, of_z}
use Rattle.std.specs.Prelude.{MatchResult, IfOk}
use Rattle.shop_requests.specs.declared.command.Command.{Command}
use Rattle.shop_defs.specs.declared.row.Row.{Row}
use Rattle.idx_copy.specs.Fronts.{rows_after}
use Rattle.shop_core.specs.declared.answers.Entry.{Entry}
use Rattle.shop_core.specs.declared.answers.Done.{Done}
use Rattle.shop_core.specs.declared.answers.CommitFault.{CommitFault}
use Rattle.shop_core.specs.declared.answers.CommitFault.TheVariants as faults
use Rattle.shop_core.specs.Steps.{IsAccepted}
use Rattle.shop_core.specs.History.{State, step_at, after_step, after_entry, replay, own}
use Rattle.shop_core.specs.Shops.{ShopView, IsShop, state_of}
use Rattle.shop_core.specs.Commits.{Commits, Steps, HasStoreCause, Publishes}
use Rattle.shop_shared.specs.declared.view.MasterView.{MasterView}
use Rattle.shop_shared.specs.declared.view.CallerView.{CallerView}
use Rattle.shop_shared.specs.declared.view.Held.{Held}
use Rattle.shop_shared.specs.declared.view.Start.{Start}
use Rattle.shop_shared.specs.Looks.{last_found, last_faults}
use Rattle.shop_shared.specs.Views.{first_state, fresh_master, with_door, holding, faulted, raised, committed, released, given, held_of, new_look}
use Rattle.shop_shared.specs.Rule.{accepted}
use Rattle.shop_shared.specs.Passes.{MovesOn, SameOwn, IsWritten, Writes, entry_of, seen_state, seen_number}
use Rattle.shop_shared.specs.Locks.{AreTied, LeadOn}
use Rattle.shop_shared.proofs.Entries.{replay_none, replay_more}
use Rattle.shop_shared.proofs.LooksMore.{last_found_more, last_faults_more}
use Rattle.shop_shared.proofs.Leading.{leads_none}
use Rattle.shop_shared.proofs.Committing.{rises, room_before, done_leads, fault_leads}

abbrev pub state_at : List Row → ℕ → State
state_at rows number = record { rows = rows; number = number }

-- ---- at the start

pub tied_first : (m : MasterView) (s : ShopView) (start : Start) → IsShop s → m ≡ with_door (fresh_master start s.faults) → start.rows ≡ s.rows → start.number ≡ s.number → s.pending ≡ [] → AreTied m s false
tied_first m s start shop is rows number none =
    let counts : s.copy.front + length s.pending ≡ s.number = shop.counts in
    let long : length s.pending ≡ 0 = ap length none in
    let first : state_of s ≡ replay (first_state start) [] = (λ i. record { rows = sym rows i; number = sym number i }) ∙ sym (replay_none (first_state start)) in
    let copied : s.copy.rows ≡ (replay (first_state start) []).rows = copy_rows ∙ ap (λ (z : State). z.rows) first in
    subst (λ (x : MasterView). AreTied x s false) (sym is) record {
      free = refl;
      made = refl;
      shut_is = refl;
      state = first;
      number = omega arith;
      front = omega arith;
      faults = refl;
      leads = leads_none (first_state start) [] s.copy s.pending none (omega arith) copied;
    }
  where
    copy_rows : s.copy.rows ≡ s.rows
    copy_rows = ap (rows_after s.copy.rows) (sym none) ∙ shop.leads

-- ---- after a write

-- what an accepted step leaves is the replay with its entry
pub done_state : (start : State) (history : List Entry) (e : Entry) (s s' : ShopView) (done : Done) → state_of s ≡ replay start history → Steps (state_of s) e.command e.moment (Ok done) (state_of s') → state_of s' ≡ replay start (history ++ e ∷ [])
done_state start history e s s' done state steps =
    ap (state_at s'.rows) steps.1 ∙ (sym (ap (after_step (state_of s)) steps.0) ∙ (ap (λ (z : State). after_entry z e) state ∙ sym (replay_more start history e)))

-- it is accepted after the history
pub done_accepted : (start : State) (history : List Entry) (e : Entry) (s s' : ShopView) (done : Done) → state_of s ≡ replay start history → Steps (state_of s) e.command e.moment (Ok done) (state_of s') → IsAccepted (step_at (replay start history) e)
done_accepted start history e s s' done state steps = subst (λ (z : State). IsAccepted (step_at z e)) state (subst IsAccepted (sym steps.0) tt)

-- the front after it was raised
raised_front : (m : MasterView) (s s' : ShopView) (b : Bool) → AreTied m s b → s.copy.front ≤ s'.copy.front → m.front + (s'.copy.front - s.copy.front) ≡ s'.copy.front
raised_front m s s' b tied above = let front : m.front ≡ s.copy.front = tied.front in omega arith

-- the master after the count was taken over and the front raised
abbrev pub written_to : MasterView → CallerView → ShopView → ShopView → MasterView
written_to m p s s' = raised (faulted (holding m p) s'.faults) (s'.copy.front - s.copy.front)

fault_state : (s s' : ShopView) (e : Entry) (fault : CommitFault) → Steps (state_of s) e.command e.moment (Err fault) (state_of s') → state_of s' ≡ state_of s
fault_state s s' e (faults.Refused rule) steps = steps.1
fault_state s s' e faults.StoreFailed steps = steps.1
fault_state s s' e faults.NoMemory steps = steps

pub tied_write : (m m2 : MasterView) (s s' : ShopView) (b : Bool) (p : CallerView) (e : Entry) (r : Result Done CommitFault) → AreTied m s b → IsShop s → Commits s e.command e.moment r s'
    → MatchResult r (λ _. m2 ≡ committed (written_to m p s s') e) (λ _. m2 ≡ written_to m p s s')
    → AreTied (released m2) s' b
tied_write m m2 s s' b p e (Ok done) tied shop commits is =
    let start = first_state m.start in
    let up = rises s s' (Ok done) shop commits.publishes in
    let state = done_state start m.history e s s' done tied.state commits.answer in
    let long : length (m.history ++ e ∷ []) ≡ length m.history + 1 = length-append m.history (e ∷ []) in
    let before : accepted m ≡ s.number = tied.number in
    let more : s'.number ≡ s.number + 1 = commits.answer.1 in
    subst (λ (x : MasterView). AreTied (released x) s' b) (sym is) record {
      free = refl;
      made = tied.made;
      shut_is = tied.shut_is;
      state = state;
      number = omega arith;
      front = raised_front m s s' b tied up.above;
      faults = refl;
      leads = done_leads start m.history e s s' done shop tied.state (sym tied.number) tied.leads state commits.publishes;
    }
tied_write m m2 s s' b p e (Err fault) tied shop commits is =
    let start = first_state m.start in
    let up = rises s s' (Err fault) shop commits.publishes in
    let same : state_of s' ≡ state_of s = fault_state s s' e fault commits.answer in
    subst (λ (x : MasterView). AreTied (released x) s' b) (sym is) record {
      free = refl;
      made = tied.made;
      shut_is = tied.shut_is;
      state = same ∙ tied.state;
      number = tied.number ∙ sym (ap (λ (z : State). z.number) same);
      front = raised_front m s s' b tied up.above;
      faults = refl;
      leads = fault_leads start m.history s s' fault tied.state (sym tied.number) tied.leads commits.publishes;
    }

-- ---- what the caller is told

-- the steps of an error do not look at what is left
fault_steps : (old old' now : State) (command : Command) (moment : ℤ) (fault : CommitFault) → old ≡ old' → Steps old command moment (Err fault) now → Steps old' command moment (Err fault) old'
fault_steps old old' now command moment (faults.Refused rule) same steps = (subst (λ (z : State). Steps z command moment (Err (faults.Refused rule)) z) same (steps.0, refl))
fault_steps old old' now command moment faults.StoreFailed same steps = (subst (λ (z : State). Steps z command moment (Err faults.StoreFailed) z) same (steps.0, refl))
fault_steps old old' now command moment faults.NoMemory same steps = refl

done_steps : (old old' now now' : State) (command : Command) (moment : ℤ) (done : Done) → old ≡ old' → now ≡ now' → Steps old command moment (Ok done) now → Steps old' command moment (Ok done) now'
done_steps old old' now now' command moment done same after steps = subst (λ (z : State). Steps z command moment (Ok done) now') same (subst (λ (z : State). Steps old command moment (Ok done) z) after steps)

pub told_write : (m m2 : MasterView) (s s' : ShopView) (b : Bool) (p q : CallerView) (number : ℕ) (command : Command) (moment : ℤ) (r : Result Done CommitFault) → number ≡ p.number → AreTied m s b → Commits s command moment r s'
    → MatchResult r (λ _. m2 ≡ committed (written_to m p s s') (entry_of number command moment)) (λ _. m2 ≡ written_to m p s s')
    → q ≡ given m2 (held_of m2) → own q.number q.seen ≡ (held_of m2).own
    → Writes p q command moment r
told_write m m2 s s' b p q number command moment (Ok done) mine tied commits is given_is own_is =
    let e' : Entry = entry_of number command moment in
    let e : Entry = entry_of p.number command moment in
    let same : e' ≡ e = ap (λ (n : ℕ). entry_of n command moment) mine in
    let left : MasterView = committed (written_to m p s s') e in
    let is' : m2 ≡ left = is ∙ ap (λ (x : Entry). committed (written_to m p s s') x) same in
    let new : q ≡ given left (held_of left) = given_is ∙ ap (λ (x : MasterView). given x (held_of x)) is' in
    let seen : q.seen ≡ m.history ++ e ∷ [] = ap (λ (x : CallerView). x.seen) new in
    let start : q.start ≡ m.start = ap (λ (x : CallerView). x.start) new in
    let first : first_state m.start ≡ first_state q.start = ap first_state (sym start) in
    let state = done_state (first_state m.start) m.history e s s' done tied.state commits.answer in
    let after : state_of s' ≡ seen_state q = state ∙ ap (λ (x : CallerView). seen_state x) (sym new) in
    let before : state_of s ≡ replay (first_state q.start) m.history = tied.state ∙ ap (λ (z : State). replay z m.history) first in
    let long : length q.seen ≡ length m.history + 1 = ap length seen ∙ length-append m.history (e ∷ []) in
    let base : q.start.number ≡ m.start.number = ap (λ (x : Start). x.number) start in
    let number_is : accepted m ≡ s.number = tied.number in
    let more : s'.number ≡ s.number + 1 = commits.answer.1 in
    let front_is : done.front ≡ s'.number = commits.answer.2 in
    record {
      earlier = m.history;
      last = seen;
      own_is = own_is ∙ ap (λ (x : MasterView). (held_of x).own) is';
      steps = done_steps (state_of s) (replay (first_state q.start) m.history) (state_of s') (seen_state q) command moment done before after commits.answer;
      front = omega arith;
    }
told_write m m2 s s' b p q number command moment (Err fault) mine tied commits is given_is own_is =
    let left : MasterView = written_to m p s s' in
    let new : q ≡ given left (held_of left) = given_is ∙ ap (λ (x : MasterView). given x (held_of x)) is in
    let before : state_of s ≡ seen_state q = tied.state ∙ ap (λ (x : CallerView). seen_state x) (sym new) in
    (own_is ∙ ap (λ (x : MasterView). (held_of x).own) is, fault_steps (state_of s) (seen_state q) (state_of s') command moment fault before commits.answer)

-- the counts of the look
told_left : (m m2 : MasterView) (s s' : ShopView) (p q : CallerView) (r : Result Done CommitFault) → m.faults ≡ s.faults → HasStoreCause s.faults s'.faults r → (found : (held_of m2).found ≡ m.faults) → (earlier : (held_of m2).earlier ≡ p) → m2.faults ≡ s'.faults
    → q ≡ given m2 (held_of m2) → HasStoreCause (last_found 0 q.looks) (last_faults 0 q.looks) r
told_left m m2 s s' p q r count cause found earlier left_is given_is =
    let found_is : last_found 0 q.looks ≡ s.faults = ap (λ (x : CallerView). last_found 0 x.looks) given_is ∙ (last_found_more 0 (held_of m2).earlier.looks (new_look m2 (held_of m2)) ∙ (found ∙ count)) in
    let faults_is : last_faults 0 q.looks ≡ s'.faults = ap (λ (x : CallerView). last_faults 0 x.looks) given_is ∙ (last_faults_more 0 (held_of m2).earlier.looks (new_look m2 (held_of m2)) ∙ left_is) in
    subst (λ (n : ℕ). HasStoreCause n (last_faults 0 q.looks) r) (sym found_is) (subst (λ (n : ℕ). HasStoreCause s.faults n r) (sym faults_is) cause)

pub told_cause : (m m2 : MasterView) (s s' : ShopView) (b : Bool) (p q : CallerView) (e : Entry) (r : Result Done CommitFault) → AreTied m s b → HasStoreCause s.faults s'.faults r
    → MatchResult r (λ _. m2 ≡ committed (written_to m p s s') e) (λ _. m2 ≡ written_to m p s s')
    → q ≡ given m2 (held_of m2) → HasStoreCause (last_found 0 q.looks) (last_faults 0 q.looks) r
told_cause m m2 s s' b p q e (Ok done) tied cause is given_is = told_left m m2 s s' p q (Ok done) tied.faults cause (ap (λ (x : MasterView). (held_of x).found) is) (ap (λ (x : MasterView). (held_of x).earlier) is) (ap (λ (x : MasterView). x.faults) is) given_is
told_cause m m2 s s' b p q e (Err fault) tied cause is given_is = told_left m m2 s s' p q (Err fault) tied.faults cause (ap (λ (x : MasterView). (held_of x).found) is) (ap (λ (x : MasterView). (held_of x).earlier) is) (ap (λ (x : MasterView). x.faults) is) given_is

-- ---- what the steps of a write ask for

-- the front rises by so much
pub write_rises : (m held : MasterView) (s s' : ShopView) (b : Bool) (p : CallerView) (r : Result Done CommitFault) → AreTied m s b → IsShop s → Publishes s r s' → held ≡ faulted (holding m p) s'.faults
    → (held.front + (s'.copy.front - s.copy.front) ≤ accepted held) × (held.front + (s'.copy.front - s.copy.front) < 2 ^ 64)
write_rises m held s s' b p r tied shop publishes is =
    let up = rises s s' r shop publishes in
    let above : s.copy.front ≤ s'.copy.front = up.above in
    let within : s'.copy.front ≤ s.number = up.within in
    let front : held.front ≡ m.front = ap (λ (x : MasterView). x.front) is in
    let here : m.front ≡ s.copy.front = tied.front in
    let number : accepted held ≡ accepted m = ap (λ (x : MasterView). accepted x) is in
    let counted : accepted m ≡ s.number = tied.number in
    let small : s.number < 2 ^ 63 = shop.number in
    (omega arith, omega arith)

-- an accepted entry has its place
pub write_room : (m m1 : MasterView) (s s' : ShopView) (b : Bool) (p : CallerView) (r : Result Done CommitFault) → AreTied m s b → IsShop s → Publishes s r s' → m1 ≡ written_to m p s s'
    → IfOk r (λ _. (accepted m1 < m1.front + 1024) × (accepted m1 + 1 < 2 ^ 64))
write_room m m1 s s' b p (Ok done) tied shop publishes is =
    let up = rises s s' (Ok done) shop publishes in
    let above : s.copy.front ≤ s'.copy.front = up.above in
    let room : s.number < s'.copy.front + 1024 = room_before s s' done shop publishes in
    let front : m1.front ≡ m.front + (s'.copy.front - s.copy.front) = ap (λ (x : MasterView). x.front) is in
    let here : m.front ≡ s.copy.front = tied.front in
    let number : accepted m1 ≡ accepted m = ap (λ (x : MasterView). accepted x) is in
    let counted : accepted m ≡ s.number = tied.number in
    let small : s.number < 2 ^ 63 = shop.number in
    (omega arith, omega arith)
write_room m m1 s s' b p (Err fault) tied shop publishes is = tt

-- it is accepted there
pub write_accepts : (m m1 : MasterView) (s s' : ShopView) (b : Bool) (p : CallerView) (e : Entry) (r : Result Done CommitFault) → AreTied m s b → Steps (state_of s) e.command e.moment r (state_of s') → m1 ≡ written_to m p s s'
    → IfOk r (λ _. IsAccepted (step_at (replay (first_state m1.start) m1.history) e))
write_accepts m m1 s s' b p e (Ok done) tied steps is =
    subst (λ (x : MasterView). IsAccepted (step_at (replay (first_state x.start) x.history) e)) (sym is) (done_accepted (first_state m.start) m.history e s s' done tied.state steps)
write_accepts m m1 s s' b p e (Err fault) tied steps is = tt

-- the master after the steps of a write
pub written_is : (m held m1 : MasterView) (p : CallerView) (s s' : ShopView) (before after : ℕ) → held ≡ faulted (holding m p) s'.faults → m1 ≡ raised held (after - before) → before ≡ s.copy.front → after ≡ s'.copy.front → m1 ≡ written_to m p s s'
written_is m held m1 p s s' before after is raises first last = raises ∙ (ap (λ (x : MasterView). raised x (after - before)) is ∙ λ i. raised (faulted (holding m p) s'.faults) (last i - first i))

pub told_moves : (m m2 : MasterView) (s s' : ShopView) (p q : CallerView) (e : Entry) (r : Result Done CommitFault) → MatchResult r (λ _. m2 ≡ committed (written_to m p s s') e) (λ _. m2 ≡ written_to m p s s') → MovesOn (held_of m2).earlier q → MovesOn p q
told_moves m m2 s s' p q e (Ok done) is moves = subst (λ (x : MasterView). MovesOn (held_of x).earlier q) is moves
told_moves m m2 s s' p q e (Err fault) is moves = subst (λ (x : MasterView). MovesOn (held_of x).earlier q) is moves
