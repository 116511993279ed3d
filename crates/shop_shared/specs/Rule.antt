-- The rule of the table. Each part is one fact about its words, the master's view and all views.
use Rattle.std.specs.Prelude.{◌≡◌, ◌≢◌, ℕ, ◌+◌, ◌≤◌, ◌<◌, ◌^◌, List, [], ◌∷◌, length, true, false, Some, None, Option}
use Rattle.std.specs.List.{AllByRecursion}
use mathlib.Core.Option.{some}
use mathlib.Core.List.{IsPrefix}
use lib.ListN.{get_elem?}
use Rattle.atomic_table.specs.Table.{State}
use Rattle.shop_core.specs.declared.answers.Entry.{Entry}
use Rattle.shop_core.specs.History.{IsLegal, own}
use Rattle.shop_core.specs.Publishing.{most_pending}
use Rattle.shop_shared.specs.declared.view.View.{View}
use Rattle.shop_shared.specs.declared.view.View.TheVariants.{Keeps, Admits, Calls, Spent}
use Rattle.shop_shared.specs.declared.view.MasterView.{MasterView}
use Rattle.shop_shared.specs.declared.view.CallerView.{CallerView}
use Rattle.shop_shared.specs.declared.view.DoorView.{DoorView}
use Rattle.shop_shared.specs.declared.view.Held.{Held}
use Rattle.shop_shared.specs.Looks.{NeverFall, last_length, last_front, last_faults}
use Rattle.shop_shared.specs.Views.{first_state}

-- ---- of which views a fact speaks

-- of each view, with its seat's number
abbrev pub EachView : (ℕ → View → Type 0) → List View → Type 0
EachView P views = (seat : ℕ) (v : View) → get_elem? views seat ≡ some v → P seat v

-- of a view, where it is a caller's, the door's, the master's
abbrev pub AtCaller : (CallerView → Type 0) → View → Type 0
AtCaller P (Calls c) = P c
AtCaller P _ = Unit {0}

abbrev pub AtDoor : (DoorView → Type 0) → View → Type 0
AtDoor P (Admits d) = P d
AtDoor P _ = Unit {0}

abbrev pub AtMaster : Type 0 → View → Type 0
AtMaster P (Keeps m) = P
AtMaster P _ = Unit {0}

-- of who is held, if anybody is
abbrev pub AtHeld : (Held → Type 0) → Option Held → Type 0
AtHeld P (Some h) = P h
AtHeld P None = Unit {0}

-- of each caller's view, and of the held caller's earlier one
abbrev pub OfCallers : (CallerView → Type 0) → MasterView → List View → Type 0
OfCallers P m views = EachView (λ seat v. AtCaller P v) views × AtHeld (λ h. P h.earlier) m.held

-- ---- the words and the history

-- how many entries were accepted, with those before the start
abbrev pub accepted : MasterView → ℕ
accepted m = m.start.number + length m.history

-- word 0 counts the accepted entries, word 1 is the published front; nothing is said of word 2
abbrev pub WordsAre : MasterView → List ℕ → Type 0
WordsAre m words = (other : ℕ) × (words ≡ accepted m ∷ m.front ∷ other ∷ [])

-- the front is no earlier than the start, no later than the last entry, and at most 1,024 entries behind it
abbrev pub IsFront : ℕ → ℕ → ℕ → Type 0
IsFront start last front = (start ≤ front) × (front ≤ last) × (last ≤ front + most_pending)

abbrev pub HasFront : MasterView → Type 0
HasFront m = IsFront m.start.number (accepted m) m.front

-- each entry of the history is accepted at its place
abbrev pub HasLegal : MasterView → Type 0
HasLegal m = IsLegal (first_state m.start) m.history

-- ---- what each caller has seen

-- all begin alike
abbrev pub StartsAs : MasterView → CallerView → Type 0
StartsAs m c = c.start ≡ m.start

-- what it has seen is a beginning of the history
abbrev pub HasSeen : MasterView → CallerView → Type 0
HasSeen m c = IsPrefix c.seen m.history

-- the front that it has seen is one of what it has seen, and no later than the published one
abbrev pub HasSeenFront : MasterView → CallerView → Type 0
HasSeenFront m c = IsFront c.start.number (c.start.number + length c.seen) c.front × (c.front ≤ m.front)

-- its looks never fall, and the last one is of what it has seen; without one it has seen nothing
abbrev pub HasLooks : CallerView → Type 0
HasLooks c = NeverFall 0 c.start.number 0 c.looks × (last_length 0 c.looks ≡ length c.seen) × (last_front c.start.number c.looks ≡ c.front)

-- no count of its looks is above the master's
abbrev pub HasCounts : MasterView → CallerView → Type 0
HasCounts m c = last_faults 0 c.looks ≤ m.faults

-- it has seen the shop shut only where it was
abbrev pub HasSeenShut : MasterView → CallerView → Type 0
HasSeenShut m c = c.shut ≡ true → m.shut ≡ true

-- ---- whose entries there are

-- of each caller that isn't held, the history has the entries that it has seen, and no others
abbrev pub HasAllItsOwn : MasterView → CallerView → Type 0
HasAllItsOwn m c = own c.number m.history ≡ own c.number c.seen

-- of the held caller it has those that stand beside it
abbrev pub HeldOwn : MasterView → Type 0
HeldOwn m = AtHeld (λ h. h.own ≡ own h.earlier.number m.history) m.held

-- the count that was found as the held caller was taken in is no earlier than its last look, and no later than the master's
abbrev pub IsFound : MasterView → Held → Type 0
IsFound m h = (last_faults 0 h.earlier.looks ≤ h.found) × (h.found ≤ m.faults)

abbrev pub HeldFound : MasterView → Type 0
HeldFound m = AtHeld (IsFound m) m.held

-- ---- which seats there are

-- the first seat is the master's, and no other
abbrev pub OneMaster : List View → Type 0
OneMaster views = EachView (λ seat v. AtMaster (seat ≡ 0) v) views

-- the door begins as the master does, and its number fits
abbrev pub IsDoorOf : MasterView → DoorView → Type 0
IsDoorOf m d = (d.start ≡ m.start) × (d.made < 2 ^ 32)

-- every entry is of a caller below that number
abbrev pub AreBelow : ℕ → List Entry → Type 0
AreBelow made entries = AllByRecursion (λ entry. entry.caller < made) entries

-- every number, of a caller, held, or of an entry, is below how many the door has let in
abbrev pub NumbersBelow : MasterView → List View → DoorView → Type 0
NumbersBelow m views d = OfCallers (λ c. c.number < d.made) m views × AreBelow d.made m.history

-- two seats that may not both be there: two callers of one number, two doors
abbrev pub ClashCaller : CallerView → View → Type 0
ClashCaller c (Calls other) = c.number ≡ other.number
ClashCaller c _ = ⊥

abbrev pub ClashDoor : View → Type 0
ClashDoor (Admits other) = Unit {0}
ClashDoor _ = ⊥

abbrev pub Clash : View → View → Type 0
Clash (Calls c) w = ClashCaller c w
Clash (Admits d) w = ClashDoor w
Clash _ w = ⊥

-- seats that clash are one
abbrev pub AllApart : List View → Type 0
AllApart views = EachView (λ seat v. EachView (λ other w. Clash v w → seat ≡ other) views) views

-- no caller's seat has the held caller's number
abbrev pub IsApart : MasterView → CallerView → Type 0
IsApart m c = AtHeld (λ h. c.number ≢ h.earlier.number) m.held

-- a view that may be there before the door is made: no caller's, and no door's
abbrev pub IsEarly : View → Type 0
IsEarly (Keeps m) = Unit {0}
IsEarly Spent = Unit {0}
IsEarly _ = ⊥

-- before the door is made there is no caller, nobody is held, and nothing was accepted
abbrev pub BeforeTheDoor : MasterView → List View → Type 0
BeforeTheDoor m views = m.door_made ≡ false → EachView (λ seat v. IsEarly v) views × (m.held ≡ None) × (m.history ≡ [])

-- ---- the parts together

pub record IsKept (m : MasterView) (words : List ℕ) (views : List View) : Type 0 where
  pub at : get_elem? views 0 ≡ some (Keeps m)
  pub words_are : WordsAre m words
  pub front : HasFront m
  pub legal : HasLegal m
  pub starts : OfCallers (StartsAs m) m views
  pub seen : OfCallers (HasSeen m) m views
  pub fronts : OfCallers (HasSeenFront m) m views
  pub looks : OfCallers HasLooks m views
  pub counts : OfCallers (HasCounts m) m views
  pub shuts : OfCallers (HasSeenShut m) m views
  pub own_seen : EachView (λ seat v. AtCaller (HasAllItsOwn m) v) views
  pub own_held : HeldOwn m
  pub found_held : HeldFound m
  pub one_master : OneMaster views
  pub doors : EachView (λ seat v. AtDoor (IsDoorOf m) v) views
  pub below : EachView (λ seat v. AtDoor (NumbersBelow m views) v) views
  pub apart : AllApart views
  pub held_apart : EachView (λ seat v. AtCaller (IsApart m) v) views
  pub before : BeforeTheDoor m views

-- the rule: it is kept at some master's view
abbrev pub IsRuled : State ℕ View → Type 0
IsRuled s = (m : MasterView) × IsKept m s.words s.views

-- what the rule says of the master's view alone, which it may be told at any time
pub record IsKnown (m : MasterView) : Type 0 where
  pub front : HasFront m
  pub legal : HasLegal m
  pub starts : AtHeld (λ h. StartsAs m h.earlier) m.held
  pub seen : AtHeld (λ h. HasSeen m h.earlier) m.held
  pub fronts : AtHeld (λ h. HasSeenFront m h.earlier) m.held
  pub looks : AtHeld (λ h. HasLooks h.earlier) m.held
  pub own_held : HeldOwn m
  pub found_held : HeldFound m
