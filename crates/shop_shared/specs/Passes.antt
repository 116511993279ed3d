-- What callers are told.
use Rattle.std.specs.Prelude.{◌≡◌, ℕ, ℤ, ◌+◌, ◌≤◌, List, [], ◌∷◌, ◌++◌, length, Result, Ok, Err}
use mathlib.Core.List.{IsPrefix}
use Rattle.atomic_table.specs.Seated.{TableId}
use Rattle.shop_requests.specs.declared.command.Command.{Command}
use Rattle.shop_core.specs.declared.answers.Entry.{Entry}
use Rattle.shop_core.specs.declared.answers.Done.{Done}
use Rattle.shop_core.specs.declared.answers.CommitFault.{CommitFault}
use Rattle.shop_core.specs.History.{State, IsLegal, own, replay}
use Rattle.shop_core.specs.Shops.{ShopView}
use Rattle.shop_core.specs.Commits.{Steps}
use Rattle.shop_shared.specs.declared.view.CallerView.{CallerView}
use Rattle.shop_shared.specs.declared.view.DoorView.{DoorView}
use Rattle.shop_shared.specs.declared.view.Look.{Look}
use Rattle.shop_shared.specs.declared.view.Start.{Start}
use Rattle.shop_shared.specs.Looks.{last_faults}
use Rattle.shop_shared.specs.Views.{first_state}
use Rattle.shop_shared.specs.Rule.{IsFront, HasLooks}

-- ---- tables

-- the name of no table
abbrev pub no_table : TableId
no_table = record { words = 0; slots = 0; views_name = 0; atom = 0; block = 0; offset = 0; slot_names = [] }

-- what is seen of a new table: its name, what its history begins with, and the count of faults
pub record FreshTable : Type 0 where
  pub table : TableId
  pub start : Start
  pub faults : ℕ

-- the table begins with this shop
pub record BeginsWith (fresh : FreshTable) (shop : ShopView) : Type 0 where
  pub rows : fresh.start.rows ≡ shop.rows
  pub number : fresh.start.number ≡ shop.number
  pub faults : fresh.faults ≡ shop.faults

-- a door that begins with this shop, and has let in nobody
pub record IsNewDoor (door : DoorView) (shop : ShopView) : Type 0 where
  pub rows : door.start.rows ≡ shop.rows
  pub number : door.start.number ≡ shop.number
  pub made : door.made ≡ 0

-- ---- passes

-- the rows and the number after all that a pass has seen
abbrev pub seen_state : CallerView → State
seen_state c = replay (first_state c.start) c.seen

-- how many entries were accepted by all that it has seen, with those before the start
abbrev pub seen_number : CallerView → ℕ
seen_number c = c.start.number + length c.seen

-- what holds of every pass: each entry that it has seen is accepted at its place, its front is one of these, and its looks never
-- fall and end with what it has seen
pub record IsPass (c : CallerView) : Type 0 where
  pub legal : IsLegal (first_state c.start) c.seen
  pub front : IsFront c.start.number (seen_number c) c.front
  pub looks : HasLooks c

-- one look more, of all that was then seen: the count found is no less than the last one, and the count at its end no less than that
pub record LooksOnce (p q : CallerView) : Type 0 where
  pub look : Look
  pub added : q.looks ≡ p.looks ++ look ∷ []
  pub length_is : look.length ≡ length q.seen
  pub front : look.front ≡ q.front
  pub found : last_faults 0 p.looks ≤ look.found
  pub faults : look.found ≤ look.faults

-- Of the pass that a call gives back, which took the lock: it is of the same caller and shop, it has seen all that it had seen and
-- perhaps more, by one look, and its front is no earlier.
pub record MovesOn (p q : CallerView) : Type 0 where
  pub number : q.number ≡ p.number
  pub start : q.start ≡ p.start
  pub seen : IsPrefix p.seen q.seen
  pub looks : LooksOnce p q
  pub front : p.front ≤ q.front
  pub is : IsPass q

-- the caller's own entries are those that it had
abbrev pub SameOwn : CallerView → CallerView → Type 0
SameOwn p q = own q.number q.seen ≡ own p.number p.seen

-- both have seen the same
pub record HaveMet (p q : CallerView) : Type 0 where
  pub seen : q.seen ≡ p.seen
  pub front : q.front ≡ p.front

-- ---- writes

abbrev pub entry_of : ℕ → Command → ℤ → Entry
entry_of caller command moment = record { caller = caller; command = command; moment = moment }

-- The command stands at the end of what was seen, once: it is the caller's one new entry, accepted at its place, with the front and
-- the value that are answered.
pub record IsWritten (p q : CallerView) (command : Command) (moment : ℤ) (done : Done) : Type 0 where
  pub earlier : List Entry
  pub last : q.seen ≡ earlier ++ entry_of p.number command moment ∷ []
  pub own_is : own q.number q.seen ≡ own p.number p.seen ++ entry_of p.number command moment ∷ []
  pub steps : Steps (replay (first_state q.start) earlier) command moment (Ok done) (seen_state q)
  pub front : done.front ≡ seen_number q

-- a write is answered as its step is after all that was seen: where it is accepted, the command stands last; else nothing was added
abbrev pub Writes : CallerView → CallerView → Command → ℤ → Result Done CommitFault → Type 0
Writes p q command moment (Ok done) = IsWritten p q command moment done
Writes p q command moment (Err fault) = SameOwn p q × Steps (seen_state q) command moment (Err fault) (seen_state q)
