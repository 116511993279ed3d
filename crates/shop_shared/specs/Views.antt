-- What the seats know at the start, and how each kind of step changes it.
use Rattle.std.specs.Prelude.{ℕ, ◌+◌, [], ◌∷◌, ◌++◌, length, true, false, Some, None, Option}
use Rattle.shop_core.specs.declared.answers.Entry.{Entry}
use Rattle.shop_core.specs.History.{State, own}
use Rattle.shop_shared.specs.declared.view.View.{View}
use Rattle.shop_shared.specs.declared.view.View.TheVariants.{Keeps, Admits, Calls, Spent}
use Rattle.shop_shared.specs.declared.view.MasterView.{MasterView}
use Rattle.shop_shared.specs.declared.view.CallerView.{CallerView}
use Rattle.shop_shared.specs.declared.view.DoorView.{DoorView}
use Rattle.shop_shared.specs.declared.view.Held.{Held}
use Rattle.shop_shared.specs.declared.view.Look.{Look}
use Rattle.shop_shared.specs.declared.view.Start.{Start}
use Rattle.shop_shared.specs.declared.view.Opening.{Opening}

-- ---- at the start

-- the rows and the number that a history begins with
abbrev pub first_state : Start → State
first_state start = record { rows = start.rows; number = start.number }

-- the master of a new table: nothing was accepted, no door was made, nobody is held
abbrev pub fresh_master : Start → ℕ → MasterView
fresh_master start faults = record { start = start; history = []; front = start.number; faults = faults; door_made = false; shut = false; held = None }

abbrev pub start_of : Opening → Start
start_of opening = record { rows = opening.rows.value.list; number = opening.number }

abbrev pub new_master : Opening → MasterView
new_master opening = fresh_master (start_of opening) 0

-- ---- the kinds of step

-- door: the master has that it was made, and it has let in nobody
abbrev pub with_door : MasterView → MasterView
with_door m = record m { door_made = true }

abbrev pub new_door : MasterView → DoorView
new_door m = record { start = m.start; made = 0 }

-- enter: the door has let in one more, who has the number that it had, and has seen nothing
abbrev pub one_more : DoorView → DoorView
one_more d = record d { made = d.made + 1 }

abbrev pub new_caller : DoorView → CallerView
new_caller d = record { number = d.made; start = d.start; seen = []; front = d.start.number; looks = []; shut = false }

-- join: the master holds the caller, and finds its own entries and the keeper's count as they are
abbrev pub holding : MasterView → CallerView → MasterView
holding m c = record m { held = Some record { own = own c.number c.seen; found = m.faults; earlier = c } }

-- commit: the history and the held caller's own entries grow by the same entry
abbrev pub grown : Option Held → Entry → Option Held
grown (Some h) e = Some (record h { own = h.own ++ e ∷ [] })
grown None e = None

abbrev pub committed : MasterView → Entry → MasterView
committed m e = record m { history = m.history ++ e ∷ []; held = grown m.held e }

-- publish: the front rises
abbrev pub raised : MasterView → ℕ → MasterView
raised m up = record m { front = m.front + up }

-- fault: the count becomes the keeper's
abbrev pub faulted : MasterView → ℕ → MasterView
faulted m count = record m { faults = count }

-- shut: the master has that the shop was shut
abbrev pub shut_down : MasterView → MasterView
shut_down m = record m { shut = true }

-- split and leave: the master holds nobody
abbrev pub released : MasterView → MasterView
released m = record m { held = None }

-- split: who was held is given all of the history, the front, whether the shop was shut, and one look more
abbrev pub new_look : MasterView → Held → Look
new_look m h = record { length = length m.history; front = m.front; found = h.found; faults = m.faults }

abbrev pub given : MasterView → Held → CallerView
given m h = record { number = h.earlier.number; start = m.start; seen = m.history; front = m.front; looks = h.earlier.looks ++ new_look m h ∷ []; shut = m.shut }

-- ---- the same steps on any view; on a view of another kind they are never taken

abbrev pub door_left : View → View
door_left (Keeps m) = Keeps (with_door m)
door_left _ = Spent

abbrev pub door_right : View → View
door_right (Keeps m) = Admits (new_door m)
door_right _ = Spent

abbrev pub enter_left : View → View
enter_left (Admits d) = Admits (one_more d)
enter_left _ = Spent

abbrev pub enter_right : View → View
enter_right (Admits d) = Calls (new_caller d)
enter_right _ = Spent

abbrev pub join_caller : MasterView → View → View
join_caller m (Calls c) = Keeps (holding m c)
join_caller m _ = Spent

abbrev pub join_both : View → View → View
join_both (Keeps m) w = join_caller m w
join_both _ w = Spent

abbrev pub commit_to : View → Entry → View
commit_to (Keeps m) e = Keeps (committed m e)
commit_to _ e = Spent

abbrev pub publish_to : View → ℕ → View
publish_to (Keeps m) up = Keeps (raised m up)
publish_to _ up = Spent

abbrev pub fault_to : View → ℕ → View
fault_to (Keeps m) count = Keeps (faulted m count)
fault_to _ count = Spent

abbrev pub shut_door : MasterView → View → View
shut_door m (Admits d) = Keeps (shut_down m)
shut_door m _ = Spent

abbrev pub shut_both : View → View → View
shut_both (Keeps m) w = shut_door m w
shut_both _ w = Spent

abbrev pub split_left : View → View
split_left (Keeps m) = Keeps (released m)
split_left _ = Spent

abbrev pub given_if : MasterView → Option Held → View
given_if m (Some h) = Calls (given m h)
given_if m None = Spent

abbrev pub split_right : View → View
split_right (Keeps m) = given_if m m.held
split_right _ = Spent

-- ---- what a view is, where it is of that kind

abbrev pub nowhere : Start
nowhere = record { rows = []; number = 0 }

abbrev pub nobody : CallerView
nobody = record { number = 0; start = nowhere; seen = []; front = 0; looks = []; shut = false }

abbrev pub master_of : View → MasterView
master_of (Keeps m) = m
master_of _ = fresh_master nowhere 0

abbrev pub caller_of : View → CallerView
caller_of (Calls c) = c
caller_of _ = nobody

abbrev pub door_of : View → DoorView
door_of (Admits d) = d
door_of _ = record { start = nowhere; made = 0 }

abbrev pub held_or : Option Held → Held
held_or (Some h) = h
held_or None = record { own = []; found = 0; earlier = nobody }

abbrev pub held_of : MasterView → Held
held_of m = held_or m.held
