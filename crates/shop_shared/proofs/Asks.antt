-- What each step asks for, at a seat as the code has it.
use Rattle.std.proofs.Common.{◌≡◌, ℕ, ◌+◌, ◌%◌, ◌<◌, ◌≤◌, ◌^◌, [], refl, sym, subst, Some, None, false}
use mathlib.Core.Option.{none}
use Rattle.atomic_table.specs.Table.{Me, step, Allows, Splits, Joins}
use Rattle.shop_core.specs.declared.answers.Entry.{Entry}
use Rattle.shop_core.specs.Steps.{IsAccepted}
use Rattle.shop_core.specs.History.{step_at, replay}
use Rattle.shop_shared.specs.declared.view.View.{View}
use Rattle.shop_shared.specs.declared.view.View.TheVariants.{Keeps, Admits, Calls, Spent}
use Rattle.shop_shared.specs.declared.view.MasterView.{MasterView}
use Rattle.shop_shared.specs.declared.view.CallerView.{CallerView}
use Rattle.shop_shared.specs.declared.view.DoorView.{DoorView}
use Rattle.shop_shared.specs.declared.view.Held.{Held}
use Rattle.shop_shared.specs.Views.{first_state, door_left, door_right, enter_left, enter_right, join_both, shut_both, split_left, split_right}
use Rattle.shop_core.specs.Publishing.{most_pending}
use Rattle.shop_shared.specs.Rule.{accepted, IsRuled}
use Rattle.shop_shared.specs.Plays.{checked, commits, publishes, counts, leaves}
use Rattle.shop_shared.proofs.Doors.{door_splits, enter_splits, shut_joins}
use Rattle.shop_shared.proofs.Holds.{check_allowed, join_joins, leave_allowed, split_splits}
use Rattle.shop_shared.proofs.Counts.{commit_allowed, publish_allowed, fault_allowed}

-- the seat's number and what it knows, as they are known
here : {A : Type 0} (P : ℕ → A → Type 0) (id k : ℕ) (me at : A) → id ≡ k → me ≡ at → P k at → P id me
here {A} P id k me at e f x = subst (λ (y : ℕ × A). P y.0 y.1) (λ i. (sym e i, sym f i)) x

pub check_as : (slots id : ℕ) (me : Me ℕ View) (m : MasterView) → id ≡ 0 → me ≡ (Keeps m, []) → Allows IsRuled slots id me 0 (λ n. n) (checked (step slots 0 0 0 none) me)
check_as slots id me m e f = here (λ i x. Allows IsRuled slots i x 0 (λ n. n) (checked (step slots 0 0 0 none) x)) id 0 me (Keeps m, []) e f (check_allowed slots m [])

pub leave_as : (slots id : ℕ) (me : Me ℕ View) (m : MasterView) → id ≡ 0 → me ≡ (Keeps m, []) → Allows IsRuled slots id me 0 (λ n. n) (leaves (step slots 0 0 0 none) me)
leave_as slots id me m e f = here (λ i x. Allows IsRuled slots i x 0 (λ n. n) (leaves (step slots 0 0 0 none) x)) id 0 me (Keeps m, []) e f (leave_allowed slots m [])

pub commit_as : (slots id : ℕ) (me : Me ℕ View) (m : MasterView) (h : Held) (e : Entry) → id ≡ 0 → me ≡ (Keeps m, [])
    → m.held ≡ Some h → e.caller ≡ h.earlier.number → IsAccepted (step_at (replay (first_state m.start) m.history) e)
    → accepted m < m.front + most_pending → accepted m + 1 < 2 ^ 64
    → Allows IsRuled slots id me 0 (λ n. (n + 1) % 2 ^ 64) (commits (Some e) (step slots 0 1 0 none) me)
commit_as slots id me m h e is f held mine may room small = here (λ i x. Allows IsRuled slots i x 0 (λ n. (n + 1) % 2 ^ 64) (commits (Some e) (step slots 0 1 0 none) x)) id 0 me (Keeps m, []) is f (commit_allowed slots m [] h e held mine may room small)

pub publish_as : (slots id : ℕ) (me : Me ℕ View) (m : MasterView) (up : ℕ) → id ≡ 0 → me ≡ (Keeps m, [])
    → m.front + up ≤ accepted m → m.front + up < 2 ^ 64
    → Allows IsRuled slots id me 1 (λ n. (n + up) % 2 ^ 64) (publishes (step slots 1 up 0 none) me)
publish_as slots id me m up is f most small = here (λ i x. Allows IsRuled slots i x 1 (λ n. (n + up) % 2 ^ 64) (publishes (step slots 1 up 0 none) x)) id 0 me (Keeps m, []) is f (publish_allowed slots m [] up most small)

pub door_as : (id : ℕ) (v : View) (m : MasterView) → id ≡ 0 → v ≡ Keeps m → m.door_made ≡ false → Splits IsRuled id v (door_left v) (door_right v)
door_as id v m e f off = here (λ i x. Splits IsRuled i x (door_left x) (door_right x)) id 0 v (Keeps m) e f (door_splits m off)

pub enter_as : (id : ℕ) (v : View) (d : DoorView) → v ≡ Admits d → d.made + 1 < 2 ^ 32 → Splits IsRuled id v (enter_left v) (enter_right v)
enter_as id v d f room = here (λ i x. Splits IsRuled i x (enter_left x) (enter_right x)) id id v (Admits d) refl f (enter_splits id d room)

pub join_as : (id other : ℕ) (v w : View) (m : MasterView) (c : CallerView) → id ≡ 0 → v ≡ Keeps m → w ≡ Calls c → m.held ≡ None → Joins IsRuled id v other w (join_both v w) Spent
join_as id other v w m c e f g free = here (λ i (x : View × View). Joins IsRuled i x.0 other x.1 (join_both x.0 x.1) Spent) id 0 (v, w) (Keeps m, Calls c) e (λ i. (f i, g i)) (join_joins m other c free)

pub split_as : (id : ℕ) (v : View) (m : MasterView) (h : Held) → id ≡ 0 → v ≡ Keeps m → m.held ≡ Some h → Splits IsRuled id v (split_left v) (split_right v)
split_as id v m h e f is = here (λ i x. Splits IsRuled i x (split_left x) (split_right x)) id 0 v (Keeps m) e f (split_splits m h is)

pub fault_as : (slots id : ℕ) (me : Me ℕ View) (m : MasterView) (n : ℕ) → id ≡ 0 → me ≡ (Keeps m, []) → m.faults ≤ n
    → Allows IsRuled slots id me 2 (λ x. (x + 1) % 2 ^ 64) (counts n (step slots 2 1 0 none) me)
fault_as slots id me m n is f up = here (λ i x. Allows IsRuled slots i x 2 (λ y. (y + 1) % 2 ^ 64) (counts n (step slots 2 1 0 none) x)) id 0 me (Keeps m, []) is f (fault_allowed slots m [] n up)

pub shut_as : (id other : ℕ) (v w : View) (m : MasterView) (d : DoorView) → id ≡ 0 → v ≡ Keeps m → w ≡ Admits d → Joins IsRuled id v other w (shut_both v w) Spent
shut_as id other v w m d e f g = here (λ i (x : View × View). Joins IsRuled i x.0 other x.1 (shut_both x.0 x.1) Spent) id 0 (v, w) (Keeps m, Admits d) e (λ i. (f i, g i)) (shut_joins m other d)
