-- What the held caller is given.
use Rattle.std.proofs.Common.{◌≡◌, refl, sym, arith, Some}
use Rattle.shop_core.specs.History.{own}
use Rattle.shop_shared.specs.declared.view.MasterView.{MasterView}
use Rattle.shop_shared.specs.declared.view.DoorView.{DoorView}
use Rattle.shop_shared.specs.declared.view.Held.{Held}
use Rattle.shop_shared.specs.Views.{first_state, given, new_look, new_caller}
use Rattle.shop_shared.specs.Rule.{IsKnown, StartsAs, HasSeen, HasSeenFront, HasLooks, IsFound}
use Rattle.shop_shared.specs.Passes.{IsPass, MovesOn}
use Rattle.shop_shared.proofs.Entries.{legal_none}
use Rattle.shop_shared.proofs.Keeping.{held_here}
use Rattle.shop_shared.proofs.Holds.{looks_given}

-- a new caller has seen nothing
pub new_pass : (d : DoorView) → IsPass (new_caller d)
new_pass d = record { legal = legal_none (first_state d.start); front = (omega arith, omega arith, omega arith); looks = (tt, refl, refl) }

pub given_pass : (m : MasterView) (h : Held) → m.held ≡ Some h → IsKnown m → IsPass (given m h)
given_pass m h is k =
    let start = held_here (λ x. StartsAs m x.earlier) m.held h is k.starts in
    let seen = held_here (λ x. HasSeen m x.earlier) m.held h is k.seen in
    let front = held_here (λ x. HasSeenFront m x.earlier) m.held h is k.fronts in
    let looks = held_here (λ x. HasLooks x.earlier) m.held h is k.looks in
    let found = held_here (IsFound m) m.held h is k.found_held in
    record { legal = k.legal; front = k.front; looks = looks_given m h start seen front looks found.0 found.1 }

pub moves : (m : MasterView) (h : Held) → m.held ≡ Some h → IsKnown m → MovesOn h.earlier (given m h)
moves m h is k =
    let start = held_here (λ x. StartsAs m x.earlier) m.held h is k.starts in
    let front = held_here (λ x. HasSeenFront m x.earlier) m.held h is k.fronts in
    let found = held_here (IsFound m) m.held h is k.found_held in
    record {
      number = refl;
      start = sym start;
      seen = held_here (λ x. HasSeen m x.earlier) m.held h is k.seen;
      looks = record { look = new_look m h; added = refl; length_is = refl; front = refl; found = found.0; faults = found.1 };
      front = front.1;
      is = given_pass m h is k;
    }

pub given_own : (m : MasterView) (h : Held) → m.held ≡ Some h → IsKnown m → own (given m h).number (given m h).seen ≡ h.own
given_own m h is k = sym (held_here (λ x. x.own ≡ own x.earlier.number m.history) m.held h is k.own_held)
