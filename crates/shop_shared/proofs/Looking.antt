-- What is seen under the lock, where nothing changes.
use Rattle.std.proofs.Common.{◌≡◌, ℕ, List, [], refl, sym, ap, ◌∙◌, subst, Some, None, Option, Bool}
use Rattle.shop_core.specs.History.{State, own, replay}
use Rattle.shop_outside.specs.declared.keeper.Kept.{Kept}
use Rattle.shop_core.specs.Shops.{ShopView, IsShop, HoldsKept, state_of}
use Rattle.shop_shared.specs.declared.view.MasterView.{MasterView}
use Rattle.shop_shared.specs.declared.view.CallerView.{CallerView}
use Rattle.shop_shared.specs.declared.view.Held.{Held}
use Rattle.shop_shared.specs.Views.{holding, released, given, held_of}
use Rattle.shop_shared.specs.Passes.{HaveMet, MovesOn, SameOwn, seen_state, seen_number}
use Rattle.shop_shared.specs.Locks.{LockView, AreTied, HasSeenAll, HoldsAShop}

-- what is under the lock, by its parts
abbrev pub lock_at : MasterView → ShopView → LockView
lock_at m s = record { master = m; shop = s }

-- who was taken in and let go leaves the master as it was
pub free_again : (m : MasterView) (p : CallerView) → m.held ≡ None → released (holding m p) ≡ m
free_again m p free = λ i. record m { held = sym free i }

pub freed : (m held now : MasterView) (p : CallerView) → m.held ≡ None → held ≡ holding m p → now ≡ released held → now ≡ m
freed m held now p free holds frees = frees ∙ (ap released holds ∙ free_again m p free)

pub held_moves : (m held : MasterView) (p q : CallerView) → held ≡ holding m p → MovesOn (held_of held).earlier q → MovesOn p q
held_moves m held p q holds on = subst (λ (x : MasterView). MovesOn (held_of x).earlier q) holds on

pub held_own : (m held : MasterView) (p q : CallerView) → held ≡ holding m p → own q.number q.seen ≡ (held_of held).own → SameOwn p q
held_own m held p q holds is = is ∙ ap (λ (x : MasterView). (held_of x).own) holds

pub seen_all : (m held : MasterView) (s : ShopView) (b : Bool) (p q : CallerView) → AreTied m s b → held ≡ holding m p → q ≡ given held (held_of held) → HasSeenAll (lock_at m s) q
seen_all m held s b p q tied holds is =
    let new : q ≡ given (holding m p) (held_of (holding m p)) = is ∙ ap (λ (x : MasterView). given x (held_of x)) holds in
    record {
      start = ap (λ (x : CallerView). x.start) new;
      seen = ap (λ (x : CallerView). x.seen) new;
      state = ap (λ (x : CallerView). seen_state x) new ∙ sym tied.state;
      number = ap (λ (x : CallerView). seen_number x) new ∙ tied.number;
      front = ap (λ (x : CallerView). x.front) new;
      published = ap (λ (x : CallerView). x.front) new ∙ tied.front;
    }

-- two who have seen all of the same have met
pub both_see : (before after : LockView) (p q : CallerView) → HasSeenAll before p → after ≡ before → HasSeenAll after q → HaveMet p q
both_see before after p q first same second = record {
  seen = second.seen ∙ (ap (λ (l : LockView). l.master.history) same ∙ sym first.seen);
  front = second.front ∙ (ap (λ (l : LockView). l.master.front) same ∙ sym first.front);
}

-- the keeper of a shop holds its rows
pub closes : (s : ShopView) (content : Option Kept) → IsShop s → content ≡ s.content → HoldsAShop content
closes s content shop same = (s.rows, s.number, shop.sound, subst (λ (k : Option Kept). HoldsKept k s.rows s.number) (sym same) shop.kept)
