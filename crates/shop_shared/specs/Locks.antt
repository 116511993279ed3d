-- What stands under the lock.
use Rattle.std.specs.Prelude.{◌≡◌, ℕ, ◌+◌, ◌≤◌, List, length, take, Bool, true, Option, None}
use Rattle.shop_defs.specs.declared.row.Row.{Row}
use Rattle.shop_outside.specs.declared.keeper.Kept.{Kept}
use Rattle.shop_defs.specs.Joined.{Change}
use Rattle.shop_check.specs.Soundness.{AreSound}
use Rattle.idx_copy.specs.Copies.{CopyView}
use Rattle.idx_copy.specs.Fronts.{rows_after}
use Rattle.shop_core.specs.declared.answers.Entry.{Entry}
use Rattle.shop_core.specs.History.{State, replay, at}
use Rattle.shop_core.specs.Shops.{ShopView, HoldsKept, state_of}
use Rattle.shop_shared.specs.declared.view.MasterView.{MasterView}
use Rattle.shop_shared.specs.declared.view.CallerView.{CallerView}
use Rattle.shop_shared.specs.Views.{first_state}
use Rattle.shop_shared.specs.Rule.{accepted}
use Rattle.shop_shared.specs.Passes.{seen_state, seen_number}

-- from the copy's rows, each further pending delta leads to the rows at one front more
abbrev pub LeadOn : State → List Entry → CopyView → List (List Change) → Type 0
LeadOn start history copy pending = (count : ℕ) → count ≤ length pending → rows_after copy.rows (take count pending) ≡ at start history (copy.front + count)

-- What holds whenever the lock is free: nobody is held, the shop is the one after the history, its published copy is that at the
-- front, and the pending deltas lead on from it one entry each.
pub record AreTied (m : MasterView) (shop : ShopView) (shut : Bool) : Type 0 where
  pub free : m.held ≡ None
  pub made : m.door_made ≡ true
  pub shut_is : m.shut ≡ shut
  pub state : state_of shop ≡ replay (first_state m.start) m.history
  pub number : accepted m ≡ shop.number
  pub front : m.front ≡ shop.copy.front
  pub faults : m.faults ≡ shop.faults
  pub leads : LeadOn (first_state m.start) m.history shop.copy shop.pending

-- what is seen of what lies under the lock: what the master knows, and the shop
pub record LockView : Type 0 where
  pub master : MasterView
  pub shop : ShopView

-- a pass has seen all of it
pub record HasSeenAll (lock : LockView) (q : CallerView) : Type 0 where
  pub start : q.start ≡ lock.master.start
  pub seen : q.seen ≡ lock.master.history
  pub state : seen_state q ≡ state_of lock.shop
  pub number : seen_number q ≡ lock.shop.number
  pub front : q.front ≡ lock.master.front
  pub published : q.front ≡ lock.shop.copy.front

-- a keeper that tells what it holds holds what is kept of sound rows, and a number
abbrev pub HoldsAShop : Option Kept → Type 0
HoldsAShop content = (rows : List Row) × (number : ℕ) × AreSound rows × HoldsKept content rows number
