-- What contracts see of a shop's state, and what always holds of it.
use Rattle.std.specs.Prelude.{ℕ, ◌≡◌, ◌+◌, ◌<◌, ◌^◌, List, length, Option, Some, None}
use Rattle.shop_defs.specs.declared.row.Row.{Row}
use Rattle.shop_outside.specs.declared.keeper.Kept.{Kept}
use Rattle.shop_defs.specs.Joined.{Change}
use Rattle.shop_check.specs.Soundness.{kept, AreSound}
use Rattle.idx_copy.specs.Copies.{CopyView}
use Rattle.idx_copy.specs.Fronts.{rows_after}
use Rattle.publishing.specs.Queues.{IsQueue}
use Rattle.shop_core.specs.History.{State}

-- what is seen of a shop: its rows, how many entries were accepted, what its keeper holds, where it tells, how often a call of the
-- keeper failed, the published copy, and what each entry changed that the copy hasn't taken in, in their order
pub record ShopView : Type 0 where
  pub rows : List Row
  pub number : ℕ
  pub content : Option Kept
  pub faults : ℕ
  pub copy : CopyView
  pub pending : List (List Change)

-- its rows and its number
abbrev pub state_of : ShopView → State
state_of view = record { rows = view.rows; number = view.number }

-- a keeper that tells what it holds holds these rows, as they are kept, and this number
abbrev pub HoldsKept : Option Kept → List Row → ℕ → Type 0
HoldsKept None rows number = Unit {0}
HoldsKept (Some held) rows number = (held.rows ≡ kept rows) × (held.number ≡ number)

-- what holds of every shop
pub record IsShop (view : ShopView) : Type 0 where
  pub sound : AreSound view.rows  -- its rows keep all rules
  pub kept : HoldsKept view.content view.rows view.number  -- and its keeper holds them
  pub number : view.number < 2 ^ 63
  -- the copy is one, its rows are sound after each pending delta, and the deltas lead from its rows to the shop's
  pub queue : IsQueue view.copy view.pending
  pub leads : rows_after view.copy.rows view.pending ≡ view.rows
  pub counts : view.copy.front + length view.pending ≡ view.number  -- one for each entry above its front
