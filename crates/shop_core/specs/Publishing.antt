-- The published copy of a shop and the deltas that it hasn't taken in: what becomes of them.
use Rattle.std.specs.Prelude.{ℕ, ◌≡◌, ◌-◌, ◌≤◌, ◌<◌, ◌++◌, ◌∷◌, [], List, length, drop, Result, Ok, Err}
use Rattle.publishing.specs.declared.queue.Older.{Older}
use Rattle.shop_defs.specs.Joined.{Change}
use Rattle.shop_defs.specs.Rows.{change_rows}
use Rattle.idx_copy.specs.Copies.{CopyView}
use Rattle.shop_core.specs.Shops.{ShopView}

-- so many deltas are pending at most
abbrev pub most_pending : ℕ
most_pending = 1024

-- all but what is published is as it was: the rows, the number, what the keeper holds, and its count of faults
pub record OnlyPublishes (old now : ShopView) : Type 0 where
  pub rows : now.rows ≡ old.rows
  pub number : now.number ≡ old.number
  pub content : now.content ≡ old.content
  pub faults : now.faults ≡ old.faults

-- the published copy and what is pending are as they were
pub record StaysPublished (old now : ShopView) : Type 0 where
  pub copy : now.copy ≡ old.copy
  pub pending : now.pending ≡ old.pending

-- the published copy is that after all accepted entries, and nothing is pending
pub record IsCaughtUp (now : ShopView) : Type 0 where
  pub front : now.copy.front ≡ now.number
  pub rows : now.copy.rows ≡ now.rows
  pub pending : now.pending ≡ []

-- all that was pending is taken in, and nothing else changes
pub record CatchesUp (old now : ShopView) : Type 0 where
  pub only : OnlyPublishes old now
  pub caught : IsCaughtUp now

-- Before a command is looked at: where fewer than the most are pending these and the copy stay, and else all of them are taken in.
pub record MakesRoom (old now : ShopView) : Type 0 where
  pub only : OnlyPublishes old now
  pub few : length old.pending < most_pending → StaysPublished old now
  pub full : most_pending ≤ length old.pending → IsCaughtUp now

-- One delta is put behind those that are pending, and it leads from the rows before to those after.
pub record AddsOne (old now : ShopView) : Type 0 where
  pub delta : List Change
  pub leads : now.rows ≡ change_rows old.rows delta
  pub copy : now.copy ≡ old.copy
  pub pending : now.pending ≡ old.pending ++ delta ∷ []

-- ---- install

-- a copy with a greater front takes the published one's place, and the deltas up to its front are taken off
pub record IsInstalled (old : ShopView) (built : CopyView) (now : ShopView) : Type 0 where
  pub above : old.copy.front < built.front
  pub copy : now.copy ≡ built
  pub pending : now.pending ≡ drop (built.front - old.copy.front) old.pending
  pub only : OnlyPublishes old now

-- any other is older, and nothing changes
pub record IsOlder (old : ShopView) (built : CopyView) (older : Older) (now : ShopView) : Type 0 where
  pub below : built.front ≤ old.copy.front
  pub mine : older.mine ≡ built.front
  pub published : older.published ≡ old.copy.front
  pub stays : now ≡ old

-- what an install answers and leaves
abbrev pub Installs : ShopView → CopyView → Result ℕ Older → ShopView → Type 0
Installs old built (Ok front) now = (front ≡ built.front) × IsInstalled old built now
Installs old built (Err older) now = IsOlder old built older now
