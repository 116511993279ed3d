-- A published copy and the deltas after it.
use Rattle.std.specs.Prelude.{ℕ, ◌≡◌, ◌+◌, ◌-◌, ◌≤◌, ◌<◌, ◌^◌, List, [], ◌∷◌, length, drop, Result, Ok, Err}
use Rattle.shop_defs.specs.declared.row.Row.{Row}
use Rattle.shop_defs.specs.Joined.{Change}
use Rattle.shop_defs.specs.Rows.{change_rows}
use Rattle.shop_check.specs.Soundness.{AreSound}
use Rattle.idx_copy.specs.Copies.{CopyView, IsCopy}
use Rattle.idx_copy.specs.Fronts.{rows_after, EachFits}
use Rattle.publishing.specs.declared.queue.Older.{Older}

-- what is seen of a queue: the published copy, the changes of each pending delta, and the room for more
pub record QueueView : Type 0 where
  pub copy : CopyView
  pub pending : List (List Change)
  pub room : ℕ

-- the rows are sound after each of the lists of changes
abbrev pub AreSoundAfterEach : List Row → List (List Change) → Type 0
AreSoundAfterEach rows [] = Unit {0}
AreSoundAfterEach rows (changes ∷ rest) = AreSound (change_rows rows changes) × AreSoundAfterEach (change_rows rows changes) rest

-- what holds of every queue
pub record IsQueue (copy : CopyView) (pending : List (List Change)) : Type 0 where
  pub copy_is : IsCopy copy
  pub keys : EachFits pending
  pub sound : AreSoundAfterEach copy.rows pending
  pub front : copy.front + length pending < 2 ^ 63

-- all but the room is as it was
pub record StaysAs (old new : QueueView) : Type 0 where
  pub copy : new.copy ≡ old.copy
  pub pending : new.pending ≡ old.pending

-- a copy with a greater front takes the published one's place, and the deltas up to its front are taken off
pub record IsInstalled (old : QueueView) (built : CopyView) (new : QueueView) : Type 0 where
  pub above : old.copy.front < built.front
  pub copy : new.copy ≡ built
  pub pending : new.pending ≡ drop (built.front - old.copy.front) old.pending
  -- the same rows stand at the end
  pub leads : rows_after new.copy.rows new.pending ≡ rows_after old.copy.rows old.pending

-- any other is older, and nothing changes
pub record IsOlder (old : QueueView) (built : CopyView) (older : Older) (new : QueueView) : Type 0 where
  pub below : built.front ≤ old.copy.front
  pub mine : older.mine ≡ built.front
  pub published : older.published ≡ old.copy.front
  pub stays : new ≡ old

-- what an install answers and leaves
abbrev pub Installs : QueueView → CopyView → Result ℕ Older → QueueView → Type 0
Installs old built (Ok front) new = (front ≡ built.front) × IsInstalled old built new
Installs old built (Err older) new = IsOlder old built older new
