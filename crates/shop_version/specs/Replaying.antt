-- Steps of a merge. No public contract cites this.
use Rattle.std.specs.Prelude.{◌≡◌, ◌≤◌, ℕ, true, List, length, Some, Ok, Err}
use Rattle.std.specs.List.{list_all}
use Rattle.shop_defs.specs.declared.broken.Broken.{Broken}
use Rattle.shop_defs.specs.declared.broken.Broken.TheVariants as B
use Rattle.shop_defs.specs.declared.refused.PlanFault.{PlanFault}
use Rattle.shop_defs.specs.declared.refused.PlanFault.TheVariants as F
use Rattle.shop_defs.specs.declared.row.Row.{Row}
use Rattle.shop_defs.specs.Rows.{row_at}
use Rattle.shop_operations.specs.Operations.{operated}
use Rattle.shop_operations.specs.Views.{View}
use Rattle.shop_drafts.specs.Drafts.{commit_key}
use Rattle.shop_drafts.specs.Merging.{Logged, logged, merge_broken, replayed}
use Rattle.shop_drafts.specs.Soundness.{is_change}
use Rattle.shop_write.specs.Growth.{Growth, grown, grown_view}
use Rattle.shop_version.specs.Plans.{IsFaultOf}

-- the operation breaks that rule, of which the refusal speaks
pub record NamesRule (view : View) (entry : Logged) (named : Broken) : Type 0 where
  pub broken : Broken
  pub breaks : operated view entry.op true ≡ Err broken
  pub is : named ≡ merge_broken entry broken

-- the fault is want of memory, or the refusal of that operation for the rule that it breaks
abbrev pub IsReplayFault : View → Logged → PlanFault → Type 0
IsReplayFault view entry F.NoMemory = Unit {0}
IsReplayFault view entry (F.Refused refused) = (refused.op ≡ 0) × NamesRule view entry refused.broken

-- the fault is want of memory, or says that for that rule that operation breaks the merge
abbrev pub IsMergeFault : ℕ → ℕ → Broken → PlanFault → Type 0
IsMergeFault commit number broken F.NoMemory = Unit {0}
IsMergeFault commit number broken (F.Refused refused) = (refused.op ≡ 0) × (refused.broken ≡ B.MergeBroken commit number broken)

-- a commit that can be replayed: few operations, of which each may be held
pub record IsReplayable (commit : Row) : Type 0 where
  pub few : length commit.ops ≤ 1000
  pub changes : list_all is_change commit.ops ≡ true

-- there is a commit with that number, and it can be replayed
pub record IsCommitOf (rows : List Row) (version number : ℕ) : Type 0 where
  pub commit : Row
  pub found : row_at rows (commit_key version number) ≡ Some commit
  pub replayable : IsReplayable commit
  pub numbered : commit.key.second ≡ number

-- the operations of that commit were replayed, so many
pub record IsReplayed (rows : List Row) (version number : ℕ) (before after : Growth) (count : ℕ) : Type 0 where
  pub commit : Row
  pub found : row_at rows (commit_key version number) ≡ Some commit
  pub done : replayed (grown_view before) (logged commit) ≡ Ok (grown after)
  pub is_count : count ≡ length commit.ops
  pub few : count ≤ 1000

-- that commit isn't replayed: want of memory, or the first of its operations that is refused
pub record IsFaultAt (rows : List Row) (version number : ℕ) (view : View) (fault : PlanFault) : Type 0 where
  pub commit : Row
  pub found : row_at rows (commit_key version number) ≡ Some commit
  pub is : IsFaultOf (replayed view (logged commit)) fault
