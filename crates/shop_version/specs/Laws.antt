-- What the plans of drafts leave, in words.
use Rattle.std.specs.Prelude.{◌≡◌, ◌≢◌, ◌≤◌, ℕ, List, [], filter, length, Result, Ok, Err}
use Rattle.shop_defs.specs.declared.delta.Delta.{Delta}
use Rattle.shop_defs.specs.declared.refused.PlanFault.{PlanFault}
use Rattle.shop_defs.specs.declared.row.Row.{Row}
use Rattle.shop_defs.specs.Rows.{change_rows}
use Rattle.shop_operations.specs.References.{live}
use Rattle.shop_operations.specs.Soundness.{IsCoherent}
use Rattle.shop_operations.specs.Views.{live_view, drafted}
use Rattle.shop_requests.specs.declared.raw.RawOp.{RawOp}
use Rattle.shop_soundness.specs.Batches.{live_batch}
use Rattle.shop_soundness.specs.WellFormed.{AreWellFormed, unwritten}
use Rattle.shop_drafts.specs.Laws.{OthersShowTheSame}
use Rattle.shop_drafts.specs.Making.{drop_draft, dropped, is_of_draft, make_draft}
use Rattle.shop_drafts.specs.Merging.{log, merge, replayed, with_live}
use Rattle.shop_drafts.specs.Soundness.{AreDrafted}
use Rattle.shop_drafts.specs.Writing.{draft_write}
use Rattle.shop_write.specs.BatchPlans.{HaveIds}

-- after making
pub record MakeLeaves (before after : List Row) (version : ℕ) : Type 0 where
  -- but for the draft, all rows are as they were
  pub rest : dropped after version ≡ before
  -- live and all other drafts show what they did
  pub shows : OthersShowTheSame version before after
  -- merging it at once would change nothing
  pub at_once : merge after version ≡ Ok before

-- after a merge
pub record MergeLeaves (before after : List Row) (version : ℕ) : Type 0 where
  -- the live rows are what the logged operations leave, done one after the other, each on the rows of that moment, without the
  -- rows that kept the draft
  pub now : List Row
  pub replay : replayed (live_view before) (log before version) ≡ Ok now
  pub live_rows : live after ≡ dropped now version
  -- the rows of all other drafts are as they were
  pub drafts : drafted after ≡ dropped (drafted before) version
  -- so are the drafts themselves, their commits, and whatever else operations may not write
  pub others : unwritten (live after) ≡ dropped (unwritten (live before)) version
  -- nothing is left of the draft
  pub gone : filter (is_of_draft version) after ≡ []

-- after a drop
pub record DropLeaves (before after : List Row) (version : ℕ) : Type 0 where
  -- all rows are as they were, but those of the draft
  pub others : after ≡ dropped before version
  -- live and all other drafts show what they did
  pub shows : OthersShowTheSame version before after

-- what the changes of a merge leave
abbrev pub LeavesMerge : List Row → ℕ → Result (Delta × ℕ) PlanFault → Type 0
LeavesMerge rows version (Ok plan) = MergeLeaves rows (change_rows rows plan.0.changes) version
LeavesMerge rows version (Err fault) = Unit {0}

-- what the changes of a drop leave
abbrev pub LeavesDrop : List Row → ℕ → Result Delta PlanFault → Type 0
LeavesDrop rows version (Ok delta) = DropLeaves rows (change_rows rows delta.changes) version
LeavesDrop rows version (Err fault) = Unit {0}

-- what the changes of making leave
abbrev pub LeavesMake : List Row → ℕ → Result Delta PlanFault → Type 0
LeavesMake rows version (Ok delta) = MakeLeaves rows (change_rows rows delta.changes) version
LeavesMake rows version (Err fault) = Unit {0}

-- Whatever is done leaves rows with drafts that can be worked on: a draft is made, a batch is done in it, it is dropped or
-- merged, or a batch is done on the live rows.
pub record StayDrafted : Type 0 where
  pub making : (rows after : List Row) (version : ℕ) (name : List ℕ) (id : ℕ) → AreDrafted rows → version ≢ 0 → make_draft rows version name id ≡ Ok after → AreDrafted after
  pub writing : (rows after : List Row) (version : ℕ) (ops : List RawOp) → AreDrafted rows → version ≢ 0 → length ops ≤ 1000 → HaveIds ops → draft_write rows version ops ≡ Ok after → AreDrafted after
  pub dropping : (rows after : List Row) (version : ℕ) → AreDrafted rows → version ≢ 0 → drop_draft rows version ≡ Ok after → AreDrafted after
  pub merging : (rows after : List Row) (version : ℕ) → AreDrafted rows → IsCoherent (live_view rows) → version ≢ 0 → merge rows version ≡ Ok after → AreDrafted after
  pub live_batches : (rows now : List Row) (ops : List RawOp) → AreDrafted rows → IsCoherent (live_view rows) → AreWellFormed (live rows) → HaveIds ops → live_batch rows ops ≡ Ok now → AreDrafted (with_live rows now)

-- and live rows that fit one another
pub record StayCoherent : Type 0 where
  pub making : (rows after : List Row) (version : ℕ) (name : List ℕ) (id : ℕ) → AreDrafted rows → IsCoherent (live_view rows) → version ≢ 0 → make_draft rows version name id ≡ Ok after → IsCoherent (live_view after)
  pub writing : (rows after : List Row) (version : ℕ) (ops : List RawOp) → AreDrafted rows → IsCoherent (live_view rows) → version ≢ 0 → length ops ≤ 1000 → HaveIds ops → draft_write rows version ops ≡ Ok after → IsCoherent (live_view after)
  pub dropping : (rows after : List Row) (version : ℕ) → AreDrafted rows → IsCoherent (live_view rows) → version ≢ 0 → drop_draft rows version ≡ Ok after → IsCoherent (live_view after)
  pub merging : (rows after : List Row) (version : ℕ) → AreDrafted rows → IsCoherent (live_view rows) → version ≢ 0 → merge rows version ≡ Ok after → IsCoherent (live_view after)
