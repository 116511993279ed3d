-- What the plans of drafts leave, in words.
use Rattle.std.proofs.Common.{◌≡◌, ◌≢◌, ℕ, not, List, ap, ◌∙◌, Result, Ok, Err}
use Rattle.shop_defs.specs.declared.delta.Delta.{Delta}
use Rattle.shop_defs.specs.declared.refused.PlanFault.{PlanFault}
use Rattle.shop_defs.specs.declared.row.Row.{Row}
use Rattle.shop_defs.specs.Joined.{Change}
use Rattle.shop_defs.specs.Rows.{change_rows}
use Rattle.shop_defs.specs.Fitting.{is_writable}
use Rattle.shop_operations.specs.Views.{live_view}
use Rattle.shop_soundness.specs.WellFormed.{unwritten}
use Rattle.shop_drafts.proofs.Apart.{dropping, merging, filter_swap}
use Rattle.shop_drafts.proofs.Merged.{live_rows}
use Rattle.shop_drafts.proofs.Replays.{gone}
use Rattle.shop_drafts.proofs.Shown.{nothing_else_changes}
use Rattle.shop_drafts.specs.Making.{drop_draft, dropped, is_of_draft}
use Rattle.shop_drafts.specs.Merging.{merge, log}
use Rattle.shop_drafts.specs.Soundness.{AreDrafted}
use Rattle.shop_version.specs.Laws.{MergeLeaves, DropLeaves, LeavesMerge}
use Rattle.shop_version.specs.Plans.{IsPlanOf, PlansMerge}
use Rattle.shop_version.proofs.Assembled.{log_changes}
use Rattle.shop_drafts.proofs.Unwritten.{replay_leaves}

-- what is dropped and what may not be written are found in either order
swap : (rows : List Row) (version : ℕ) → unwritten (dropped rows version) ≡ dropped (unwritten rows) version
unfolding dropped
swap rows version = filter_swap (λ row. not (is_writable row.key.entity)) (λ row. not (is_of_draft version row)) rows

pub merge_leaves : (rows : List Row) (version : ℕ) (changes : List Change) → AreDrafted rows → version ≢ 0 → IsPlanOf rows (merge rows version) changes → MergeLeaves rows (change_rows rows changes) version
merge_leaves rows version changes drafted not_live plan =
    let after = change_rows rows changes in
    let replay = live_rows rows after version drafted.in_order plan.rows in
    record {
      now = replay.now;
      replay = replay.replay;
      live_rows = replay.left;
      drafts = merging rows after version plan.rows;
      others = ap unwritten replay.left ∙ (swap replay.now version ∙ ap (λ rows. dropped rows version) (replay_leaves (live_view rows) (log rows version) replay.now (log_changes rows version drafted not_live) replay.replay));
      gone = gone rows after version plan.rows;
    }

pub drop_leaves : (rows : List Row) (version : ℕ) (changes : List Change) → AreDrafted rows → version ≢ 0 → IsPlanOf rows (drop_draft rows version) changes → DropLeaves rows (change_rows rows changes) version
drop_leaves rows version changes drafted not_live plan =
    let after = change_rows rows changes in
    record { others = dropping rows after version plan.rows; shows = nothing_else_changes.dropped_shows rows after version drafted.in_order not_live plan.rows }

pub merge_answer : (rows : List Row) (version : ℕ) (answer : Result (Delta × ℕ) PlanFault) → AreDrafted rows → version ≢ 0 → PlansMerge rows version answer → LeavesMerge rows version answer
merge_answer rows version (Ok plan) drafted not_live is = merge_leaves rows version plan.0.changes drafted not_live is.0
merge_answer rows version (Err fault) drafted not_live is = tt
