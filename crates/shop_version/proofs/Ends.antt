-- How a merge ends.
use Rattle.std.proofs.Common.{◌≡◌, ◌≢◌, ℕ, List, [], ◌∷◌, filter, map, sym, ap, subst, ◌∙◌, Some, Result, Ok, Err}
use Rattle.std.specs.Prelude.{IsErrAnd}
use Rattle.shop_defs.specs.declared.delta.Delta.{Delta}
use Rattle.shop_defs.specs.declared.refused.PlanFault.{PlanFault}
use Rattle.shop_defs.specs.declared.row.Row.{Row}
use Rattle.shop_defs.specs.Joined.{Change, joined}
use Rattle.shop_defs.specs.Rows.{row_at, change_rows}
use Rattle.shop_operations.specs.Views.{View, live_view, drafted}
use Rattle.shop_rows.specs.Changing.{StandUnderTheirKeys, HasAscendingKeys}
use Rattle.shop_drafts.specs.Drafts.{draft_key}
use Rattle.shop_drafts.specs.Making.{is_of_draft}
use Rattle.shop_drafts.specs.Merging.{log, replayed, merge}
use Rattle.shop_drafts.specs.Soundness.{AreDrafted}
use Rattle.shop_write.specs.Growth.{Growth, changes_so_far, grown, grown_view, taken_out}
use Rattle.shop_write.proofs.BatchSteps.{view_first}
use Rattle.shop_version.specs.Plans.{IsPlanOf, IsFaultOf, PlansMerge}
use Rattle.shop_version.proofs.Assembled.{merge_fault, merge_plan}
use Rattle.shop_version.proofs.Rounds.{left_is, same_fault}

module _ (rows : List Row) (version : ℕ) (draft : Row) (there : row_at rows (draft_key version) ≡ Some draft) (first : Growth) (new : first ≡ record { base = rows; lost = []; over = [] }) where
  sees : grown_view first ≡ live_view rows
  sees = ap grown_view new ∙ view_first rows

  -- by the replay and the drop
  pub merged_plan : (growth : Growth) (live lost : Delta) (changes : List Change) → AreDrafted rows → version ≢ 0 → growth.base ≡ first.base → replayed (grown_view first) (log rows version) ≡ Ok (grown growth)
      → live.changes ≡ changes_so_far growth → drafted (change_rows growth.base live.changes) ≡ drafted growth.base → StandUnderTheirKeys live.changes → lost.changes ≡ map taken_out (filter (is_of_draft version) rows)
      → changes ≡ joined (live ∷ lost ∷ []) → HasAscendingKeys changes → IsPlanOf rows (merge rows version) changes
  merged_plan growth live lost changes are not_live b replay made drafts stand gone is ascends =
      let base : growth.base ≡ rows = b ∙ ap (λ (g : Growth). g.base) new in
      let done : replayed (live_view rows) (log rows version) ≡ Ok (grown growth) = subst (λ (view : View). replayed view (log rows version) ≡ Ok (grown growth)) sees replay in
      let same : drafted (change_rows rows live.changes) ≡ drafted rows = subst (λ (base : List Row). drafted (change_rows base live.changes) ≡ drafted base) base drafts in
      merge_plan rows version draft (grown growth) live lost changes are not_live there done (left_is growth rows live.changes base made) same stand gone is ascends

  -- by an operation that is refused
  pub merged_fault : (fault : PlanFault) → IsFaultOf (replayed (grown_view first) (log rows version)) fault → IsFaultOf (merge rows version) fault
  merged_fault fault is = merge_fault rows version draft fault there (same_fault _ _ fault (ap (λ (view : View). replayed view (log rows version)) sees) is)

-- the refusal is handed on
pub merge_err : (rows : List Row) (version : ℕ) (answer : Result (Delta × ℕ) PlanFault) (fault : PlanFault) → IsErrAnd answer (λ e. e ≡ fault) → IsFaultOf (merge rows version) fault → PlansMerge rows version answer
merge_err rows version (Ok plan) fault is h = absurd is
merge_err rows version (Err e) fault is h = subst (IsFaultOf (merge rows version)) (sym is) h
