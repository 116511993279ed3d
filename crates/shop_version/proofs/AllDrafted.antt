-- Whatever is done leaves rows with drafts that can be worked on.
use Rattle.std.proofs.Common.{◌≡◌, ◌≢◌, ℕ, Bool, true, false, ◌⊎◌, inl, inr, List, [], ◌∷◌, length, ◌≤◌, refl, sym, ap, subst, ◌∙◌, Result, Ok, Err, if◌then◌else◌}
use Rattle.std.specs.Prelude.{is_some}
use Rattle.shop_defs.specs.declared.broken.Broken.{Broken}
use Rattle.shop_defs.specs.declared.broken.Broken.TheVariants as B
use Rattle.shop_defs.specs.declared.key.Key.{Key}
use Rattle.shop_defs.specs.declared.row.Row.{Row}
use Rattle.shop_defs.specs.Rows.{row_at}
use Rattle.shop_operations.specs.References.{live}
use Rattle.shop_operations.specs.Soundness.{IsCoherent}
use Rattle.shop_operations.specs.Views.{live_view}
use Rattle.shop_requests.specs.declared.raw.RawOp.{RawOp}
use Rattle.shop_soundness.specs.Batches.{live_batch}
use Rattle.shop_soundness.specs.Origins.{HadRow}
use Rattle.shop_soundness.specs.WellFormed.{AreWellFormed}
use Rattle.shop_soundness.proofs.Kept.{batches_keep_rows}
use Rattle.shop_soundness.proofs.Lists.{each_of, of_each}
use Rattle.shop_soundness.proofs.Made.{batches_make_up_nothing}
use Rattle.shop_soundness.proofs.Sound.{batches_keep_coherence}
use Rattle.shop_drafts.specs.Drafts.{draft_key}
use Rattle.shop_drafts.specs.Making.{drop_draft, dropped, make_draft, not_root, version_exists, no_such_root, too_many_made}
use Rattle.shop_drafts.specs.Merging.{log, merge, merged_with, replayed, with_live}
use Rattle.shop_drafts.specs.Soundness.{AreDrafted}
use Rattle.shop_drafts.specs.Writing.{draft_write}
use Rattle.shop_drafts.proofs.Apart.{dropping, live_is, made_is, replayed_live}
use Rattle.shop_drafts.proofs.AtOnce.{not_there, second_none}
use Rattle.shop_drafts.proofs.Merged.{replayed_in_order}
use Rattle.shop_drafts.proofs.Shown.{live_in_order}
use Rattle.shop_drafts.proofs.Unwritten.{replay_coherent, replay_leaves}
use Rattle.shop_write.specs.BatchPlans.{HaveIds}
use Rattle.shop_version.specs.Laws.{StayDrafted}
use Rattle.shop_version.proofs.Assembled.{log_changes}
use Rattle.shop_version.proofs.StillDrafted.{dropped_drafted, made_drafted, replaced_drafted}
use Rattle.shop_version.proofs.StillWritten.{accepted_is, written_drafted}

pub making : (rows after : List Row) (version : ℕ) (name : List ℕ) (id : ℕ) → AreDrafted rows → version ≢ 0 → make_draft rows version name id ≡ Ok after → AreDrafted after
making rows after version name id is not_live e =
    let m = made_is rows after version name id e in
    let none = not_there version (row_at rows (draft_key version)) (second_none (not_root m.root) (version_exists rows version) (no_such_root rows m.root ∷ too_many_made rows version m.root ∷ []) m.unbroken) in
    subst AreDrafted m.is (made_drafted rows is version not_live m.root none)

pub writing : (rows after : List Row) (version : ℕ) (ops : List RawOp) → AreDrafted rows → version ≢ 0 → length ops ≤ 1000 → HaveIds ops → draft_write rows version ops ≡ Ok after → AreDrafted after
writing rows after version ops is not_live few ids e = written_drafted rows after version ops is not_live few ids (accepted_is rows after version ops e)

pub drop_is : (rows after : List Row) (version : ℕ) → AreDrafted rows → version ≢ 0 → drop_draft rows version ≡ Ok after → AreDrafted after
drop_is rows after version is not_live e = subst AreDrafted (sym (dropping rows after version e)) (dropped_drafted rows is version not_live)

-- an accepted merge
pub record IsMerged (rows after : List Row) (version : ℕ) : Type 0 where
  pub now : List Row
  pub replay : replayed (live_view rows) (log rows version) ≡ Ok now
  pub is : dropped (with_live rows now) version ≡ after

pub merged_is : (rows after : List Row) (version : ℕ) → merge rows version ≡ Ok after → IsMerged rows after version
unfolding merge
merged_is rows after version e = there (is_some (row_at rows (draft_key version))) e
  where
    by : (result : Result (List Row) Broken) → replayed (live_view rows) (log rows version) ≡ result → merged_with rows version result ≡ Ok after → IsMerged rows after version
    by (Ok now) g f = let same : dropped (with_live rows now) version ≡ after = cc in record { now = now; replay = g; is = same }
    by (Err broken) g f = cc

    there : (b : Bool) → (if b then merged_with rows version (replayed (live_view rows) (log rows version)) else Err (B.NoSuchVersion version)) ≡ Ok after → IsMerged rows after version
    there true f = by (replayed (live_view rows) (log rows version)) refl f
    there false f = cc

pub merging : (rows after : List Row) (version : ℕ) → AreDrafted rows → IsCoherent (live_view rows) → version ≢ 0 → merge rows version ≡ Ok after → AreDrafted after
merging rows after version is coherent not_live e =
    let m = merged_is rows after version e in
    let held = log_changes rows version is not_live in
    let stays = replay_coherent (live_view rows) (log rows version) m.now coherent held m.replay in
    let replaced = replaced_drafted rows is m.now (replayed_live (live_view rows) (log rows version) m.now refl (live_is rows) m.replay)
    (replayed_in_order (live_view rows) (log rows version) m.now (live_in_order rows is.in_order) m.replay) stays.formed (replay_leaves (live_view rows) (log rows version) m.now held m.replay) in
    subst AreDrafted m.is (dropped_drafted (with_live rows m.now) replaced version not_live)

live_batches : (rows now : List Row) (ops : List RawOp) → AreDrafted rows → IsCoherent (live_view rows) → AreWellFormed (live rows) → HaveIds ops → live_batch rows ops ≡ Ok now → AreDrafted (with_live rows now)
live_batches rows now ops is coherent formed ids done =
    let kept = batches_keep_rows (live_view rows) 1 ops now formed ids done in
    let origins = batches_make_up_nothing (live_view rows) 1 ops now done in
    let stays = batches_keep_coherence (live_view rows) 1 ops now coherent ids done in
    replaced_drafted rows is now (each_of (λ row. row.key.version ≡ 0) now (λ row i. version row (origins.keys row i))) stays.in_order stays.formed kept.others
  where
    version : (row : Row) → HadRow (live rows) row.key ⊎ (row.key.version ≡ 0) → row.key.version ≡ 0
    version row (inl had) = sym (ap (λ (k : Key). k.version) had.same) ∙ of_each (λ other. other.key.version ≡ 0) (live rows) had.row (live_is rows) had.is_in
    version row (inr e) = e

pub stay_drafted : StayDrafted
stay_drafted = record { making = making; writing = writing; dropping = drop_is; merging = merging; live_batches = live_batches }
