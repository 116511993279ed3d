-- What the plan of a batch in a draft answers, by what its calls answered.
use Rattle.std.proofs.Common.{◌≡◌, ◌≢◌, ◌≤◌, arith, ℕ, true, false, List, [], ◌∷◌, length, refl, sym, ap, subst, ◌∙◌, Option, Some, None, Result, Ok, Err}
use Rattle.shop_defs.specs.declared.refused.PlanFault.{PlanFault}
use Rattle.shop_defs.specs.declared.refused.PlanFault.TheVariants as F
use Rattle.shop_defs.specs.declared.delta.Delta.{Delta}
use Rattle.shop_defs.specs.declared.op.Op.{Op}
use Rattle.shop_defs.specs.declared.row.Row.{Row}
use Rattle.shop_defs.specs.Joined.{Change}
use Rattle.shop_defs.specs.Rows.{row_at, change_rows, IsInKeyOrder}
use Rattle.shop_requests.specs.declared.raw.RawOp.{RawOp}
use Rattle.shop_requests.specs.Operations.{reading}
use Rattle.std.specs.Result.{IsErrAnd}
use Rattle.shop_drafts.specs.Drafts.{draft_key, root_of, draft_view}
use Rattle.shop_drafts.proofs.Seen.{drafts_are_views}
use Rattle.shop_operations.specs.Views.{View}
use Rattle.shop_drafts.specs.Soundness.{AreDrafted}
use Rattle.shop_drafts.specs.Writing.{batch_in, read_all, if_ok, next_number, is_log_full, log_full}
use Rattle.shop_drafts.specs.declared.aggregate.Root.{Root}
use Rattle.shop_version.specs.DraftSteps.{AreDone, IsCommitted, IsNoDraft, IsBatchFault}
use Rattle.shop_version.specs.DraftWrites.{AreFormed, IsWritePlan, IsWriteFault, PlansWrite, IsBatchInView}
use Rattle.shop_version.specs.Overlays.{Layer, IsLayer, found_layer, layer_rows, layer_view}
use Rattle.shop_version.proofs.DraftBatches.{write_refused, left_is, write_plan, write_batch, write_missing, write_rootless, write_full}

-- without a draft
pub missing_fault : (rows : List Row) (version : ℕ) (ops : List RawOp) (fault : PlanFault) → row_at rows (draft_key version) ≡ None → IsNoDraft version ops fault → IsWriteFault rows version ops fault
missing_fault rows version ops F.NoMemory none is = tt
missing_fault rows version ops (F.Refused refused) none is = write_missing rows version ops none ∙ ap Err (sym is)

-- of a draft that names no root
pub rootless_fault : (rows : List Row) (version : ℕ) (draft : Row) (ops : List RawOp) (fault : PlanFault) → row_at rows (draft_key version) ≡ Some draft → root_of draft ≡ None → IsNoDraft version ops fault → IsWriteFault rows version ops fault
rootless_fault rows version draft ops F.NoMemory there none is = tt
rootless_fault rows version draft ops (F.Refused refused) there none is = write_rootless rows version draft ops there none ∙ ap Err (sym is)

-- what a batch did, with its commit, is the plan
pub record IsWhole (rows : List Row) (version : ℕ) (raw : List RawOp) (changes : List Change) : Type 0 where
  pub plan : IsWritePlan rows version raw changes
  pub batch : IsBatchInView rows version raw (change_rows rows changes)

pub whole : (rows : List Row) (version : ℕ) (root : Root) (draft : Row) (raw : List RawOp) (ops : List Op) (first after : Layer) (deltas : List Delta) (number : ℕ) (changes : List Change)
    → IsInKeyOrder rows → version ≢ 0 → row_at rows (draft_key version) ≡ Some draft → root_of draft ≡ Some root
    → first ≡ found_layer rows version root → layer_view first ≡ draft_view rows version root → IsLayer after
    → batch_in first.root (layer_view first) 1 raw ≡ Ok (layer_rows after) → AreDone first after deltas → ops ≡ read_all raw
    → is_log_full rows ≡ false → number ≡ next_number rows version → IsCommitted version number draft ops deltas changes → IsWhole rows version raw changes
whole rows version root draft raw ops first after deltas number changes up n there rooted found view layer done are read room num committed =
    let of_found : AreDone (found_layer rows version root) after deltas = subst (λ (l : Layer). AreDone l after deltas) found are in
    let done_here : batch_in root (draft_view rows version root) 1 raw ≡ Ok (layer_rows after) =
    ap (λ v. batch_in root v 1 raw) (sym view) ∙ (ap (λ (l : Layer). batch_in l.root (layer_view first) 1 raw) (sym found) ∙ done) in
    let left = left_is rows version root draft raw ops after deltas number changes up layer of_found read num committed in
    record {
      plan = write_plan rows version root draft raw ops after deltas number changes there rooted done_here room of_found committed left;
      batch = write_batch rows version root draft raw after deltas changes up n there rooted done_here layer of_found left;
    }

-- what a draft shows as it is found has keys that fit
pub formed_first : (rows : List Row) (version : ℕ) (root : Root) (first : Layer) → AreDrafted rows → layer_view first ≡ draft_view rows version root → AreFormed (layer_rows first)
formed_first rows version root first drafted view = subst (λ (v : View). AreFormed v.rows) (sym view) (drafts_are_views.formed rows version root drafted.formed)

-- a fault that is handed on
pub handed_on : (rows : List Row) (version : ℕ) (ops : List RawOp) (answer : Result Delta PlanFault) (fault : PlanFault) → IsErrAnd answer (λ e. e ≡ fault) → IsWriteFault rows version ops fault → PlansWrite rows version ops answer
handed_on rows version ops (Ok delta) fault is h = absurd is
handed_on rows version ops (Err e) fault is h = subst (IsWriteFault rows version ops) (sym is) h

pub batch_fault : (rows : List Row) (version : ℕ) (root : Root) (draft : Row) (slice ops : List RawOp) (first : Layer) (fault : PlanFault) → row_at rows (draft_key version) ≡ Some draft → root_of draft ≡ Some root
    → first ≡ found_layer rows version root → slice ≡ ops → IsBatchFault first slice fault → IsWriteFault rows version ops fault
batch_fault rows version root draft slice ops first fault there rooted found same is =
    write_refused rows version root draft ops fault there rooted (subst (λ (l : Layer). IsBatchFault l ops fault) found (subst (λ ops. IsBatchFault first ops fault) same is))

pub full_fault : (rows : List Row) (version : ℕ) (root : Root) (draft : Row) (slice ops : List RawOp) (first after : Layer) (count : ℕ) (fault : PlanFault) → row_at rows (draft_key version) ≡ Some draft → root_of draft ≡ Some root
    → first ≡ found_layer rows version root → layer_view first ≡ draft_view rows version root → slice ≡ ops → batch_in first.root (layer_view first) 1 slice ≡ Ok (layer_rows after)
    → is_log_full rows ≡ true → count ≡ length ops → fault ≡ F.Refused (log_full count) → IsWriteFault rows version ops fault
full_fault rows version root draft slice ops first after count fault there rooted found view same done full counted is =
    let here : batch_in root (draft_view rows version root) 1 ops ≡ Ok (layer_rows after) =
    ap (λ v. batch_in root v 1 ops) (sym view) ∙ (ap (λ (l : Layer). batch_in l.root (layer_view first) 1 ops) (sym found) ∙ (ap (batch_in first.root (layer_view first) 1) (sym same) ∙ done)) in
    subst (IsWriteFault rows version ops) (sym (is ∙ ap (λ n. F.Refused (log_full n)) counted)) (write_full rows version root draft ops (layer_rows after) there rooted here full)

pub read_few : (ops : List RawOp) → length (read_all ops) ≤ length ops
read_few [] = omega arith
read_few (op ∷ rest) = by (read_few rest) (if_ok (reading op)) refl
  where
    by : length (read_all rest) ≤ length rest → (read : Option Op) → if_ok (reading op) ≡ read → length (read_all (op ∷ rest)) ≤ length (op ∷ rest)
    by more None e = rw e (omega arith)
    by more (Some read) e = rw e (omega arith)

pub few_read : (slice ops : List RawOp) (read : List Op) → slice ≡ ops → read ≡ read_all slice → length ops ≤ 1000 → length read ≤ 1000
few_read slice ops read same e few =
    let all = read_few ops in
    let is : length read ≡ length (read_all ops) = ap length (e ∙ ap read_all same) in
    omega arith
