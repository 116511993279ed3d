-- The plan of a command: its changes leave what the command leaves, and each row of them can be kept.
use Rattle.std.proofs.Common.{◌≡◌, ℕ, zero, suc, ℤ, pos, ◌≤◌, Bool, true, false, List, [], ◌∷◌, length, Option, Some, None, if◌then◌else◌, Ok, inl, inr, sym, ap, subst, ◌∙◌, to_z, w64, arith}
use Rattle.std.specs.Int.RustNames.{FitsSigned}
use Rattle.std.specs.List.{AllByRecursion}
use Rattle.std.specs.Option.{IfSome}
use Rattle.std.specs.Ordering.{is_eq}
use Rattle.std.proofs.lemmas.Bool.{eq-eqb}
use Rattle.std.proofs.lemmas.Int.{ints}
use Rattle.keyed.specs.Keyed.{without}
use Rattle.closure.specs.Closure.{IsIn}
use Rattle.closure.proofs.Members.{in_filter, of_filter}
use Rattle.shop_requests.specs.declared.command.Command.{Command}
use Rattle.shop_requests.specs.declared.command.Command.TheVariants as commands
use Rattle.shop_defs.specs.declared.key.Key.{Key}
use Rattle.shop_requests.specs.declared.raw.RawOp.{RawOp}
use Rattle.shop_defs.specs.declared.row.Row.{Row}
use Rattle.shop_defs.specs.Joined.{Change, change_key, change_at}
use Rattle.shop_defs.specs.Keys.{key_cmp}
use Rattle.shop_defs.specs.Rows.{row_key, row_at, change_row, change_rows, IsInKeyOrder}
use Rattle.shop_defs.proofs.Keys.{key_cmp_total}
use Rattle.shop_kept.specs.Spelling.{FitsRow, IsKeptRow}
use Rattle.shop_soundness.specs.Batches.{live_batch}
use Rattle.shop_operations.specs.References.{is_live, live}
use Rattle.shop_rows.specs.Changing.{row_after, StandsUnderItsKey, StandUnderTheirKeys, HasAscendingKeys}
use Rattle.shop_rows.proofs.ChangedRows.{in_order-change_rows, row_at-change_rows, last_in-ascending}
use Rattle.shop_soundness.proofs.Lists.{of_each, each_of}
use Rattle.shop_write.specs.BatchPlans.{IsBatchPlan}
use Rattle.shop_write.specs.Growth.{AreLive}
use Rattle.shop_write.proofs.InOrder.{all_found, all_puts}
use Rattle.shop_check.specs.Soundness.{AreSound, IsSoundRow}
use Rattle.shop_core.specs.Plans.{FitTheFormat, AreKeptRows, AreFit}
use Rattle.shop_core.specs.Steps.{accepted, IsBatch, IsBuilt, batched, effect}
use Rattle.shop_core.proofs.Batches.{AreLeft, left_by_batch}
use Rattle.shop_core.proofs.LiveRows.{with_live_same}
use Rattle.shop_core.proofs.RowForms.{formed_fits}
use Rattle.shop_core.proofs.Sound.{AreSpelled}

-- ---- what holds of each changed row

all_without : (P : Row → Type 0) (rows : List Row) (key : Key) → AllByRecursion P rows → AllByRecursion P (without key_cmp row_key rows key)
all_without P [] key all = tt
all_without P (row ∷ rows) key all = by (is_eq (key_cmp row.key key)) (all_without P rows key all.1)
  where
    by : (b : Bool) → AllByRecursion P (without key_cmp row_key rows key) → AllByRecursion P (if b then rows else row ∷ without key_cmp row_key rows key)
    by true more = all.1
    by false more = (all.0, more)

all_change_row : (P : Row → Type 0) (rows : List Row) (key : Key) (change : Option Row) → AllByRecursion P rows → IfSome change P → AllByRecursion P (change_row rows key change)
all_change_row P rows key None all holds = all_without P rows key all
all_change_row P rows key (Some row) all holds = all_puts key_cmp row_key key_cmp_total P (row ∷ []) rows all (holds, tt)

-- what holds of each row, and of each that is put, holds of each changed row
all_change_rows : (P : Row → Type 0) (changes : List Change) (rows : List Row) → AllByRecursion P rows → AllByRecursion (λ change. IfSome change.1 P) changes → AllByRecursion P (change_rows rows changes)
all_change_rows P [] rows all holds = all
all_change_rows P (change ∷ changes) rows all holds = all_change_rows P changes (change_row rows change.0 change.1) (all_change_row P rows change.0 change.1 all holds.0) holds.1

spelled_rows : (rows : List Row) → AllByRecursion IsSoundRow rows → AllByRecursion IsKeptRow rows
spelled_rows [] each = tt
spelled_rows (row ∷ rows) each = (each.0.encoding, spelled_rows rows each.1)

-- after changes whose rows are kept, each live row has a spelling
pub changed_spelled : (rows : List Row) (changes : List Change) → AreSound rows → AreKeptRows changes → AreSpelled (change_rows rows changes)
changed_spelled rows changes sound kept row i =
    of_each IsKeptRow (change_rows rows changes) row (all_change_rows IsKeptRow changes rows (spelled_rows rows sound.each) kept) (in_live (change_rows rows changes) i)
  where
    in_live : (l : List Row) → IsIn row (live l) → IsIn row l
    in_live l j = (of_filter is_live l row j).is_in

-- ---- what is put stands among the changed rows

found_in : (rows : List Row) (key : Key) (row : Row) → row_at rows key ≡ Some row → IsIn row rows
found_in [] key row found = absurd cc
found_in (first ∷ rows) key row found = by (is_eq (key_cmp first.key key)) (found_in rows key row) found
  where
    by : (b : Bool) → (row_at rows key ≡ Some row → IsIn row rows) → (if b then Some first else row_at rows key) ≡ Some row → IsIn row (first ∷ rows)
    by true more found = inl cc
    by false more found = inr (more found)

module _ (rows : List Row) (changes : List Change) (up : IsInKeyOrder rows) (ascends : HasAscendingKeys changes) (stand : StandUnderTheirKeys changes) where
  change_stands : (change : Change) → IsIn change changes → row_at (change_rows rows changes) change.0 ≡ change.1
  change_stands change i =
      let found : change_at changes change.0 ≡ Some change = of_each (λ one. change_at changes (change_key one) ≡ Some one) changes change (all_found key_cmp change_key key_cmp_total changes ascends) i in
      row_at-change_rows changes rows up stand change.0
      ∙ ap (λ (last : Option Change). row_after last (row_at rows change.0)) (last_in-ascending changes change.0 ascends ∙ found)

  put_is_in : (key : Key) (row : Row) → IsIn (key, Some row) changes → IsIn row (change_rows rows changes)
  put_is_in key row i = found_in (change_rows rows changes) key row (change_stands (key, Some row) i)

  put_is_live : AreLive changes → (key : Key) (row : Row) → IsIn (key, Some row) changes → IsIn row (live (change_rows rows changes))
  put_is_live lives key row i =
      let own : row.key ≡ key = of_each StandsUnderItsKey changes (key, Some row) stand i in
      let version : key.version ≡ 0 = of_each (λ change. change.0.version ≡ 0) changes (key, Some row) lives i in
      in_filter is_live (change_rows rows changes) row (put_is_in key row i) (eq-eqb row.key.version 0 (ap (λ (k : Key). k.version) own ∙ version))

-- ---- the plan of a batch

module _ (rows : List Row) (ops : List RawOp) (changes : List Change) (sound : AreSound rows) (batch : IsBatch ops) (plan : IsBatchPlan rows ops changes) where
  -- the batch leaves the changed rows
  leaves_changed : batched rows ops (Ok (live (change_rows rows changes))) ≡ accepted (change_rows rows changes) (pos (length ops))
  leaves_changed = ap (λ (l : List Row). accepted l (pos (length ops))) (with_live_same rows (change_rows rows changes) sound.order (in_order-change_rows changes rows sound.order) plan.drafts)

  -- and each row of the changes is one that it leaves
  fit_the_format : FitTheFormat changes
  fit_the_format = each_of (λ change. IfSome change.1 FitsRow) changes each
    where
      leaves : AreLeft rows (live (change_rows rows changes))
      leaves = left_by_batch rows sound (live (change_rows rows changes)) ops batch.ids plan.batch

      each : (change : Change) → IsIn change changes → IfSome change.1 FitsRow
      each (key, None) i = tt
      each (key, Some row) i =
          let stays = put_is_live rows changes sound.order plan.ascends plan.stand plan.are_live key row i in
          formed_fits row (leaves.formed row stays) (leaves.written row stays)

  -- the changes and the value of the batch
  pub batch_planned : (count : ℕ) → count ≡ length ops → (batched rows ops (live_batch rows ops) ≡ accepted (change_rows rows changes) (to_z w64 count)) × AreFit changes × FitsSigned w64 (to_z w64 count)
  batch_planned count is =
      let few : length ops ≤ 1000 = batch.few in
      let value : to_z w64 count ≡ pos (length ops) = omega (arith, ints) in
      (ap (batched rows ops) plan.batch ∙ (leaves_changed ∙ ap (accepted (change_rows rows changes)) (sym value)), record { order = plan.ascends; keys = plan.stand; kept = fit_the_format }, subst (FitsSigned w64) (sym value) (search (arith, ints)))

-- of a command that is a batch for the live rows
pub command_planned : (rows : List Row) (command : Command) (version : ℕ) (ops : List RawOp) (moment : ℤ) (changes : List Change) (count : ℕ) → command ≡ commands.Sync version ops → IsBuilt command → AreSound rows → IsBatchPlan rows ops changes → count ≡ length ops
    → (effect rows command moment ≡ accepted (change_rows rows changes) (to_z w64 count)) × AreFit changes × FitsSigned w64 (to_z w64 count)
command_planned rows command zero ops moment changes count is built sound plan counts =
    rw is (batch_planned rows ops changes sound (rw is at built) plan count counts)
command_planned rows command (suc version) ops moment changes count is built sound plan counts = absurd (rw is at built)
