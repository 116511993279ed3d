-- Steps leave sound rows sound.
use Rattle.std.proofs.Common.{◌≡◌, ℕ, zero, ℤ, List, [], ◌∷◌, Result, Ok, Err, refl, sym, subst}
use Rattle.std.specs.List.{AllByRecursion}
use Rattle.closure.specs.Closure.{IsIn}
use Rattle.shop_requests.specs.declared.command.Command.{Command}
use Rattle.shop_requests.specs.declared.command.Command.TheVariants as commands
use Rattle.shop_requests.specs.declared.raw.RawOp.{RawOp}
use Rattle.shop_defs.specs.declared.refused.Refused.{Refused}
use Rattle.shop_defs.specs.declared.row.Row.{Row}
use Rattle.shop_kept.specs.Spelling.{IsKeptRow}
use Rattle.shop_soundness.specs.Batches.{live_batch}
use Rattle.shop_operations.specs.References.{live}
use Rattle.shop_check.specs.Soundness.{AreSound}
use Rattle.shop_core.specs.Ranges.{IsRawOp}
use Rattle.shop_core.specs.Steps.{Stepped, accepted, refused, unbuilt, IsBatch, IsBuilt, with_live, batched, effect, step}
use Rattle.shop_core.specs.declared.answers.Entry.{Entry}
use Rattle.shop_core.specs.History.{State, step_at, after_step, after_entry, replay, MayBeGiven, RowsStaySound}
use Rattle.shop_core.proofs.Batches.{left_by_batch, left_is_sound, stays_live}
use Rattle.shop_core.proofs.Encodings.{left_is_kept}
use Rattle.shop_core.proofs.Stepping.{accepted_effect}

-- each live row has a spelling
abbrev pub AreSpelled : List Row → Type 0
AreSpelled rows = (row : Row) → IsIn row (live rows) → IsKeptRow row

module _ (rows now : List Row) (ops : List RawOp) (value : ℤ) (sound : AreSound rows) (batch : IsBatch ops) where
  -- live rows that the batch leaves and that have a spelling make all sound
  left_sound : (left : List Row) → live_batch rows ops ≡ Ok left → with_live rows left ≡ now → AreSpelled now → AreSound now
  left_sound left done same spelled =
      let leaves = left_by_batch rows sound left ops batch.ids done in
      let stays : live (with_live rows left) ≡ left = stays_live rows left sound leaves in
      subst AreSound same
      (left_is_sound rows left sound leaves
      (λ row i. spelled row (subst (λ (l : List Row). IsIn row (live l)) same (subst (λ (l : List Row). IsIn row l) (sym stays) i))))

  batch_is_sound : (result : Result (List Row) Refused) → live_batch rows ops ≡ result → batched rows ops result ≡ accepted now value → AreSpelled now → AreSound now
  batch_is_sound (Ok left) done e spelled = let same : with_live rows left ≡ now = cc in left_sound left done same spelled
  batch_is_sound (Err rule) done e spelled = absurd cc

  left_spelled : AllByRecursion IsRawOp ops → (left : List Row) → live_batch rows ops ≡ Ok left → with_live rows left ≡ now → AreSpelled now
  left_spelled ranged left done same =
      let leaves = left_by_batch rows sound left ops batch.ids done in
      let stays : live (with_live rows left) ≡ left = stays_live rows left sound leaves in
      subst AreSpelled same (λ row i. left_is_kept rows left ops sound ranged done leaves row (subst (λ (l : List Row). IsIn row l) stays i))

  batch_is_spelled : AllByRecursion IsRawOp ops → (result : Result (List Row) Refused) → live_batch rows ops ≡ result → batched rows ops result ≡ accepted now value → AreSpelled now
  batch_is_spelled ranged (Ok left) done e = let same : with_live rows left ≡ now = cc in left_spelled ranged left done same
  batch_is_spelled ranged (Err rule) done e = absurd cc

-- what a command leaves of sound rows is sound, where its live rows have a spelling
pub effect_is_sound : (rows now : List Row) (command : Command) (moment value : ℤ) → AreSound rows → IsBuilt command → effect rows command moment ≡ accepted now value → AreSpelled now → AreSound now
effect_is_sound rows now (commands.Sync zero ops) moment value sound built e spelled = batch_is_sound rows now ops value sound built (live_batch rows ops) refl e spelled
effect_is_sound rows now command moment value sound built e spelled = absurd built

-- they have one where the parts of the command are in the ranges of their types
effect_is_spelled : (rows now : List Row) (command : Command) (moment value : ℤ) → AreSound rows → MayBeGiven command → effect rows command moment ≡ accepted now value → AreSpelled now
effect_is_spelled rows now (commands.Sync zero ops) moment value sound may e = batch_is_spelled rows now ops value sound may.0 may.1 (live_batch rows ops) refl e
effect_is_spelled rows now command moment value sound may e = absurd may.0

step_is_sound : (rows now : List Row) (number : ℕ) (command : Command) (moment value : ℤ) → AreSound rows → MayBeGiven command → step rows number command moment ≡ accepted now value → AreSound now
step_is_sound rows now number command moment value sound may e =
    let done = accepted_effect rows now number command moment value e in
    effect_is_sound rows now command moment value sound may.0 done (effect_is_spelled rows now command moment value sound may done)

stepped_sound : (state : State) (s : Stepped) → AreSound state.rows → ((now : List Row) (value : ℤ) → s ≡ accepted now value → AreSound now) → AreSound (after_step state s).rows
stepped_sound state (accepted rows value) sound more = more rows value refl
stepped_sound state (refused rule) sound more = sound
stepped_sound state unbuilt sound more = sound

entry_is_sound : (state : State) (entry : Entry) → AreSound state.rows → MayBeGiven entry.command → AreSound (after_entry state entry).rows
entry_is_sound state entry sound may = stepped_sound state (step_at state entry) sound (λ now value e. step_is_sound state.rows now state.number entry.command entry.moment value sound may e)

replay_is_sound : (start : State) (entries : List Entry) → AreSound start.rows → AllByRecursion (λ entry. MayBeGiven entry.command) entries → AreSound (replay start entries).rows
unfolding replay
replay_is_sound start [] sound may = sound
replay_is_sound start (entry ∷ entries) sound may = replay_is_sound (after_entry start entry) entries (entry_is_sound start entry sound may.0) may.1

pub rows_stay_sound : RowsStaySound
rows_stay_sound = record { one_step = step_is_sound; many_steps = replay_is_sound }
