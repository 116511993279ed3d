-- The history of a shop: the commands that were accepted, one after the other.
use Rattle.std.specs.Prelude.{ℕ, ℤ, ◌≡◌, ◌==◌, ◌+◌, ◌-◌, ◌≤◌, ◌++◌, ◌↔◌, List, [], ◌∷◌, length, filter, take}
use Rattle.std.specs.List.{fold, AllByRecursion}
use Rattle.shop_requests.specs.declared.command.Command.{Command}
use Rattle.shop_defs.specs.declared.row.Row.{Row}
use Rattle.shop_check.specs.Soundness.{AreSound}
use Rattle.shop_core.specs.declared.answers.Entry.{Entry}
use Rattle.shop_core.specs.Ranges.{IsInRange}
use Rattle.shop_core.specs.Steps.{Stepped, accepted, refused, unbuilt, step, IsAccepted, IsBuilt}

-- rows, and how many entries were accepted before they stood so
pub record State : Type 0 where
  pub rows : List Row
  pub number : ℕ

-- what becomes of an entry at its place
abbrev pub step_at : State → Entry → Stepped
step_at state entry = step state.rows state.number entry.command entry.moment

-- what it leaves: where it is accepted its rows and one entry more, and else all as it was
abbrev pub after_step : State → Stepped → State
after_step state (accepted rows value) = record { rows = rows; number = state.number + 1 }
after_step state (refused rule) = state
after_step state unbuilt = state

abbrev pub after_entry : State → Entry → State
after_entry state entry = after_step state (step_at state entry)

-- what the entries leave, one after the other
unfoldable pub replay : State → List Entry → State
replay start entries = fold after_entry start entries

-- each entry is accepted at its place
unfoldable pub IsLegal : State → List Entry → Type 0
IsLegal start [] = Unit {0}
IsLegal start (entry ∷ entries) = IsAccepted (step_at start entry) × IsLegal (after_entry start entry) entries

-- the entries of one caller, in order
unfoldable pub own : ℕ → List Entry → List Entry
own caller entries = filter (λ entry. entry.caller == caller) entries

-- the rows at a front: those after as many entries as the front is above the number at the start
unfoldable pub at : State → List Entry → ℕ → List Row
at start entries front = (replay start (take (front - start.number) entries)).rows

-- ---- laws

-- what one entry more at the end does
pub record OneEntryMore : Type 0 where
  -- its step is the last of the replay
  pub last_step : (start : State) (entries : List Entry) (entry : Entry) → replay start (entries ++ entry ∷ []) ≡ after_entry (replay start entries) entry
  -- the history stays legal exactly where the entry is accepted at the end
  pub stays_legal : (start : State) (entries : List Entry) (entry : Entry) → IsLegal start (entries ++ entry ∷ []) ↔ (IsLegal start entries × IsAccepted (step_at (replay start entries) entry))
  -- its caller has one entry more
  pub its_own : (caller : ℕ) (entries : List Entry) (entry : Entry) → entry.caller ≡ caller → own caller (entries ++ entry ∷ []) ≡ own caller entries ++ entry ∷ []
  -- the others have those that they had
  pub others : (caller : ℕ) (entries : List Entry) (entry : Entry) → (entry.caller ≡ caller → ⊥) → own caller (entries ++ entry ∷ []) ≡ own caller entries

-- what more entries at the end leave as it was
pub record PrefixesStay : Type 0 where
  -- a prefix of a legal history is legal
  pub stay_legal : (start : State) (entries more : List Entry) → IsLegal start (entries ++ more) → IsLegal start entries
  -- at a front up to its end the rows are the same
  pub same_rows : (start : State) (entries more : List Entry) (front : ℕ) → front ≤ start.number + length entries → at start (entries ++ more) front ≡ at start entries front
  -- at its end they are those of its replay
  pub last_rows : (start : State) (entries : List Entry) → at start entries (start.number + length entries) ≡ (replay start entries).rows

-- a legal history counts each entry
abbrev pub EachIsCounted : Type 0
EachIsCounted = (start : State) (entries : List Entry) → IsLegal start entries → (replay start entries).number ≡ start.number + length entries

-- the command is one that is built, and its parts are in the ranges of their types
abbrev pub MayBeGiven : Command → Type 0
MayBeGiven command = IsBuilt command × IsInRange command

-- a step leaves sound rows sound, and so do any entries
pub record RowsStaySound : Type 0 where
  pub one_step : (rows now : List Row) (number : ℕ) (command : Command) (moment value : ℤ) → AreSound rows → MayBeGiven command → step rows number command moment ≡ accepted now value → AreSound now
  pub many_steps : (start : State) (entries : List Entry) → AreSound start.rows → AllByRecursion (λ entry. MayBeGiven entry.command) entries → AreSound (replay start entries).rows
