-- What a command does to a shop's rows, and when it is refused.
use Rattle.std.specs.Prelude.{ℕ, zero, ℤ, pos, ◌≡◌, ◌<◌, ◌≤◌, ◌^◌, nat_lt, length, List, if◌then◌else◌, Result, Ok, Err}
use Rattle.std.specs.List.{fold}
use Rattle.keyed.specs.Keyed.{put}
use Rattle.shop_defs.specs.declared.broken.Broken.TheVariants.{HistoryFull}
use Rattle.shop_requests.specs.declared.command.Command.{Command}
use Rattle.shop_requests.specs.declared.command.Command.TheVariants as commands
use Rattle.shop_requests.specs.declared.raw.RawOp.{RawOp}
use Rattle.shop_defs.specs.declared.refused.Refused.{Refused}
use Rattle.shop_defs.specs.declared.row.Row.{Row}
use Rattle.shop_defs.specs.Keys.{key_cmp}
use Rattle.shop_defs.specs.Rows.{row_key, IsInKeyOrder}
use Rattle.shop_soundness.specs.Batches.{live_batch}
use Rattle.shop_operations.specs.References.{live}
use Rattle.shop_operations.specs.Views.{drafted}
use Rattle.shop_write.specs.BatchPlans.{HaveIds}

-- ---- the commands that are built

-- a batch that may be asked for: 1 to 1,000 operations, each with an id
pub record IsBatch (ops : List RawOp) : Type 0 where
  pub some : 0 < length ops
  pub few : length ops ≤ 1000
  pub ids : HaveIds ops

-- the command is one that is built: so far, a batch for the live rows
abbrev pub IsBuilt : Command → Type 0
IsBuilt (commands.Sync zero ops) = IsBatch ops
IsBuilt command = ⊥

-- ---- what it does to the rows

-- the rows of drafts as they are, with these live rows put among them, each at its key
abbrev pub with_live : List Row → List Row → List Row
with_live rows now = fold (put key_cmp row_key) (drafted rows) now

-- What is put so stands so: the live rows are these, the rows of drafts are those that were there, and all are in key order.
pub record LiveRowsAreReplaced : Type 0 where
  pub live_rows : (rows now : List Row) → IsInKeyOrder rows → IsInKeyOrder now → live now ≡ now → live (with_live rows now) ≡ now
  pub others : (rows now : List Row) → IsInKeyOrder rows → IsInKeyOrder now → live now ≡ now → drafted (with_live rows now) ≡ drafted rows
  pub order : (rows now : List Row) → IsInKeyOrder rows → IsInKeyOrder (with_live rows now)

-- ---- a step

-- What becomes of a command: it is accepted with the rows after it and a value, or refused; one that isn't built is neither.
pub data Stepped : Type 0 where
  accepted : List Row → ℤ → Stepped
  refused : Refused → Stepped
  unbuilt : Stepped

-- it is accepted
abbrev pub IsAccepted : Stepped → Type 0
IsAccepted (accepted rows value) = Unit {0}
IsAccepted (refused rule) = ⊥
IsAccepted unbuilt = ⊥

-- a batch is accepted with the live rows that its operations leave, and its value is how many they are; or its first refusal
-- refuses the whole
abbrev pub batched : List Row → List RawOp → Result (List Row) Refused → Stepped
batched rows ops (Ok now) = accepted (with_live rows now) (pos (length ops))
batched rows ops (Err rule) = refused rule

-- what a command does by all rules but the last
abbrev pub effect : List Row → Command → ℤ → Stepped
effect rows (commands.Sync zero ops) moment = batched rows ops (live_batch rows ops)
effect rows command moment = unbuilt

-- so many entries are accepted at most
abbrev pub most_entries : ℕ
most_entries = 2 ^ 62

-- as many entries were accepted as there may ever be
abbrev pub history_full : Refused
history_full = record { op = 0; broken = HistoryFull }

-- the last rule: after so many entries, one more is accepted only below the most that there may be
abbrev pub counted : ℕ → Stepped → Stepped
counted number (accepted rows value) = if nat_lt number most_entries then accepted rows value else refused history_full
counted number (refused rule) = refused rule
counted number unbuilt = unbuilt

-- one step: what becomes of a command at a moment, over these rows after so many accepted entries
unfoldable pub step : List Row → ℕ → Command → ℤ → Stepped
step rows number command moment = counted number (effect rows command moment)
