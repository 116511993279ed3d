-- A merge: the operations of a draft's commits, done again on the live rows.
use Rattle.std.specs.Prelude.{ℕ, suc, true, List, [], ◌∷◌, length, Result, Ok, Err}
use Rattle.std.specs.List.{flat_map}
use Rattle.shop_defs.specs.declared.broken.Broken.{Broken}
use Rattle.shop_defs.specs.declared.broken.Broken.TheVariants as B
use Rattle.shop_defs.specs.declared.op.Op.{Op}
use Rattle.shop_defs.specs.declared.row.Row.{Row}
use Rattle.shop_operations.specs.Operations.{operated}
use Rattle.shop_operations.specs.Views.{View, live_view, drafted}
use Rattle.shop_drafts.specs.Drafts.{commits}
use Rattle.shop_drafts.specs.Making.{with_rows, dropped, if_drafted}

-- ---- the log

-- an operation of a commit, with both numbers
pub record Logged : Type 0 where
  pub commit : ℕ
  pub number : ℕ
  pub op : Op

-- the operations of a commit, of which the first has that number
abbrev pub logged_from : ℕ → ℕ → List Op → List Logged
logged_from commit number [] = []
logged_from commit number (op ∷ rest) = record { commit = commit; number = number; op = op } ∷ logged_from commit (suc number) rest

-- the operations of a commit
abbrev pub logged : Row → List Logged
logged commit = logged_from commit.key.second 1 commit.ops

-- what was done in a draft: the operations of its commits, in the order of the commits' numbers
unfoldable pub log : List Row → ℕ → List Logged
log rows version = flat_map logged (commits rows version)

-- ---- the replay

-- the refusal of an operation of a commit
abbrev pub merge_broken : Logged → Broken → Broken
merge_broken entry broken = B.MergeBroken entry.commit entry.number broken

abbrev pub named_by : Logged → Result (List Row) Broken → (List Row → Result (List Row) Broken) → Result (List Row) Broken
named_by entry (Err broken) more = Err (merge_broken entry broken)
named_by entry (Ok rows) more = more rows

-- the rows that the logged operations leave of the view, one after the other, or the first that is refused: a delete of a
-- row that isn't there changes nothing
abbrev pub replayed : View → List Logged → Result (List Row) Broken
replayed view [] = Ok view.rows
replayed view (entry ∷ rest) = named_by entry (operated view entry.op true) (λ rows. replayed (record view { rows = rows }) rest)

-- ---- the merge

-- the rows of drafts as they are, with these live rows put among them
abbrev pub with_live : List Row → List Row → List Row
with_live rows now = with_rows (drafted rows) now

abbrev pub merged_with : List Row → ℕ → Result (List Row) Broken → Result (List Row) Broken
merged_with rows version (Ok now) = Ok (dropped (with_live rows now) version)
merged_with rows version (Err broken) = Err broken

-- the rows once a draft is merged: the live rows that the replay of its log leaves, without the draft; or the refusal of the
-- first operation that breaks a rule
abbrev pub merged : List Row → ℕ → Result (List Row) Broken
merged rows version = merged_with rows version (replayed (live_view rows) (log rows version))

unfoldable pub merge : List Row → ℕ → Result (List Row) Broken
merge rows version = if_drafted rows version (merged rows version)

-- how many operations are replayed
abbrev pub merged_count : List Row → ℕ → ℕ
merged_count rows version = length (log rows version)
