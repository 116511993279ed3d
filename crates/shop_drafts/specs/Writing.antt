-- A batch in a draft.
use Rattle.std.specs.Prelude.{ℕ, suc, pos, Bool, true, false, not, ◌==◌, ◌+◌, ◌&&◌, ◌||◌, nat_lt, List, [], ◌∷◌, filter, find, Option, Some, None, length, if◌then◌else◌, Result, Ok, Err}
use Rattle.std.specs.List.{filter_map}
use Rattle.std.specs.Option.{option_map, option_map_or}
use Rattle.shop_defs.specs.declared.broken.Broken.{Broken}
use Rattle.shop_defs.specs.declared.broken.Broken.TheVariants as B
use Rattle.shop_defs.specs.declared.entity.Entity.TheVariants as E
use Rattle.shop_defs.specs.declared.key.Key.{Key}
use Rattle.shop_defs.specs.declared.op.Op.{Op}
use Rattle.shop_defs.specs.declared.op.OpKind.{OpKind}
use Rattle.shop_defs.specs.declared.op.OpKind.TheVariants.{Upsert, Delete}
use Rattle.shop_requests.specs.declared.raw.RawOp.{RawOp}
use Rattle.shop_defs.specs.declared.refused.Refused.{Refused}
use Rattle.shop_defs.specs.declared.row.Row.{Row}
use Rattle.shop_defs.specs.declared.table.TheConstants.{REFERENCES, MOST_ROWS}
use Rattle.shop_defs.specs.declared.value.Value.TheVariants as V
use Rattle.shop_requests.specs.Operations.{reading}
use Rattle.shop_defs.specs.Rows.{row_at}
use Rattle.shop_soundness.specs.Batches.{numbered}
use Rattle.shop_operations.specs.Deletes.{goes, loses_field}
use Rattle.shop_operations.specs.Operations.{place, shown_key, operated}
use Rattle.shop_operations.specs.References.{of_version}
use Rattle.shop_operations.specs.Upserts.{row_in, left, give, count_of}
use Rattle.shop_operations.specs.Views.{View}
use Rattle.shop_drafts.specs.Aggregates.{has_versions, is_part}
use Rattle.shop_drafts.specs.Drafts.{draft_key, commit_key, commits, root_of, draft_view}
use Rattle.shop_drafts.specs.Making.{with_rows}
use Rattle.shop_drafts.specs.declared.aggregate.Root.{Root}
use Rattle.shop_drafts.specs.declared.aggregate.TheConstants.{COMMITS, COUNT}

-- ---- one operation

abbrev pub not_versioned : Op → Option Broken
not_versioned op = if has_versions op.entity then None else Some (B.NotVersioned op.entity)

-- the operation would change the row or take it out
abbrev pub touches : View → Op → Row → Bool
touches view op row = goes REFERENCES view.rows (place view op) row || loses_field REFERENCES view.rows (place view op) row

-- the key, as the draft shows it, of the first row outside what the draft edits that the operation would change, take out or
-- leave: of an upsert the row at its place counts as it was and as it would be
abbrev pub outside : Root → View → Op → OpKind → Option Key
outside root view op Upsert = if option_map_or (is_part root) (row_in view.rows (place view op)) true && is_part root (left view.rows (place view op) op) then None else Some (place view op)
outside root view op Delete = option_map (shown_key view) (find (λ row. touches view op row && not (is_part root row)) view.rows)

abbrev pub unless_outside : View → Op → Option Key → Result (List Row) Broken
unless_outside view op None = operated view op false
unless_outside view op (Some key) = Err (B.OutsideDraft key)

abbrev pub unless_not_versioned : Root → View → Op → Option Broken → Result (List Row) Broken
unless_not_versioned root view op None = unless_outside view op (outside root view op op.kind)
unless_not_versioned root view op (Some broken) = Err broken

abbrev pub if_read_in : Root → View → Result Op Broken → Result (List Row) Broken
if_read_in root view (Ok op) = unless_not_versioned root view op (not_versioned op)
if_read_in root view (Err broken) = Err broken

-- an operation on a draft as a request gives it: what it leaves of the view, or the first rule that it breaks
abbrev pub done_in : Root → View → RawOp → Result (List Row) Broken
done_in root view op = if_read_in root view (reading op)

-- ---- a batch

-- the rows that the operations leave of the view, of which the first has that number, or the first refusal
abbrev pub batch_in : Root → View → ℕ → List RawOp → Result (List Row) Refused
batch_in root view number [] = Ok view.rows
batch_in root view number (op ∷ rest) = numbered number (done_in root view op) (λ rows. batch_in root (record view { rows = rows }) (suc number) rest)

abbrev pub if_ok : Result Op Broken → Option Op
if_ok (Ok read) = Some read
if_ok (Err broken) = None

-- the operations as they are read
abbrev pub read_all : List RawOp → List Op
read_all ops = filter_map (λ op. if_ok (reading op)) ops

-- the number of the next commit
abbrev pub next_number : List Row → ℕ → ℕ
next_number rows version = length (commits rows version) + 1

-- a commit of these operations
abbrev pub new_commit : ℕ → ℕ → List Op → Row
new_commit version number ops = record { key = commit_key version number; fields = (COUNT, V.Int (pos (length ops))) ∷ []; ops = ops }

-- the draft's row with that many commits
abbrev pub with_commits : ℕ → Row → Row
with_commits number row = record row { fields = give row.fields (COMMITS, Some (V.Int (pos number))) }

-- the rows without those of a version
abbrev pub without_version : List Row → ℕ → List Row
without_version rows version = filter (λ row. not (row.key.version == version)) rows

-- the rows once a draft is written: those of its version that the view has then are its rows, and the operations are one
-- commit more
unfoldable pub written : List Row → ℕ → Row → List Op → List Row → List Row
written rows version draft ops shown =
    with_rows (with_rows (without_version rows version) (of_version version shown))
    (with_commits (next_number rows version) draft ∷ new_commit version (next_number rows version) ops ∷ [])

-- there may be no commit more
abbrev pub is_log_full : List Row → Bool
is_log_full rows = nat_lt MOST_ROWS (count_of (λ entity. 0) rows E.DraftCommit + 1)

abbrev pub log_full : ℕ → Refused
log_full number = record { op = number; broken = B.TooMany E.DraftCommit MOST_ROWS }

abbrev pub unknown_to : ℕ → Result Op Broken → Broken
unknown_to version (Err broken) = broken
unknown_to version (Ok op) = if has_versions op.entity then B.NoSuchVersion version else B.NotVersioned op.entity

-- without such a draft the first operation is refused: by the rules that are tried before, or since there is none
abbrev pub no_draft : ℕ → List RawOp → Refused
no_draft version [] = record { op = 0; broken = B.NoSuchVersion version }
no_draft version (op ∷ rest) = record { op = 1; broken = unknown_to version (reading op) }

-- ---- the whole

abbrev pub unless_full : List Row → List RawOp → ℕ → Row → List Row → Result (List Row) Refused
unless_full rows ops version draft shown = if is_log_full rows then Err (log_full (length ops)) else Ok (written rows version draft (read_all ops) shown)

abbrev pub write_shown : List Row → List RawOp → ℕ → Row → Result (List Row) Refused → Result (List Row) Refused
write_shown rows ops version draft (Err refused) = Err refused
write_shown rows ops version draft (Ok shown) = unless_full rows ops version draft shown

abbrev pub write_with : List Row → ℕ → List RawOp → Row → Option Root → Result (List Row) Refused
write_with rows version ops draft None = Err (no_draft version ops)
write_with rows version ops draft (Some root) = write_shown rows ops version draft (batch_in root (draft_view rows version root) 1 ops)

abbrev pub write_in : List Row → ℕ → List RawOp → Option Row → Result (List Row) Refused
write_in rows version ops None = Err (no_draft version ops)
write_in rows version ops (Some draft) = write_with rows version ops draft (root_of draft)

-- the rows once a batch is done in a draft, or the first refusal
unfoldable pub draft_write : List Row → ℕ → List RawOp → Result (List Row) Refused
draft_write rows version ops = write_in rows version ops (row_at rows (draft_key version))
