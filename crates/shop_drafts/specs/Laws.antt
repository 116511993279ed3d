-- What holds of drafts and merges.
use Rattle.std.specs.Prelude.{◌≡◌, ◌≢◌, ℕ, ◌++◌, ◌==◌, ◌&&◌, ◌||◌, true, List, [], filter, Some, Result, Ok, Err}
use Rattle.closure.specs.Closure.{IsIn}
use Rattle.shop_defs.specs.declared.broken.Broken.{Broken}
use Rattle.shop_requests.specs.declared.raw.RawOp.{RawOp}
use Rattle.shop_defs.specs.declared.row.Row.{Row}
use Rattle.shop_defs.specs.Rows.{IsInKeyOrder}
use Rattle.shop_soundness.specs.Batches.{batch}
use Rattle.shop_operations.specs.References.{is_entity, is_id, ident, live, of_version}
use Rattle.shop_defs.specs.declared.entity.Entity.{Entity}
use Rattle.shop_defs.specs.declared.entity.Entity.TheVariants as E
use Rattle.shop_defs.specs.Rows.{field_of}
use Rattle.shop_drafts.specs.Aggregates.{is_part, is_root}
use Rattle.shop_operations.specs.Views.{View, live_view, drafted, IsInPlaceOrder}
use Rattle.shop_drafts.specs.Drafts.{over, root_in, shown_rows}
use Rattle.shop_drafts.specs.Making.{make_draft, dropped, drop_draft, is_of_draft}
use Rattle.shop_drafts.specs.Merging.{Logged, logged_from, log, replayed, merge}
use Rattle.shop_drafts.specs.Writing.{next_number, read_all, batch_in, draft_write}
use Rattle.shop_drafts.specs.Damage.{passes_draft}
use Rattle.shop_drafts.specs.Soundness.{is_change}
use Rattle.shop_operations.specs.Soundness.{IsCoherent}
use Rattle.shop_soundness.specs.WellFormed.{AreWellFormed, unwritten}
use Rattle.shop_defs.specs.Fitting.{row_key_fits}
use Rattle.std.specs.List.{list_all}
use Rattle.shop_drafts.specs.declared.aggregate.Root.{Root}

abbrev pub and_then : Result (List Row) Broken → (List Row → Result (List Row) Broken) → Result (List Row) Broken
and_then (Err broken) more = Err broken
and_then (Ok rows) more = more rows

-- these are the live rows that the replay of a draft's log leaves, without those that kept the draft
pub record IsReplay (rows : List Row) (version : ℕ) (live_after : List Row) : Type 0 where
  pub now : List Row
  pub replay : replayed (live_view rows) (log rows version) ≡ Ok now
  pub left : live_after ≡ dropped now version

-- what a merge does
pub record MergesAreReplays : Type 0 where
  -- the operations of one commit are done after those of the commits before it
  pub in_turn : (view : View) (before after : List Logged) → replayed view (before ++ after) ≡ and_then (replayed view before) (λ rows. replayed (record view { rows = rows }) after)
  -- what a batch on live rows leaves, the replay of its operations leaves
  pub as_batches : (view : View) (number commit : ℕ) (ops : List RawOp) (now : List Row) → batch view number ops ≡ Ok now → (from : ℕ) → replayed view (logged_from commit from (read_all ops)) ≡ Ok now
  -- the operations of an accepted batch, as they are read, stand behind those that the log had
  pub logs : (rows after : List Row) (version : ℕ) (ops : List RawOp) → IsInKeyOrder rows → list_all (passes_draft rows) rows ≡ true → version ≢ 0 → draft_write rows version ops ≡ Ok after → log after version ≡ log rows version ++ logged_from (next_number rows version) 1 (read_all ops)
  -- the live rows are what the replay of the log leaves of the live rows, without those that kept the draft
  pub live_rows : (rows after : List Row) (version : ℕ) → IsInKeyOrder rows → merge rows version ≡ Ok after → IsReplay rows version (live after)
  -- a draft that was made and merged at once changes nothing
  pub at_once : (rows now : List Row) (version : ℕ) (name : List ℕ) (id : ℕ) → IsInKeyOrder rows → list_all (passes_draft rows) rows ≡ true → version ≢ 0 → make_draft rows version name id ≡ Ok now → merge now version ≡ Ok rows
  -- nothing is left of the draft
  pub gone : (rows after : List Row) (version : ℕ) → merge rows version ≡ Ok after → filter (is_of_draft version) after ≡ []

-- commits may hold each of the operations
abbrev pub AreHeld : List Logged → Type 0
AreHeld entries = list_all (λ (entry : Logged). is_change entry.op) entries ≡ true

-- A replay of operations that commits may hold keeps the rows of a view coherent, and well formed, and leaves those that
-- operations may not write just as they were: among them drafts and their commits.
pub record ReplaysKeepRows : Type 0 where
  pub coherent : (view : View) (entries : List Logged) (now : List Row) → IsCoherent view → AreHeld entries → replayed view entries ≡ Ok now → IsCoherent (record view { rows = now })
  pub formed : (view : View) (entries : List Logged) (now : List Row) → AreWellFormed view.rows → AreHeld entries → replayed view entries ≡ Ok now → AreWellFormed now
  pub others : (view : View) (entries : List Logged) (now : List Row) → AreHeld entries → replayed view entries ≡ Ok now → unwritten now ≡ unwritten view.rows

-- What a draft edits: of a product its row, its translations, its links to categories and its prices; of a category its row and
-- its translations; and of nothing else a draft may be made.
pub record PartsAreThese : Type 0 where
  pub of_product : (id : ℕ) (row : Row) → is_part (record { entity = E.Product; id = id }) row
      ≡ ((is_entity E.Product row.key.entity && (row.key.id == id))
      || ((is_entity E.ProductTranslation row.key.entity && (row.key.id == id))
      || ((is_entity E.ProductCategory row.key.entity && (row.key.id == id))
      || (is_entity E.ProductPrice row.key.entity && is_id (ident (field_of row 1)) id))))
  pub of_category : (id : ℕ) (row : Row) → is_part (record { entity = E.Category; id = id }) row
      ≡ ((is_entity E.Category row.key.entity && (row.key.id == id))
      || (is_entity E.CategoryTranslation row.key.entity && (row.key.id == id)))
  pub roots : (entity : Entity) → is_root entity ≡ (is_entity E.Category entity || is_entity E.Product entity)

-- What a draft shows is what an operation may be done on, and a batch in it is a batch.
pub record DraftsAreViews : Type 0 where
  -- each place stands once, and each key is of its entity's form
  pub in_order : (rows : List Row) (version : ℕ) (root : Root) → IsInKeyOrder rows → IsInPlaceOrder (over rows version root)
  pub formed : (rows : List Row) (version : ℕ) (root : Root) → list_all (λ row. row_key_fits row.key) rows ≡ true → list_all (λ row. row_key_fits row.key) (over rows version root) ≡ true
  -- an accepted batch leaves what the same operations leave of any view with these rows
  pub as_batches : (root : Root) (view : View) (number : ℕ) (ops : List RawOp) (now : List Row) → batch_in root view number ops ≡ Ok now → batch view number ops ≡ Ok now

-- the rows of that version, and no others, are part of what a draft of the root edits
abbrev pub Agree : Root → ℕ → List Row → Type 0
Agree root version rows = (row : Row) → IsIn row rows → (row.key.version == version) ≡ is_part root row

-- What a draft shows of its own version is what it edits, also after batches in it: so a write may keep either.
pub record DraftsShowTheirParts : Type 0 where
  pub at_first : (rows : List Row) (version : ℕ) (root : Root) → list_all (passes_draft rows) rows ≡ true → version ≢ 0 → root_in rows version ≡ Some root → Agree root version (over rows version root)
  pub batches : (root : Root) (view : View) (number : ℕ) (ops : List RawOp) (now : List Row) → Agree root view.version view.rows → batch_in root view number ops ≡ Ok now → Agree root view.version now
  pub are : (root : Root) (version : ℕ) (rows : List Row) → Agree root version rows → of_version version rows ≡ filter (is_part root) rows

-- what is shown by each version but this, without the rows that keep this draft, is as before
abbrev pub OthersShowTheSame : ℕ → List Row → List Row → Type 0
OthersShowTheSame version before after = (other : ℕ) → other ≢ version → dropped (shown_rows after other) version ≡ dropped (shown_rows before other) version

-- What is done with a draft changes nothing beside it: the rows that aren't of the draft stay just as they were, whether it is
-- made, written or dropped, and so does what live and each other draft show; a merge leaves the rows of all other drafts.
pub record NothingElseChanges : Type 0 where
  pub making : (rows after : List Row) (version : ℕ) (name : List ℕ) (id : ℕ) → make_draft rows version name id ≡ Ok after → dropped after version ≡ dropped rows version
  pub writing : (rows after : List Row) (version : ℕ) (ops : List RawOp) → draft_write rows version ops ≡ Ok after → dropped after version ≡ dropped rows version
  pub dropping : (rows after : List Row) (version : ℕ) → drop_draft rows version ≡ Ok after → after ≡ dropped rows version
  pub merging : (rows after : List Row) (version : ℕ) → merge rows version ≡ Ok after → drafted after ≡ dropped (drafted rows) version
  pub made_shows : (rows after : List Row) (version : ℕ) (name : List ℕ) (id : ℕ) → IsInKeyOrder rows → version ≢ 0 → make_draft rows version name id ≡ Ok after → OthersShowTheSame version rows after
  pub written_shows : (rows after : List Row) (version : ℕ) (ops : List RawOp) → IsInKeyOrder rows → version ≢ 0 → draft_write rows version ops ≡ Ok after → OthersShowTheSame version rows after
  pub dropped_shows : (rows after : List Row) (version : ℕ) → IsInKeyOrder rows → version ≢ 0 → drop_draft rows version ≡ Ok after → OthersShowTheSame version rows after
