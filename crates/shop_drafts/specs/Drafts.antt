-- Drafts: the rows that keep them, and the view that they are.
use Rattle.std.specs.Prelude.{ℕ, Bool, not, if◌then◌else◌, ◌==◌, ◌&&◌, ◌||◌, List, [], filter, Option, Some, None, is_none, count_by}
use Rattle.std.specs.List.{fold}
use Rattle.std.specs.Option.{option_and_then}
use Rattle.shop_defs.specs.declared.entity.Entity.{Entity}
use Rattle.shop_defs.specs.declared.entity.Entity.TheVariants as E
use Rattle.shop_defs.specs.declared.key.Key.{Key}
use Rattle.shop_defs.specs.declared.row.Row.{Row}
use Rattle.shop_defs.specs.declared.value.Value.{Value}
use Rattle.shop_defs.specs.declared.value.Value.TheVariants as V
use Rattle.shop_defs.specs.Rows.{row_at, field_of}
use Rattle.shop_defs.specs.Tables.{entity_named}
use Rattle.shop_operations.specs.References.{is_entity, is_live, live, of_version, ident}
use Rattle.shop_operations.specs.Upserts.{row_in, with_row}
use Rattle.shop_operations.specs.Views.{View}
use Rattle.shop_drafts.specs.Aggregates.{is_part}
use Rattle.shop_drafts.specs.declared.aggregate.Root.{Root}
use Rattle.shop_drafts.specs.declared.aggregate.TheConstants.{ROOT_ENTITY, ROOT}

-- ---- the rows that keep a draft

-- the draft of a version has that version as its id
abbrev pub draft_key : ℕ → Key
draft_key version = record { entity = E.Draft; version = 0; id = version; second = 0 }

-- its commits are numbered from 1 on
abbrev pub commit_key : ℕ → ℕ → Key
commit_key version number = record { entity = E.DraftCommit; version = 0; id = version; second = number }

-- the entity with the name that a field holds
abbrev pub named_entity : Option Value → Option Entity
named_entity (Some (V.Text name)) = entity_named name
named_entity value = None

abbrev pub root_with : Option Entity → Option ℕ → Option Root
root_with (Some entity) (Some id) = Some (record { entity = entity; id = id })
root_with entity id = None

abbrev pub root_name : Row → Option Value
root_name row = field_of row ROOT_ENTITY

abbrev pub root_ident : Row → Option ℕ
root_ident row = ident (field_of row ROOT)

-- the root that a draft's row names
abbrev pub root_of : Row → Option Root
root_of row = root_with (named_entity (root_name row)) (root_ident row)

-- the root of the draft of a version: none where there is no such draft
abbrev pub root_in : List Row → ℕ → Option Root
root_in rows version = option_and_then root_of (row_at rows (draft_key version))

-- the row is a commit of the version's draft
abbrev pub is_commit : ℕ → Row → Bool
is_commit version row = is_live row && (is_entity E.DraftCommit row.key.entity && (row.key.id == version))

-- its commits, in the order of their numbers
abbrev pub commits : List Row → ℕ → List Row
commits rows version = filter (is_commit version) rows

-- ---- what a draft shows

-- the live row shows in a draft of the root with these rows: it isn't part of what the draft edits, and none of the draft's
-- rows stands at its place
abbrev pub is_open : Root → List Row → Row → Bool
is_open root own row = not (is_part root row) && is_none (row_in own row.key)

-- the live rows that show, with the draft's own among them, each at its place
abbrev pub shown_with : List Row → Root → List Row → List Row
shown_with rows root own = fold with_row (filter (is_open root own) (live rows)) own

-- the rows that a draft shows
unfoldable pub over : List Row → ℕ → Root → List Row
over rows version root = shown_with rows root (of_version version rows)

-- the draft shows the row
abbrev pub is_shown : List Row → ℕ → Root → Row → Bool
is_shown rows version root row = (row.key.version == version) || (is_live row && is_open root (of_version version rows) row)

-- the rows of the entity, in all versions, that the draft doesn't show
abbrev pub count_unshown : List Row → ℕ → Root → Entity → ℕ
count_unshown rows version root entity = count_by (λ row. is_entity entity row.key.entity && not (is_shown rows version root row)) rows

-- as an operation sees them
abbrev pub draft_view : List Row → ℕ → Root → View
draft_view rows version root = record { version = version; rows = over rows version root; hidden = count_unshown rows version root }

-- ---- what a version shows

abbrev pub shown_by : List Row → ℕ → Option Root → List Row
shown_by rows version None = []
shown_by rows version (Some root) = over rows version root

-- the rows that a version shows: of the live one the live rows
abbrev pub shown_rows : List Row → ℕ → List Row
shown_rows rows version = if version == 0 then live rows else shown_by rows version (root_in rows version)
