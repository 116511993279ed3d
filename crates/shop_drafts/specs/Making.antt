-- A draft is made, and a draft is dropped.
use Rattle.std.specs.Prelude.{ℕ, pos, Bool, not, ◌==◌, ◌||◌, ◌&&◌, nat_lt, List, [], ◌∷◌, ◌++◌, map, filter, find, Option, Some, None, is_some, is_none, length, if◌then◌else◌, Result, Ok, Err}
use Rattle.std.specs.List.{fold}
use Rattle.std.specs.Option.{option_map}
use Rattle.keyed.specs.Keyed.{put}
use Rattle.shop_defs.specs.declared.broken.Broken.{Broken}
use Rattle.shop_defs.specs.declared.broken.Broken.TheVariants as B
use Rattle.shop_defs.specs.declared.entity.Entity.{Entity}
use Rattle.shop_defs.specs.declared.key.Key.{Key}
use Rattle.shop_defs.specs.declared.row.Row.{Row}
use Rattle.shop_defs.specs.declared.table.TheConstants.{MOST_ROWS}
use Rattle.shop_defs.specs.declared.value.Value.TheVariants as V
use Rattle.shop_defs.specs.Keys.{key_cmp}
use Rattle.shop_defs.specs.Rows.{row_key, row_at}
use Rattle.shop_defs.specs.Tables.{entity_named}
use Rattle.shop_defs.specs.Texts.{entity_text}
use Rattle.shop_operations.specs.Deletes.{stands_at}
use Rattle.shop_operations.specs.Operations.{first, unless}
use Rattle.shop_operations.specs.References.{is_live, live}
use Rattle.shop_operations.specs.Upserts.{count_of}
use Rattle.shop_drafts.specs.Aggregates.{is_part, is_root}
use Rattle.shop_drafts.specs.Drafts.{draft_key, commits, is_commit}
use Rattle.shop_drafts.specs.declared.aggregate.Root.{Root}
use Rattle.shop_drafts.specs.declared.aggregate.TheConstants.{ROOT_ENTITY, ROOT, COMMITS}

-- rows with others among them, each at its key
abbrev pub with_rows : List Row → List Row → List Row
with_rows rows others = fold (put key_cmp row_key) rows others

-- ---- making

abbrev pub at_version : ℕ → Row → Row
at_version version row = record row { key = record row.key { version = version } }

-- the live rows that a draft of the root edits, under the draft's version
abbrev pub copies : List Row → ℕ → Root → List Row
copies rows version root = map (at_version version) (filter (is_part root) (live rows))

-- how many rows are copied
abbrev pub copied_count : List Row → ℕ → Root → ℕ
copied_count rows version root = length (copies rows version root)

-- the row of a draft without commits
abbrev pub new_draft : ℕ → Root → Row
new_draft version root = record {
  key = draft_key version;
  fields = (ROOT_ENTITY, V.Text (entity_text root.entity)) ∷ (ROOT, V.Ident root.id) ∷ (COMMITS, V.Int (pos 0)) ∷ [];
  ops = [];
}

-- what is put where a draft is made
abbrev pub made_rows : List Row → ℕ → Root → List Row
made_rows rows version root = copies rows version root ++ new_draft version root ∷ []

-- the rows once a draft is made
unfoldable pub made : List Row → ℕ → Root → List Row
made rows version root = with_rows rows (made_rows rows version root)

abbrev pub root_key : Root → Key
root_key root = record { entity = root.entity; version = 0; id = root.id; second = 0 }

abbrev pub not_root : Root → Option Broken
not_root root = if is_root root.entity then None else Some (B.NotVersioned root.entity)

abbrev pub version_exists : List Row → ℕ → Option Broken
version_exists rows version = if is_some (row_at rows (draft_key version)) then Some (B.VersionExists version) else None

abbrev pub no_such_root : List Row → Root → Option Broken
no_such_root rows root = if is_none (row_at rows (root_key root)) then Some (B.NoSuchRow (root_key root)) else None

-- the first entity of what is put of which there would be more rows than there may be
abbrev pub too_many_made : List Row → ℕ → Root → Option Broken
too_many_made rows version root =
    option_map (λ row. B.TooMany row.key.entity MOST_ROWS)
    (find (λ row. nat_lt MOST_ROWS (count_of (λ entity. 0) (made rows version root) row.key.entity)) (made_rows rows version root))

-- the first rule that making a draft breaks
abbrev pub making_breaks : List Row → ℕ → Root → Option Broken
making_breaks rows version root = first (not_root root ∷ version_exists rows version ∷ no_such_root rows root ∷ too_many_made rows version root ∷ [])

abbrev pub made_of : List Row → ℕ → ℕ → Option Entity → Result (List Row) Broken
made_of rows version id None = Err B.UnknownEntity
made_of rows version id (Some entity) =
    let root : Root = record { entity = entity; id = id } in
    unless (made rows version root) (making_breaks rows version root)

-- the rows once a draft of that version is made of a row of the entity with that name, or the first rule that is broken
unfoldable pub make_draft : List Row → ℕ → List ℕ → ℕ → Result (List Row) Broken
make_draft rows version name id = made_of rows version id (entity_named name)

-- ---- dropping

-- the row is of the draft: the draft's own row, a commit of it, or one of its rows
abbrev pub is_of_draft : ℕ → Row → Bool
is_of_draft version row = (row.key.version == version) || ((is_live row && stands_at (draft_key version) row) || is_commit version row)

-- the rows without a draft
unfoldable pub dropped : List Row → ℕ → List Row
dropped rows version = filter (λ row. not (is_of_draft version row)) rows

-- what becomes of a draft, where there is one
abbrev pub if_drafted : List Row → ℕ → Result (List Row) Broken → Result (List Row) Broken
if_drafted rows version outcome = if is_some (row_at rows (draft_key version)) then outcome else Err (B.NoSuchVersion version)

-- the rows once a draft is dropped
unfoldable pub drop_draft : List Row → ℕ → Result (List Row) Broken
drop_draft rows version = if_drafted rows version (Ok (dropped rows version))

-- how many commits are dropped with it
abbrev pub dropped_count : List Row → ℕ → ℕ
dropped_count rows version = length (commits rows version)
