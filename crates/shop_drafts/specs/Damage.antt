-- Whether a kept row passes the rule on drafts.
use Rattle.std.specs.Prelude.{ℕ, suc, pos, Bool, true, false, not, ◌==◌, ◌&&◌, ◌||◌, List, [], ◌∷◌, length, Option, Some, None, is_some}
use Rattle.std.specs.Ordering.{int_eq}
use Rattle.shop_defs.specs.declared.entity.Entity.TheVariants as E
use Rattle.shop_defs.specs.declared.row.Row.{Row}
use Rattle.shop_defs.specs.declared.value.Value.{Value}
use Rattle.shop_defs.specs.declared.value.Value.TheVariants as V
use Rattle.shop_defs.specs.Rows.{row_at, field_of}
use Rattle.shop_operations.specs.References.{is_entity, is_live}
use Rattle.shop_drafts.specs.Aggregates.{is_part}
use Rattle.shop_drafts.specs.Drafts.{draft_key, commits, root_in}
use Rattle.shop_drafts.specs.declared.aggregate.Root.{Root}
use Rattle.shop_drafts.specs.declared.aggregate.TheConstants.{COMMITS}

-- there is a draft of the version
abbrev pub has_draft : List Row → ℕ → Bool
has_draft rows version = is_some (row_at rows (draft_key version))

abbrev pub is_part_of : Option Root → Row → Bool
is_part_of None row = false
is_part_of (Some root) row = is_part root row

-- the row is live, or there is a draft of its version that edits it
abbrev pub is_edited : List Row → Row → Bool
is_edited rows row = is_live row || is_part_of (root_in rows row.key.version) row

-- the row is no commit, or there is a draft that it is of
abbrev pub has_its_draft : List Row → Row → Bool
has_its_draft rows row = not (is_entity E.DraftCommit row.key.entity) || has_draft rows row.key.id

-- the second parts of the rows' keys are that number and those that follow
abbrev pub count_up : ℕ → List Row → Bool
count_up number [] = true
count_up number (row ∷ rest) = (row.key.second == number) && count_up (suc number) rest

abbrev pub is_number : Option Value → ℕ → Bool
is_number (Some (V.Int value)) number = int_eq value (pos number)
is_number value number = false

-- the row is no draft, or its commits are numbered from 1 to as many as it says
abbrev pub has_its_commits : List Row → Row → Bool
has_its_commits rows row =
    not (is_entity E.Draft row.key.entity) ||
    (count_up 1 (commits rows row.key.id) && is_number (field_of row COMMITS) (length (commits rows row.key.id)))

-- the row passes among the rows: else it is damaged
abbrev pub passes_draft : List Row → Row → Bool
passes_draft rows row = is_edited rows row && (has_its_draft rows row && has_its_commits rows row)
