-- Rows with drafts among them that can be worked on: what is kept is so where it passes the check.
use Rattle.std.specs.Prelude.{◌≡◌, ℕ, Bool, true, not, ◌&&◌, ◌||◌, nat_le, List, length}
use Rattle.std.specs.List.{list_all}
use Rattle.shop_defs.specs.declared.entity.Entity.TheVariants as E
use Rattle.shop_defs.specs.declared.op.Op.{Op}
use Rattle.shop_defs.specs.declared.row.Row.{Row}
use Rattle.shop_defs.specs.declared.table.TheConstants.{MOST_ROWS}
use Rattle.shop_defs.specs.Fitting.{op_fits, row_key_fits}
use Rattle.shop_defs.specs.Rows.{IsInKeyOrder}
use Rattle.shop_operations.specs.References.{is_entity}
use Rattle.shop_operations.specs.Upserts.{count_of}
use Rattle.shop_drafts.specs.Aggregates.{has_versions}
use Rattle.shop_drafts.specs.Damage.{passes_draft}
use Rattle.shop_drafts.specs.declared.aggregate.TheConstants.{MOST_OPS}

-- a commit may hold the operation: it is on an entity with versions, with a key and fields of that entity
abbrev pub is_change : Op → Bool
is_change op = has_versions op.entity && op_fits op

-- the row is no commit, or it holds at most as many operations as a batch may have, and each may be held
abbrev pub holds_changes : Row → Bool
holds_changes row = not (is_entity E.DraftCommit row.key.entity) || (nat_le (length row.ops) MOST_OPS && list_all is_change row.ops)

-- the rows stand in order, under keys of their entities' forms; each passes the rule on drafts, and commits hold what they may;
-- and there aren't more commits than there may be rows of an entity
pub record AreDrafted (rows : List Row) : Type 0 where
  pub in_order : IsInKeyOrder rows
  pub formed : list_all (λ row. row_key_fits row.key) rows ≡ true
  pub passes : list_all (passes_draft rows) rows ≡ true
  pub changes : list_all holds_changes rows ≡ true
  pub bounded : nat_le (count_of (λ entity. 0) rows E.DraftCommit) MOST_ROWS ≡ true
