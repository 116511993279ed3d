-- The rules on how a row stands to the rows that are kept with it.
use Rattle.std.specs.Prelude.{Bool, not, ◌&&◌, ◌||◌, nat_lt, List, filter, Option, Some, None, if◌then◌else◌}
use Rattle.std.specs.List.{list_any, list_all}
use Rattle.std.specs.Ordering.{is_lt, is_le}
use Rattle.shop_defs.specs.declared.row.Row.{Row}
use Rattle.shop_defs.specs.declared.table.TheConstants.{REFERENCES, LEVEL_LIMITS, OWNER_LIMITS, MOST_ROWS}
use Rattle.shop_defs.specs.Keys.{key_cmp}
use Rattle.shop_operations.specs.Parents.{is_deep}
use Rattle.shop_operations.specs.References.{is_grounded, is_live, live}
use Rattle.shop_operations.specs.Upserts.{is_of_tree, is_twin, owner_is_full}
use Rattle.shop_rows.specs.Lookups.{count_rows}
use Rattle.shop_check.specs.declared.fault.Rule.{Rule}
use Rattle.shop_check.specs.declared.fault.Rule.TheVariants as R

-- what the row names is no live row, or a node of another tree
unfoldable pub breaks_reference : List Row → Row → Bool
breaks_reference rows row = is_live row && not (is_grounded REFERENCES (live rows) row && list_all (λ reference. is_of_tree reference (live rows) row) REFERENCES)

-- a live row with a lower key has the same unique fields, none of them null
unfoldable pub breaks_duplicate : List Row → Row → Bool
breaks_duplicate rows row = is_live row && list_any (λ other. is_lt (key_cmp other.key row.key) && is_twin row other) (live rows)

-- the row stands lower than it may, or its way up doesn't end
unfoldable pub breaks_parent : List Row → Row → Bool
breaks_parent rows row = is_live row && is_deep REFERENCES LEVEL_LIMITS (live rows) row

-- the rows up to a row, in the order of keys
abbrev pub up_to : List Row → Row → List Row
up_to rows row = filter (λ other. is_le (key_cmp other.key row.key)) rows

-- up to the row there are more rows of its entity than there may be, in all versions, or more live ones of its owner
unfoldable pub breaks_limit : List Row → Row → Bool
breaks_limit rows row = nat_lt MOST_ROWS (count_rows (up_to rows row) row.key.entity) || (is_live row && list_any (owner_is_full (live (up_to rows row)) row) OWNER_LIMITS)

-- the first of these rules that the row fails
abbrev pub rule_failed_among : List Row → Row → Option Rule
rule_failed_among rows row =
    if breaks_reference rows row then Some R.Reference else
    if breaks_duplicate rows row then Some R.Duplicate else
    if breaks_parent rows row then Some R.Parent else
    if breaks_limit rows row then Some R.Limit else None
