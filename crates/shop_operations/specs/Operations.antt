-- One operation on a view: the rows that it leaves, or the first rule that it breaks.
use Rattle.std.specs.Prelude.{Bool, List, [], ◌∷◌, map, Option, Some, None, Result, Ok, Err, if◌then◌else◌}
use Rattle.shop_defs.specs.declared.broken.Broken.{Broken}
use Rattle.shop_defs.specs.declared.broken.Broken.TheVariants as B
use Rattle.shop_defs.specs.declared.key.Key.{Key}
use Rattle.shop_defs.specs.declared.op.Op.{Op}
use Rattle.shop_defs.specs.declared.op.OpKind.{OpKind}
use Rattle.shop_defs.specs.declared.op.OpKind.TheVariants.{Upsert, Delete}
use Rattle.shop_defs.specs.declared.row.Row.{Row}
use Rattle.shop_defs.specs.declared.table.TheConstants.{REFERENCES}
use Rattle.shop_operations.specs.Deletes.{in_use, deleted, gone, losing}
use Rattle.shop_operations.specs.Upserts.{row_in, with_row, left, fixed_field, missing_required, missing_reference, duplicate, parent_cycle, parent_too_deep, too_many}
use Rattle.shop_operations.specs.Views.{View}

-- the place that an operation is on
abbrev pub place : View → Op → Key
place view op = record { entity = op.entity; version = view.version; id = op.id; second = op.second }

-- the first of the rules that is broken
abbrev pub first : List (Option Broken) → Option Broken
first [] = None
first (None ∷ rest) = first rest
first (Some broken ∷ rest) = Some broken

abbrev pub unless : List Row → Option Broken → Result (List Row) Broken
unless rows None = Ok rows
unless rows (Some broken) = Err broken

-- the rules on a row that is written, in the order in which they are tried
abbrev pub rules : View → Op → Row → List (Option Broken)
rules view op row = let rows = with_row view.rows row in
    fixed_field (row_in view.rows (place view op)) row ∷
    missing_required row ∷
    missing_reference rows op row ∷
    duplicate rows row ∷
    parent_cycle rows op row ∷
    parent_too_deep rows op row ∷
    too_many view.hidden rows row ∷ []

-- the first rule that the row breaks
abbrev pub broken_by : View → Op → Row → Option Broken
broken_by view op row = first (rules view op row)

-- the row that an upsert leaves is put at its place
abbrev pub upserted : View → Op → Result (List Row) Broken
upserted view op = let row = left view.rows (place view op) op in unless (with_row view.rows row) (broken_by view op row)

abbrev pub in_use_by : Option Row → Option Broken
in_use_by None = None
in_use_by (Some row) = Some (B.InUse row.key)

-- the row and all that goes with it are taken out; when operations are replayed, a missing row may be deleted
abbrev pub removed : View → Op → Bool → Option Row → Result (List Row) Broken
removed view op replay None = if replay then Ok view.rows else Err (B.NoSuchRow (place view op))
removed view op replay (Some row) = unless (deleted REFERENCES view.rows (place view op)) (in_use_by (in_use REFERENCES view.rows (place view op)))

abbrev pub by_kind : View → Op → Bool → OpKind → Result (List Row) Broken
by_kind view op replay Upsert = upserted view op
by_kind view op replay Delete = removed view op replay (row_in view.rows (place view op))

-- the rows that an operation leaves, or the first rule that it breaks
unfoldable pub operated : View → Op → Bool → Result (List Row) Broken
operated view op replay = by_kind view op replay op.kind

-- ---- what an operation leaves, takes out and empties, whether or not it breaks a rule

-- the row that an upsert would leave
abbrev pub row_left : View → Op → OpKind → Option Row
row_left view op Upsert = Some (left view.rows (place view op) op)
row_left view op Delete = None

-- the key at which the view shows a row: its place, with the view's version
abbrev pub shown_key : View → Row → Key
shown_key view row = record row.key { version = view.version }

-- the keys of the rows that a delete takes out
abbrev pub keys_gone : View → Op → OpKind → List Key
keys_gone view op Upsert = []
keys_gone view op Delete = map (shown_key view) (gone REFERENCES view.rows (place view op))

-- the keys of the rows that stay and lose a reference
abbrev pub keys_emptied : View → Op → OpKind → List Key
keys_emptied view op Upsert = []
keys_emptied view op Delete = map (shown_key view) (losing REFERENCES view.rows (place view op))
