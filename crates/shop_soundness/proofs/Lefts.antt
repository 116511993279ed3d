-- The row that an upsert leaves: its key, and what stands in the fields that aren't given.
use Rattle.std.proofs.Common.{◌≡◌, ℕ, false, List, refl, sym, ap, ◌∙◌, Option, Some, None}
use Rattle.std.specs.Prelude.{unwrap_or}
use Rattle.std.specs.List.{fold}
use Rattle.shop_defs.specs.declared.key.Key.{Key}
use Rattle.shop_defs.specs.declared.row.Row.{Row}
use Rattle.shop_defs.specs.declared.op.Op.{Op}
use Rattle.shop_defs.specs.Rows.{field_of}
use Rattle.shop_defs.specs.Tables.{fields_of}
use Rattle.shop_operations.specs.Deletes.{stands_at}
use Rattle.shop_operations.specs.References.{ident}
use Rattle.shop_operations.specs.Upserts.{give, left, row_in, bare_row, gives}
use Rattle.closure.specs.Closure.{IsIn}
use Rattle.shop_operations.proofs.Fields.{given_other}
use Rattle.shop_soundness.proofs.Fields.{filled_ident}
use Rattle.shop_soundness.proofs.Lists.{find_of}
use Rattle.shop_soundness.proofs.Places.{AtOnePlace, stands_place, place_back}

-- the row that was at the place, or one without fields
abbrev pub row_before : List Row → Key → Row
row_before rows key = unwrap_or (row_in rows key) (bare_row key)

pub left_key : (rows : List Row) (key : Key) (op : Op) → (left rows key op).key ≡ (row_before rows key).key
unfolding left
left_key rows key op = refl

-- an id in a field that isn't given was there before
pub left_ident : (rows : List Row) (key : Key) (op : Op) (number id : ℕ) → gives op number ≡ false → ident (field_of (left rows key op) number) ≡ Some id → ident (field_of (row_before rows key) number) ≡ Some id
unfolding left
left_ident rows key op number id free h =
    sym (ap ident (given_other op.fields (row_before rows key).fields number free)) ∙ filled_ident (fields_of (row_before rows key).key.entity) (fold give (row_before rows key).fields op.fields) number id h

-- the row that was there, or that there was none
pub record WasThere (rows : List Row) (key : Key) (row : Row) : Type 0 where
  pub is_in : IsIn row rows
  pub place : AtOnePlace row.key key

pub was_there : (rows : List Row) (key : Key) (row : Row) → row_in rows key ≡ Some row → WasThere rows key row
was_there rows key row e =
    let f = find_of (stands_at key) rows row e in
    record { is_in = f.is_in; place = place_back key row.key (stands_place key row f.passes) }

-- the row that is left stands at the key's place
pub left_place : (rows : List Row) (key : Key) (op : Op) → AtOnePlace (left rows key op).key key
unfolding left
left_place rows key op = by (row_in rows key) refl
  where
    by : (row : Option Row) → row_in rows key ≡ row → AtOnePlace (unwrap_or row (bare_row key)).key key
    by None e = record { entity = refl; id = refl; second = refl }
    by (Some row) e = (was_there rows key row e).place
