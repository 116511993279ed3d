-- Rows that are found by their keys.
use Rattle.std.proofs.Common.{◌≡◌, true, false, Bool, List, [], ◌∷◌, Option, Some, None, if◌then◌else◌, refl, ap, subst, sym}
use Rattle.std.specs.List.{AllByRecursion}
use Rattle.std.specs.Ordering.{is_eq}
use Rattle.shop_defs.specs.declared.entity.Entity.{Entity}
use Rattle.shop_defs.specs.declared.key.Key.{Key}
use Rattle.shop_defs.specs.declared.row.Row.{Row}
use Rattle.shop_defs.specs.Keys.{key_cmp}
use Rattle.shop_defs.specs.Rows.{row_at}
use Rattle.row_fields.specs.Checked.{IsRowOf}
use Rattle.shop_rows.proofs.Mentioning.{found_key}
use Rattle.shop_order.specs.Checked.{AreChecked}

-- what holds of all rows holds of the one that is found
pub found_all : (P : Row → Type 0) (rows : List Row) (key : Key) (row : Row) → AllByRecursion P rows → row_at rows key ≡ Some row → P row
found_all P [] key row all e = absurd (cc)
found_all P (x ∷ rows) key row all e = by (found_all P rows key row all.1) (is_eq (key_cmp x.key key)) refl
  where
    by : (row_at rows key ≡ Some row → P row) → (b : Bool) → is_eq (key_cmp x.key key) ≡ b → P row
    by more true f = let e2 : Some x ≡ Some row = rw f at e in let same : x ≡ row = cc in subst P same all.0
    by more false f = let e2 : row_at rows key ≡ Some row = rw f at e in more e2

-- a checked row is as the entity of the key has it
pub found_is : (rows : List Row) (key : Key) (row : Row) → AreChecked rows → row_at rows key ≡ Some row → IsRowOf key.entity row
found_is rows key row checked e = subst (λ (k : Key). IsRowOf k.entity row) (found_key rows key row e) (found_all (λ row. IsRowOf row.key.entity row) rows key row checked e)
