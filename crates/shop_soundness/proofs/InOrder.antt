-- Rows stand in the order of places, with keys that fit, after an accepted operation.
use Rattle.std.proofs.Common.{◌≡◌, Bool, true, false, cond, ◌⊎◌, inl, inr, List, [], ◌∷◌, refl, sym, subst, Option, Some, None}
use Rattle.std.specs.Prelude.{filter, map, not, unwrap_or}
use Rattle.std.specs.List.{AllByRecursion}
use Rattle.std.specs.declared.cmp.Ordering.{Ordering}
use Rattle.std.specs.declared.cmp.Ordering.TheVariants.{Less}
use Rattle.keyed.specs.Keyed.{Ascends}
use Rattle.keyed.proofs.Changes.{ascends_put}
use Rattle.shop_defs.specs.declared.key.Key.{Key}
use Rattle.shop_defs.specs.declared.op.Op.{Op}
use Rattle.shop_defs.specs.declared.row.Row.{Row}
use Rattle.shop_defs.specs.declared.table.TheConstants.{REFERENCES}
use Rattle.shop_defs.specs.Fitting.{row_key_fits}
use Rattle.shop_defs.specs.Rows.{row_key}
use Rattle.shop_operations.specs.Deletes.{goes, gone, kept, emptied, deleted}
use Rattle.shop_operations.specs.Upserts.{place_cmp, row_in, with_row, left, bare_row}
use Rattle.shop_operations.specs.Views.{IsInPlaceOrder}
use Rattle.closure.specs.Closure.{IsIn}
use Rattle.closure.proofs.Members.{all_at, all_from}
use Rattle.shop_soundness.proofs.Places.{AreFormed}
use Rattle.shop_soundness.proofs.Emptied.{IsLeft, of_deleted}
use Rattle.shop_soundness.proofs.Lefts.{left_key, was_there}
use Rattle.shop_soundness.proofs.Lists.{put_of}
use Rattle.shop_soundness.proofs.Places.{place_cmp_total}

module _ {K X : Type 0} (cmp : K → K → Ordering) (key : X → K) where
  all_filter : (P : X → Type 0) (keeps : X → Bool) (xs : List X) → AllByRecursion P xs → AllByRecursion P (filter keeps xs)
  all_filter P keeps [] all = tt
  all_filter P keeps (x ∷ xs) all = by (keeps x) (all_filter P keeps xs all.1)
    where
      by : (b : Bool) → AllByRecursion P (filter keeps xs) → AllByRecursion P (cond b (x ∷ filter keeps xs) (filter keeps xs))
      by true more = (all.0, more)
      by false more = more

  -- what a filter leaves ascends
  pub ascends_filter : (keeps : X → Bool) (xs : List X) → Ascends cmp key xs → Ascends cmp key (filter keeps xs)
  ascends_filter keeps [] up = tt
  ascends_filter keeps (x ∷ xs) up = by (keeps x) (ascends_filter keeps xs up.1)
    where
      by : (b : Bool) → Ascends cmp key (filter keeps xs) → Ascends cmp key (cond b (x ∷ filter keeps xs) (filter keeps xs))
      by true more = (all_filter (λ y. cmp (key x) (key y) ≡ Less) keeps xs up.0, more)
      by false more = more

-- emptied rows stand where they stood
below_emptied : (lost : List Row) (at : Key) (rows : List Row) → AllByRecursion (λ row. place_cmp at row.key ≡ Less) rows → AllByRecursion (λ row. place_cmp at row.key ≡ Less) (map (emptied REFERENCES lost) rows)
below_emptied lost at [] all = tt
below_emptied lost at (row ∷ rest) all = (all.0, below_emptied lost at rest all.1)

ascends_emptied : (lost rows : List Row) → IsInPlaceOrder rows → IsInPlaceOrder (map (emptied REFERENCES lost) rows)
ascends_emptied lost [] up = tt
ascends_emptied lost (row ∷ rest) up = (below_emptied lost row.key rest up.0, ascends_emptied lost rest up.1)

pub upsert_in_order : (rows : List Row) (new : Row) → IsInPlaceOrder rows → IsInPlaceOrder (with_row rows new)
upsert_in_order rows new up = ascends_put place_cmp row_key place_cmp_total rows new up

pub delete_in_order : (rows : List Row) (key : Key) → IsInPlaceOrder rows → IsInPlaceOrder (deleted REFERENCES rows key)
delete_in_order rows key up = ascends_emptied (gone REFERENCES rows key) (kept REFERENCES rows key) (ascends_filter place_cmp row_key (λ row. not (goes REFERENCES rows key row)) rows up)

-- ---- keys

-- the key of the row that an upsert leaves fits
pub left_fits : (rows : List Row) (key : Key) (op : Op) → AreFormed rows → row_key_fits key ≡ true → row_key_fits (left rows key op).key ≡ true
left_fits rows key op keys fits = subst (λ (k : Key). row_key_fits k ≡ true) (sym (left_key rows key op)) (by (row_in rows key) refl)
  where
    by : (row : Option Row) → row_in rows key ≡ row → row_key_fits (unwrap_or row (bare_row key)).key ≡ true
    by None e = fits
    by (Some row) e = all_at (λ r. row_key_fits r.key) rows row keys (was_there rows key row e).is_in

pub upsert_formed : (rows : List Row) (new : Row) → AreFormed rows → row_key_fits new.key ≡ true → AreFormed (with_row rows new)
upsert_formed rows new keys fits = all_from (λ row. row_key_fits row.key) (with_row rows new) (λ row i. by row (put_of place_cmp row_key rows new row i))
  where
    by : (row : Row) → (new ≡ row) ⊎ IsIn row rows → row_key_fits row.key ≡ true
    by row (inl e) = subst (λ (r : Row). row_key_fits r.key ≡ true) e fits
    by row (inr i) = all_at (λ r. row_key_fits r.key) rows row keys i

pub delete_formed : (rows : List Row) (key : Key) → AreFormed rows → AreFormed (deleted REFERENCES rows key)
delete_formed rows key keys = all_from (λ row. row_key_fits row.key) (deleted REFERENCES rows key) (λ row i. by row (of_deleted REFERENCES rows key row i))
  where
    by : (row : Row) → IsLeft REFERENCES rows key row → row_key_fits row.key ≡ true
    by row was = subst (λ (r : Row). row_key_fits r.key ≡ true) was.image (all_at (λ r. row_key_fits r.key) rows was.one keys was.is_in)
