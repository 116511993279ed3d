-- The row at the first of the keys of rows of which a test holds is the first of which it holds.
use Rattle.std.proofs.Common.{◌≡◌, Bool, true, false, List, [], ◌∷◌, refl, sym, ap, ◌∙◌, Option, Some, None, if◌then◌else◌}
use Rattle.std.specs.Prelude.{filter, map, is_some, unwrap_or}
use Rattle.std.specs.Prelude.{slice_get}
use Rattle.std.specs.List as L
use Rattle.std.specs.Cmp.{IsTotalOrder}
use Rattle.std.proofs.lemmas.Cmp.{on_total, then_total, nat_cmp_total}
use Rattle.std.proofs.lemmas.Bool.{false≢true}
use Rattle.keyed.specs.Keyed.{find}
use Rattle.shop_defs.specs.declared.key.Key.{Key}
use Rattle.shop_defs.specs.declared.row.Row.{Row}
use Rattle.shop_defs.specs.Entities.{entity_number}
use Rattle.shop_defs.specs.Rows.{row_key}
use Rattle.shop_operations.specs.Upserts.{place_cmp, row_in}
use Rattle.shop_operations.specs.Views.{IsInPlaceOrder}
use Rattle.shop_write.proofs.InOrder.{guard, found_first, find_filter}
use Rattle.shop_write.proofs.LivePlaces.{stands_is}

order_of_places : IsTotalOrder place_cmp
order_of_places =
    then_total (on_total (λ (k : Key). entity_number k.entity) nat_cmp_total)
    (then_total (on_total (λ (k : Key). k.id) nat_cmp_total) (on_total (λ (k : Key). k.second) nat_cmp_total))

-- the row at a place, found in either way
row_in-places : (rows : List Row) (key : Key) → row_in rows key ≡ find place_cmp row_key rows key
row_in-places [] key = refl
row_in-places (row ∷ rows) key = rw (stands_is key row, row_in-places rows key) refl

-- what passes is there
pub passing : {X : Type 0} (p : X → Bool) (found : Option X) (x : X) → guard p found ≡ Some x → found ≡ Some x
passing p None x e = absurd (false≢true (ap is_some e))
passing {X} p (Some y) x e = by (p y) e
  where
    by : (b : Bool) → (if b then Some y else None) ≡ Some x → Some y ≡ Some x
    by true e = e
    by false e = absurd (false≢true (ap is_some e))

-- the first that passes, by the list of those that pass
abbrev pub head : {X : Type 0} → List X → Option X
head [] = None
head (x ∷ xs) = Some x

find-head : {X : Type 0} (p : X → Bool) (xs : List X) → L.find p xs ≡ head (filter p xs)
find-head p [] = refl
find-head {X} p (x ∷ xs) = by (find-head p xs) (p x) refl
  where
    by : L.find p xs ≡ head (filter p xs) → (b : Bool) → p x ≡ b → L.find p (x ∷ xs) ≡ head (filter p (x ∷ xs))
    by more true e = rw e refl
    by more false e = rw e more

-- a row of which the test holds stands at its key
at_key : (p : Row → Bool) (rows : List Row) (row : Row) (rest : List Row) → IsInPlaceOrder rows → filter p rows ≡ row ∷ rest → row_in rows row.key ≡ Some row
at_key p rows row rest up e =
    row_in-places rows row.key
    ∙ passing p (find place_cmp row_key rows row.key) row
    (sym (find_filter place_cmp row_key order_of_places p rows row.key up)
    ∙ (ap (λ (some : List Row). find place_cmp row_key some row.key) e ∙ found_first place_cmp row_key order_of_places row rest))

-- where a key is the first, its row is the first of which the test holds
pub first_at : (p : Row → Bool) (rows : List Row) (key : Key) → IsInPlaceOrder rows → slice_get (map row_key (filter p rows)) 0 ≡ Some key → row_in rows key ≡ L.find p rows
first_at p rows key up e = by (filter p rows) refl e
  where
    by : (some : List Row) → filter p rows ≡ some → slice_get (map row_key some) 0 ≡ Some key → row_in rows key ≡ L.find p rows
    by [] f g = absurd (false≢true (ap is_some g))
    by (row ∷ rest) f g =
        let same : row.key ≡ key = ap (λ found. unwrap_or found row.key) g in
        ap (row_in rows) (sym same) ∙ (at_key p rows row rest up f ∙ sym (find-head p rows ∙ ap head f))

-- where there is none, the test holds of none
pub none_at : (p : Row → Bool) (rows : List Row) → slice_get (map row_key (filter p rows)) 0 ≡ None → None ≡ L.find p rows
none_at p rows e = by (filter p rows) refl e
  where
    by : (some : List Row) → filter p rows ≡ some → slice_get (map row_key some) 0 ≡ None → None ≡ L.find p rows
    by [] f g = sym (find-head p rows ∙ ap head f)
    by (row ∷ rest) f g = absurd (false≢true (sym (ap is_some g)))

-- the ids of keys of rows
pub map_ids : (rows : List Row) → map (λ (key : Key). key.id) (map row_key rows) ≡ map (λ (row : Row). row.key.id) rows
map_ids [] = refl
map_ids (row ∷ rows) = ap (λ ids. row.key.id ∷ ids) (map_ids rows)
