-- Parts of rows that are the same before and after.
use Rattle.std.proofs.Common.{◌≡◌, Bool, true, false, ◌&&◌, ◌⊎◌, inl, inr, List, [], ◌∷◌, filter, Option, Some, None, if◌then◌else◌, refl, sym, ap, ◌∙◌, true≢false}
use Rattle.std.specs.declared.cmp.Ordering.{Ordering}
use Rattle.std.specs.declared.cmp.Ordering.TheVariants.{Less, Equal, Greater}
use Rattle.shop_defs.specs.declared.key.Key.{Key}
use Rattle.shop_defs.specs.declared.row.Row.{Row}
use Rattle.shop_defs.specs.Keys.{key_cmp}
use Rattle.shop_defs.specs.Rows.{row_at, row_key, IsInKeyOrder}
use Rattle.shop_defs.proofs.Keys.{key_cmp_total}
use Rattle.shop_rows.proofs.SameRows.{same_from_find}
use Rattle.product_meanings.proofs.Picked.{part_in_order}
use Rattle.idx_category.proofs.Counts.{none_above}

-- ---- rows that pass a test

-- what passes
abbrev pub guard : (Row → Bool) → Option Row → Option Row
guard p None = None
guard p (Some x) = if p x then Some x else None

absent : (row : Row) (rows : List Row) (key : Key) → IsInKeyOrder (row ∷ rows) → key_cmp row.key key ≡ Equal → row_at rows key ≡ None
absent row rows key up e = none_above row.key key rows up.0 e

-- what is found in a part is what is found in the whole, where it passes
pub find_filter : (p : Row → Bool) (rows : List Row) (key : Key) → IsInKeyOrder rows → row_at (filter p rows) key ≡ guard p (row_at rows key)
find_filter p [] key up = refl
find_filter p (x ∷ xs) key up = by (find_filter p xs key up.1) (p x) refl (key_cmp x.key key) refl
  where
    ends : (b : Bool) → p x ≡ b → guard p (Some x) ≡ (if b then Some x else None)
    ends b e = rw e refl

    by : row_at (filter p xs) key ≡ guard p (row_at xs key) → (b : Bool) → p x ≡ b → (o : Ordering) → key_cmp x.key key ≡ o → row_at (filter p (x ∷ xs)) key ≡ guard p (row_at (x ∷ xs) key)
    by more true e Less f = rw (e, f) more
    by more true e Equal f = rw (e, f) (sym (ends true e))
    by more true e Greater f = rw (e, f) more
    by more false e Less f = rw (e, f) more
    by more false e Equal f = rw (e, f) (more ∙ (ap (guard p) (absent x xs key up f) ∙ sym (ends false e)))
    by more false e Greater f = rw (e, f) more

-- the row at the key is none that passes
abbrev pub NonePasses : (Row → Bool) → List Row → Key → Type 0
NonePasses test rows key = guard test (row_at rows key) ≡ None

-- the rows that pass are the same where at each key stands the same row or none that passes
pub same_filter : (test : Row → Bool) (before after : List Row) → IsInKeyOrder before → IsInKeyOrder after → ((key : Key) → (row_at before key ≡ row_at after key) ⊎ (NonePasses test before key × NonePasses test after key)) → filter test before ≡ filter test after
same_filter test before after order later same =
    same_from_find key_cmp row_key key_cmp_total (filter test before) (filter test after)
    (part_in_order test before order)
    (part_in_order test after later)
    (λ key. find_filter test before key order ∙ (by key (same key) ∙ sym (find_filter test after key later)))
  where
    by : (key : Key) → (row_at before key ≡ row_at after key) ⊎ (NonePasses test before key × NonePasses test after key) → guard test (row_at before key) ≡ guard test (row_at after key)
    by key (inl e) = ap (guard test) e
    by key (inr both) = both.0 ∙ sym both.1

-- no row of a key passes that could pass only if what is false held
pub none_passes : (test : Row → Bool) (rows : List Row) (key : Key) → ((row : Row) → row_at rows key ≡ Some row → test row ≡ false) → NonePasses test rows key
none_passes test rows key fails = by (row_at rows key) refl
  where
    by : (o : Option Row) → row_at rows key ≡ o → guard test o ≡ None
    by None e = refl
    by (Some row) e = rw (fails row e) refl

pub first_false : (a b : Bool) → a ≡ false → (a && b) ≡ false
first_false true b e = absurd (true≢false e)
first_false false b e = refl

pub second_false : (a b : Bool) → b ≡ false → (a && b) ≡ false
second_false true b e = e
second_false false b e = refl
