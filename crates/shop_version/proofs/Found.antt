-- What is found at a key, and rows in order with the same members.
use Rattle.std.proofs.Common.{◌≡◌, inl, inr, List, [], ◌∷◌, refl, sym, subst, ◌∙◌, Option, Some, None}
use Rattle.std.specs.declared.cmp.Ordering.{Ordering}
use Rattle.std.specs.declared.cmp.Ordering.TheVariants.{Less, Equal, Greater}
use Rattle.closure.specs.Closure.{IsIn}
use Rattle.shop_defs.specs.declared.key.Key.{Key}
use Rattle.shop_defs.specs.declared.row.Row.{Row}
use Rattle.shop_defs.specs.Keys.{key_cmp}
use Rattle.shop_defs.specs.Rows.{row_key, row_at, IsInKeyOrder}
use Rattle.shop_defs.proofs.Keys.{key_cmp_total}
use Rattle.shop_drafts.proofs.Keys.{found_key}
use Rattle.shop_soundness.proofs.Lists.{of_each, no_some}
use Rattle.shop_write.proofs.InOrder.{all_found, same_from_find}

pub in_found : (rows : List Row) (key : Key) (row : Row) → row_at rows key ≡ Some row → IsIn row rows
in_found [] key row e = absurd (no_some row e)
in_found (x ∷ rows) key row e = by (in_found rows key row) (key_cmp x.key key) refl
  where
    some_is : Some x ≡ Some row → x ≡ row
    some_is e = cc

    by : (row_at rows key ≡ Some row → IsIn row rows) → (o : Ordering) → key_cmp x.key key ≡ o → IsIn row (x ∷ rows)
    by more Less f = inr (more (sym (rw f refl) ∙ e))
    by more Equal f = inl (some_is (sym (rw f refl) ∙ e))
    by more Greater f = inr (more (sym (rw f refl) ∙ e))

pub found_in : (rows : List Row) (row : Row) → IsInKeyOrder rows → IsIn row rows → row_at rows row.key ≡ Some row
found_in rows row up i = of_each (λ row. row_at rows row.key ≡ Some row) rows row (all_found key_cmp row_key key_cmp_total rows up) i

-- rows in order that have the same members are the same
pub same_members : (rows others : List Row) → IsInKeyOrder rows → IsInKeyOrder others → ((row : Row) → IsIn row rows → IsIn row others) → ((row : Row) → IsIn row others → IsIn row rows) → rows ≡ others
same_members rows others up on there back = same_from_find key_cmp row_key key_cmp_total rows others up on (λ key. by key (row_at rows key) refl)
  where
    none : (key : Key) → row_at rows key ≡ None → (found : Option Row) → row_at others key ≡ found → None ≡ found
    none key e None f = refl
    none key e (Some row) f =
        let is : row.key ≡ key = found_key others key row f in
        let found : row_at rows key ≡ Some row = subst (λ k. row_at rows k ≡ Some row) is (found_in rows row up (back row (in_found others key row f))) in
        absurd (no_some row (sym e ∙ found))

    by : (key : Key) → (found : Option Row) → row_at rows key ≡ found → row_at rows key ≡ row_at others key
    by key None e = e ∙ (none key e (row_at others key) refl)
    by key (Some row) e =
        let is : row.key ≡ key = found_key rows key row e in
        e ∙ sym (subst (λ k. row_at others k ≡ Some row) is (found_in others row on (there row (in_found rows key row e))))
