-- Sums over rows that change.
use Rattle.std.proofs.Common.{◌≡◌, ℕ, ◌+◌, List, [], ◌∷◌, Option, Some, None, Bool, true, false, if◌then◌else◌, refl, sym, ap, ◌∙◌, arith}
use Rattle.std.specs.declared.cmp.Ordering.{Ordering}
use Rattle.std.specs.declared.cmp.Ordering.TheVariants.{Less, Equal, Greater}
use Rattle.std.specs.List.{AllByRecursion}
use Rattle.std.specs.Ordering.{match_ordering, is_eq}
use Rattle.keyed.specs.Keyed.{put, without}
use Rattle.shop_defs.specs.declared.key.Key.{Key}
use Rattle.shop_defs.specs.declared.row.Row.{Row}
use Rattle.shop_defs.specs.Joined.{Change}
use Rattle.shop_defs.specs.Keys.{key_cmp}
use Rattle.shop_defs.specs.Rows.{row_key, change_row, change_rows}
use Rattle.shop_rows.specs.Changing.{StandsUnderItsKey, StandUnderTheirKeys}
use Rattle.shop_rows.proofs.Same.{key_is, is_equal}
use Rattle.shop_order.specs.Held.{total}

pub total_same : (f g : Row → ℕ) (rows : List Row) → ((row : Row) → f row ≡ g row) → total f rows ≡ total g rows
total_same f g [] same = refl
total_same f g (row ∷ rows) same = let here = same row in let more = total_same f g rows same in omega (arith, here, more)

total_put : (f : Row → ℕ) (rows : List Row) (y : Row) → f y ≡ 0 → ((x : Row) → key_cmp x.key y.key ≡ Equal → f x ≡ 0) → total f (put key_cmp row_key rows y) ≡ total f rows
total_put f [] y none there = omega (arith, none)
total_put f (x ∷ rows) y none there = by (total_put f rows y none there) (key_cmp x.key y.key) refl
  where
    by : total f (put key_cmp row_key rows y) ≡ total f rows → (o : Ordering) → key_cmp x.key y.key ≡ o → total f (match_ordering o (x ∷ put key_cmp row_key rows y) (y ∷ rows) (y ∷ x ∷ rows)) ≡ total f (x ∷ rows)
    by more Less e = omega (arith, more)
    by more Equal e = let zero_there : f x ≡ 0 = there x e in omega (arith, none, zero_there)
    by more Greater e = omega (arith, none)

total_without : (f : Row → ℕ) (rows : List Row) (key : Key) → ((x : Row) → key_cmp x.key key ≡ Equal → f x ≡ 0) → total f (without key_cmp row_key rows key) ≡ total f rows
total_without f [] key there = refl
total_without f (x ∷ rows) key there = by (total_without f rows key there) (is_eq (key_cmp x.key key)) refl
  where
    by : total f (without key_cmp row_key rows key) ≡ total f rows → (b : Bool) → is_eq (key_cmp x.key key) ≡ b → total f (if b then rows else x ∷ without key_cmp row_key rows key) ≡ total f (x ∷ rows)
    by more true e = let zero_there : f x ≡ 0 = there x (is_equal (key_cmp x.key key) e) in omega (arith, zero_there)
    by more false e = omega (arith, more)

-- rows of the change's entity give nothing
abbrev pub IsIdle : (Row → ℕ) → Change → Type 0
IsIdle f change = (x : Row) → x.key.entity ≡ change.0.entity → f x ≡ 0

total_change : (f : Row → ℕ) (rows : List Row) (change : Change) → StandsUnderItsKey change → IsIdle f change → total f (change_row rows change.0 change.1) ≡ total f rows
total_change f rows (key, None) stand idle = total_without f rows key (λ x e. idle x (ap (λ (k : Key). k.entity) (key_is x.key key e)))
total_change f rows (key, Some row) stand idle =
    total_put f rows row (idle row (ap (λ (k : Key). k.entity) stand)) (λ x e. idle x (ap (λ (k : Key). k.entity) (key_is x.key row.key e ∙ stand)))

pub total_changes : (f : Row → ℕ) (changes : List Change) (rows : List Row) → StandUnderTheirKeys changes → AllByRecursion (IsIdle f) changes → total f (change_rows rows changes) ≡ total f rows
total_changes f [] rows stand idle = refl
total_changes f (change ∷ changes) rows stand idle =
    total_changes f changes (change_row rows change.0 change.1) stand.1 idle.1 ∙ total_change f rows change stand.0 idle.0
