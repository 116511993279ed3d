-- Rows that are found by their keys.
use Rattle.std.proofs.Common.{◌≡◌, ◌⊎◌, inl, inr, refl, sym, ap, ◌∙◌, List, [], ◌∷◌, Some}
use Rattle.std.specs.declared.cmp.Ordering.{Ordering}
use Rattle.std.specs.declared.cmp.Ordering.TheVariants.{Less, Equal, Greater}
use Rattle.std.specs.Ordering.{nat_cmp, ordering_then}
use Rattle.std.proofs.lemmas.Cmp.{tied_itself}
use Rattle.closure.specs.Closure.{IsIn}
use Rattle.shop_defs.specs.declared.key.Key.{Key}
use Rattle.shop_defs.specs.declared.row.Row.{Row}
use Rattle.shop_defs.specs.Entities.{entity_number}
use Rattle.shop_defs.specs.Keys.{key_cmp}
use Rattle.shop_defs.specs.Rows.{row_key, row_at, IsInKeyOrder}
use Rattle.shop_defs.proofs.EachLine.{same_entity}
use Rattle.shop_defs.proofs.Keys.{key_cmp_total}
use Rattle.shop_soundness.proofs.Lists.{no_some, of_each}
use Rattle.shop_soundness.proofs.Places.{same_number}

record BothEqual (a b : Ordering) : Type 0 where
  first : a ≡ Equal
  second : b ≡ Equal

both_equal : (a b : Ordering) → ordering_then a b ≡ Equal → BothEqual a b
both_equal Less b e = absurd (cc)
both_equal Equal b e = record { first = refl; second = e }
both_equal Greater b e = absurd (cc)

-- keys that compare as equal are the same
key_is : (a b : Key) → key_cmp a b ≡ Equal → a ≡ b
key_is a b e =
    let one = both_equal (nat_cmp (entity_number a.entity) (entity_number b.entity)) (ordering_then (nat_cmp a.version b.version) (ordering_then (nat_cmp a.id b.id) (nat_cmp a.second b.second))) e in
    let two = both_equal (nat_cmp a.version b.version) (ordering_then (nat_cmp a.id b.id) (nat_cmp a.second b.second)) one.second in
    let three = both_equal (nat_cmp a.id b.id) (nat_cmp a.second b.second) two.second in
    let entity : a.entity ≡ b.entity = same_entity a.entity b.entity (same_number _ _ one.first) in
    let version : a.version ≡ b.version = same_number _ _ two.first in
    let id : a.id ≡ b.id = same_number _ _ three.first in
    let second : a.second ≡ b.second = same_number _ _ three.second in
    λ i. record { entity = entity i; version = version i; id = id i; second = second i }

-- the row stands among the others, under that key
pub record StandsUnder (rows : List Row) (key : Key) (row : Row) : Type 0 where
  pub is_in : IsIn row rows
  pub same : row.key ≡ key

-- and so does the row that is found at a key
pub stands_under : (rows : List Row) (key : Key) (row : Row) → row_at rows key ≡ Some row → StandsUnder rows key row
stands_under [] key row e = absurd (no_some row e)
stands_under (x ∷ rows) key row e = by (stands_under rows key row) (key_cmp x.key key) refl
  where
    some_is : (x : Row) → Some x ≡ Some row → x ≡ row
    some_is x e = cc

    onward : StandsUnder rows key row → StandsUnder (x ∷ rows) key row
    onward s = record { is_in = inr s.is_in; same = s.same }

    by : (row_at rows key ≡ Some row → StandsUnder rows key row) → (o : Ordering) → key_cmp x.key key ≡ o → StandsUnder (x ∷ rows) key row
    by more Less f = onward (more (sym (rw f refl) ∙ e))
    by more Equal f = let same : x ≡ row = some_is x (sym (rw f refl) ∙ e) in record { is_in = inl same; same = ap row_key (sym same) ∙ key_is x.key key f }
    by more Greater f = onward (more (sym (rw f refl) ∙ e))

-- a row is found at its key
pub found_there : (rows : List Row) (row : Row) → IsInKeyOrder rows → IsIn row rows → row_at rows row.key ≡ Some row
found_there [] row order i = absurd i
found_there (x ∷ rows) row order i = by (found_there rows row order.1) i
  where
    by : (IsIn row rows → row_at rows row.key ≡ Some row) → (x ≡ row) ⊎ IsIn row rows → row_at (x ∷ rows) row.key ≡ Some row
    by more (inl s) = let e : key_cmp x.key row.key ≡ Equal = ap (λ (r : Row). key_cmp r.key row.key) s ∙ tied_itself key_cmp_total row.key in rw e (ap Some s)
    by more (inr j) = let e : key_cmp x.key row.key ≡ Less = of_each (λ (y : Row). key_cmp x.key y.key ≡ Less) rows row order.0 j in rw e (more j)
