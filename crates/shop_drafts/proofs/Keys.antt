-- The row that is found has the key.
use Rattle.std.proofs.Common.{◌≡◌, ℕ, ◌<◌, refl, sym, ap, subst, ◌∙◌, List, [], ◌∷◌, Some}
use Rattle.std.specs.declared.cmp.Ordering.{Ordering}
use Rattle.std.specs.declared.cmp.Ordering.TheVariants.{Less, Equal, Greater}
use Rattle.std.specs.Ordering.{nat_cmp, ordering_then, MatchOrdering}
use Rattle.std.proofs.lemmas.Cmp.{ranked}
use Rattle.shop_defs.specs.declared.key.Key.{Key}
use Rattle.shop_defs.specs.declared.row.Row.{Row}
use Rattle.shop_defs.specs.Entities.{entity_number}
use Rattle.shop_defs.specs.Keys.{key_cmp}
use Rattle.shop_defs.specs.Rows.{row_key, row_at}
use Rattle.shop_defs.proofs.EachLine.{same_entity}

nat_is : (a b : ℕ) → nat_cmp a b ≡ Equal → a ≡ b
nat_is a b e = let P : Ordering → Type 0 = λ o. MatchOrdering o (a < b) (a ≡ b) (b < a) in subst P e (ranked a b (nat_cmp a b) refl)

record BothEqual (a b : Ordering) : Type 0 where
  pub first : a ≡ Equal
  pub second : b ≡ Equal

both_equal : (a b : Ordering) → ordering_then a b ≡ Equal → BothEqual a b
both_equal Less b e = absurd (cc)
both_equal Equal b e = record { first = refl; second = e }
both_equal Greater b e = absurd (cc)

pub key_is : (a b : Key) → key_cmp a b ≡ Equal → a ≡ b
key_is a b e =
    let one = both_equal (nat_cmp (entity_number a.entity) (entity_number b.entity)) (ordering_then (nat_cmp a.version b.version) (ordering_then (nat_cmp a.id b.id) (nat_cmp a.second b.second))) e in
    let two = both_equal (nat_cmp a.version b.version) (ordering_then (nat_cmp a.id b.id) (nat_cmp a.second b.second)) one.second in
    let three = both_equal (nat_cmp a.id b.id) (nat_cmp a.second b.second) two.second in
    let entity : a.entity ≡ b.entity = same_entity a.entity b.entity (nat_is _ _ one.first) in
    let version : a.version ≡ b.version = nat_is _ _ two.first in
    let id : a.id ≡ b.id = nat_is _ _ three.first in
    let second : a.second ≡ b.second = nat_is _ _ three.second in
    λ i. record { entity = entity i; version = version i; id = id i; second = second i }

pub found_key : (rows : List Row) (key : Key) (row : Row) → row_at rows key ≡ Some row → row.key ≡ key
found_key [] key row e = absurd (cc)
found_key (x ∷ rows) key row e = by (found_key rows key row) (key_cmp x.key key) refl
  where
    some_is : (x : Row) → Some x ≡ Some row → x ≡ row
    some_is x e = cc

    by : (row_at rows key ≡ Some row → row.key ≡ key) → (o : Ordering) → key_cmp x.key key ≡ o → row.key ≡ key
    by more Less f = more (sym (rw f refl) ∙ e)
    by more Equal f = let same : x ≡ row = some_is x (sym (rw f refl) ∙ e) in ap row_key (sym same) ∙ key_is x.key key f
    by more Greater f = more (sym (rw f refl) ∙ e)
