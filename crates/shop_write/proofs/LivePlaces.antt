-- Live rows: the order of their places is that of their keys, and a look-up by place is one by key.
use Rattle.std.proofs.Common.{◌≡◌, ◌<◌, ℕ, arith, Bool, true, false, List, [], ◌∷◌, refl, sym, ap, ◌∙◌, Option, Some, None}
use Rattle.std.specs.Prelude.{◌==◌, ◌&&◌}
use Rattle.std.specs.List.{AllByRecursion}
use Rattle.std.specs.declared.cmp.Ordering.{Ordering}
use Rattle.std.specs.declared.cmp.Ordering.TheVariants.{Less, Equal, Greater}
use Rattle.std.specs.Ordering.{nat_cmp, ordering_then, is_eq, MatchOrdering}
use Rattle.std.proofs.lemmas.Cmp.{ranked}
use Rattle.std.proofs.lemmas.Bool.{eqb-true, eq-eqb, ne_eqb}
use Rattle.shop_defs.specs.declared.key.Key.{Key}
use Rattle.shop_defs.specs.declared.row.Row.{Row}
use Rattle.shop_defs.specs.Entities.{entity_number}
use Rattle.shop_defs.specs.Keys.{key_cmp}
use Rattle.shop_defs.specs.Rows.{row_key, row_at, IsInKeyOrder}
use Rattle.shop_defs.proofs.Keys.{key_cmp_total}
use Rattle.shop_operations.specs.Deletes.{stands_at}
use Rattle.shop_operations.specs.References.{is_live, live}
use Rattle.shop_operations.specs.Upserts.{place_cmp, row_in}
use Rattle.shop_operations.specs.Views.{IsInPlaceOrder}
use Rattle.shop_write.specs.Growth.{at_live}
use Rattle.shop_write.proofs.InOrder.{guard, all_pass, weaken, found_key, find_filter, ascends_filter}

-- each of the rows is live
abbrev pub AllLive : List Row → Type 0
AllLive rows = AllByRecursion (λ row. row.key.version ≡ 0) rows

pub all_live : (rows : List Row) → AllLive (live rows)
all_live rows = weaken (λ row. is_live row ≡ true) (λ row. row.key.version ≡ 0) (live rows) (λ row h. eqb-true row.key.version 0 h) (all_pass is_live rows)

same_number : (a b : ℕ) → nat_cmp a b ≡ Equal → a ≡ b
same_number a b e = ranked a b Equal (sym e)

then_equal : (o p : Ordering) → ordering_then o p ≡ Equal → (o ≡ Equal) × (p ≡ Equal)
then_equal Less p e = cc
then_equal Equal p e = (refl, e)
then_equal Greater p e = cc

-- equal keys are of one version
pub same_version : (a b : Key) → key_cmp a b ≡ Equal → a.version ≡ b.version
same_version a b e =
    let f = then_equal (nat_cmp (entity_number a.entity) (entity_number b.entity)) _ e in
    let h = then_equal (nat_cmp a.version b.version) _ f.1 in
    same_number a.version b.version h.0

-- keys of the live version are ordered as their places
pub as_places : (a b : Key) → a.version ≡ 0 → b.version ≡ 0 → key_cmp a b ≡ place_cmp a b
as_places a b v w = rw (v, w) refl

number_eq : (a b : ℕ) → is_eq (nat_cmp a b) ≡ (b == a)
number_eq a b = by (nat_cmp a b) refl (ranked a b (nat_cmp a b) refl)
  where
    by : (o : Ordering) → nat_cmp a b ≡ o → MatchOrdering o (a < b) (a ≡ b) (b < a) → is_eq (nat_cmp a b) ≡ (b == a)
    by Less e h = rw e (sym (ne_eqb b a (λ s. omega arith)))
    by Equal e h = rw e (sym (eq-eqb b a (sym h)))
    by Greater e h = rw e (sym (ne_eqb b a (λ s. omega arith)))

then_eq : (o p : Ordering) → is_eq (ordering_then o p) ≡ (is_eq o && is_eq p)
then_eq Less p = refl
then_eq Equal p = refl
then_eq Greater p = refl

and_assoc : (a b c : Bool) → (a && (b && c)) ≡ ((a && b) && c)
and_assoc true b c = refl
and_assoc false b c = refl

-- the two ways to say that a row stands at a key's place
pub stands_is : (key : Key) (row : Row) → stands_at key row ≡ is_eq (place_cmp row.key key)
stands_is key row = sym (
    then_eq (nat_cmp (entity_number row.key.entity) (entity_number key.entity)) _
    ∙ (rw (then_eq (nat_cmp row.key.id key.id) (nat_cmp row.key.second key.second), number_eq (entity_number row.key.entity) (entity_number key.entity), number_eq row.key.id key.id, number_eq row.key.second key.second)
    (and_assoc (entity_number key.entity == entity_number row.key.entity) (key.id == row.key.id) (key.second == row.key.second))))

-- among live rows, the row at a place is the one with the live key there
row_in-all : (rows : List Row) (key : Key) → AllLive rows → row_in rows key ≡ row_at rows (at_live key)
row_in-all [] key all = refl
row_in-all (row ∷ rows) key all =
    rw (stands_is key row ∙ ap is_eq (sym (as_places row.key (at_live key) all.0 refl)), row_in-all rows key all.1) refl

-- what is found at a live key is live
pub guard_live : (rows : List Row) (key : Key) → key.version ≡ 0 → guard is_live (row_at rows key) ≡ row_at rows key
guard_live rows key v = by (row_at rows key) refl
  where
    by : (found : Option Row) → row_at rows key ≡ found → guard is_live found ≡ found
    by None e = refl
    by (Some row) e =
        let passes : is_live row ≡ true = eq-eqb row.key.version 0 (same_version row.key key (found_key key_cmp row_key key_cmp_total rows key row e) ∙ v) in
        rw passes refl

-- the live row at a place is the row with the live key there
pub row_in-live : (rows : List Row) (key : Key) → IsInKeyOrder rows → row_in (live rows) key ≡ row_at rows (at_live key)
row_in-live rows key up =
    row_in-all (live rows) key (all_live rows)
    ∙ (find_filter key_cmp row_key key_cmp_total is_live rows (at_live key) up ∙ guard_live rows (at_live key) refl)

below_places : (key : Key) (rows : List Row) → key.version ≡ 0 → AllLive rows → AllByRecursion (λ row. key_cmp key row.key ≡ Less) rows → AllByRecursion (λ row. place_cmp key row.key ≡ Less) rows
below_places key [] v all below = tt
below_places key (row ∷ rows) v all below = (sym (as_places key row.key v all.0) ∙ below.0, below_places key rows v all.1 below.1)

-- live rows in the order of keys are in the order of places
pub in_place_order : (rows : List Row) → AllLive rows → IsInKeyOrder rows → IsInPlaceOrder rows
in_place_order [] all up = tt
in_place_order (row ∷ rows) all up = (below_places row.key rows all.0 all.1 up.0, in_place_order rows all.1 up.1)

pub live_in_order : (rows : List Row) → IsInKeyOrder rows → IsInPlaceOrder (live rows)
live_in_order rows up = in_place_order (live rows) (all_live rows) (ascends_filter key_cmp row_key key_cmp_total is_live rows up)
