-- The ids of the products that pass a test.
use Rattle.std.proofs.Common.{◌≡◌, ℕ, Bool, true, false, ◌==◌, ◌&&◌, ◌⊎◌, inl, inr, List, [], ◌∷◌, map, filter, Option, Some, None, refl, sym, ap, subst, ◌∙◌, true≢false}
use Rattle.std.specs.declared.cmp.Ordering.{Ordering}
use Rattle.std.specs.declared.cmp.Ordering.TheVariants.{Less, Equal, Greater}
use Rattle.std.specs.List.{AllByRecursion, list_any}
use Rattle.std.specs.Option.{option_map_or}
use Rattle.std.specs.Ordering.{nat_cmp, ordering_then}
use Rattle.std.proofs.lemmas.Bool.{eqb-true, eq-eqb, and_from, and_parts}
use Rattle.closure.specs.Closure.{IsIn}
use Rattle.closure.proofs.Members.{any_is, any_of, all_at, in_filter, of_filter, in_map, of_map}
use Rattle.keyed.specs.Keyed.{Ascends}
use Rattle.shop_defs.specs.declared.entity.Entity.{Entity}
use Rattle.shop_defs.specs.declared.entity.Entity.TheVariants as E
use Rattle.shop_defs.specs.declared.key.Key.{Key}
use Rattle.shop_defs.specs.declared.row.Row.{Row}
use Rattle.shop_defs.specs.Entities.{entity_number}
use Rattle.shop_defs.specs.Fitting.{row_key_fits}
use Rattle.shop_defs.specs.Keys.{key_cmp}
use Rattle.shop_defs.specs.Rows.{row_at, row_key, IsInKeyOrder}
use Rattle.shop_defs.specs.Tables.{info_of}
use Rattle.shop_operations.specs.References.{is_entity, is_live, is_one, live}
use Rattle.shop_soundness.proofs.Lists.{of_each}
use Rattle.shop_soundness.proofs.Ones.{one_key}
use Rattle.shop_soundness.proofs.Tables.{has_one_part}
use Rattle.shop_meanings.specs.Live.{live_key, live_row, live_rows, AreOrderly}
use Rattle.shop_meanings.proofs.Found.{stands_under, found_there}
use Rattle.product_meanings.specs.Products.{product, is_among, picked}
use Rattle.product_meanings.specs.Laws.{ArePicked, PickedOfAll}

-- the keys of live rows of an entity whose keys have one part are those that they are looked up by
module _ (rows : List Row) (orderly : AreOrderly rows) (entity : Entity) (one : has_one_part entity ≡ true) where
  pub own_key : (row : Row) → IsIn row (live_rows rows entity) → row.key ≡ live_key entity row.key.id
  own_key row i =
      let among = of_filter (λ r. is_live r && is_entity entity r.key.entity) rows row i in
      let both = and_parts (is_live row) (is_entity entity row.key.entity) among.passes in
      let stands : IsIn row (live rows) = in_filter is_live rows row among.is_in both.0 in
      let fits : row_key_fits row.key ≡ true = all_at (λ r. row_key_fits r.key) (live rows) row orderly.coherent.formed stands in
      let is : is_one entity row.key.id row ≡ true = and_from _ _ both.1 (eq-eqb row.key.id row.key.id refl) in
      let key = one_key entity row.key.id row one fits is in
      let version : row.key.version ≡ 0 = eqb-true _ _ both.0 in
      let of : row.key.entity ≡ entity = sym key.entity in
      let second : row.key.second ≡ 0 = key.second in
      λ j. record { entity = of j; version = version j; id = row.key.id; second = second j }

  -- such a row is the live one with its id
  pub found_live : (row : Row) → IsIn row (live_rows rows entity) → live_row rows entity row.key.id ≡ Some row
  found_live row i =
      let among = of_filter (λ r. is_live r && is_entity entity r.key.entity) rows row i in
      ap (row_at rows) (sym (own_key row i)) ∙ found_there rows row orderly.order among.is_in

-- what is found at such a key is one of them
pub live_is_in : (rows : List Row) (entity : Entity) (id : ℕ) (row : Row) → live_row rows entity id ≡ Some row → IsIn row (live_rows rows entity)
live_is_in rows entity id row e =
    let stands = stands_under rows (live_key entity id) row e in
    let version : is_live row ≡ true = ap (λ (k : Key). k.version == 0) stands.same in
    let of : is_entity entity row.key.entity ≡ true = ap (λ (k : Key). is_entity entity k.entity) stands.same ∙ eq-eqb (entity_number entity) (entity_number entity) refl in
    in_filter (λ r. is_live r && is_entity entity r.key.entity) rows row stands.is_in (and_from _ _ version of)

pub live_id : (rows : List Row) (entity : Entity) (id : ℕ) (row : Row) → live_row rows entity id ≡ Some row → row.key.id ≡ id
live_id rows entity id row e = ap (λ (k : Key). k.id) (stands_under rows (live_key entity id) row e).same

-- the keys of products have one part
pub product_one : has_one_part E.Product ≡ true
unfolding info_of
product_one = refl

-- ---- the order

by_id : (a b : ℕ) → key_cmp (live_key E.Product a) (live_key E.Product b) ≡ Less → nat_cmp a b ≡ Less
by_id a b e = by (nat_cmp a b) refl e
  where
    by : (o : Ordering) → nat_cmp a b ≡ o → ordering_then (nat_cmp a b) Equal ≡ Less → nat_cmp a b ≡ Less
    by Less f g = f
    by Equal f g = let h : Equal ≡ Less = rw f at g in absurd (cc)
    by Greater f g = let h : Greater ≡ Less = rw f at g in absurd (cc)

above_by_id : (row : Row) (rest : List Row) → row.key ≡ live_key E.Product row.key.id → ((r : Row) → IsIn r rest → r.key ≡ live_key E.Product r.key.id) → AllByRecursion (λ r. key_cmp (row_key row) (row_key r) ≡ Less) rest → AllByRecursion (λ id. nat_cmp row.key.id id ≡ Less) (map (λ (r : Row). r.key.id) rest)
above_by_id row [] own owns all = tt
above_by_id row (x ∷ rest) own owns all =
    let less : key_cmp (live_key E.Product row.key.id) (live_key E.Product x.key.id) ≡ Less = subst (λ (k : Key). key_cmp k (live_key E.Product x.key.id) ≡ Less) own (subst (λ (k : Key). key_cmp row.key k ≡ Less) (owns x (inl refl)) all.0) in
    (by_id row.key.id x.key.id less, above_by_id row rest own (λ r i. owns r (inr i)) all.1)

ids_ascend : (rows : List Row) → ((r : Row) → IsIn r rows → r.key ≡ live_key E.Product r.key.id) → IsInKeyOrder rows → Ascends nat_cmp (λ id. id) (map (λ (r : Row). r.key.id) rows)
ids_ascend [] owns up = tt
ids_ascend (row ∷ rest) owns up = (above_by_id row rest (owns row (inl refl)) (λ r i. owns r (inr i)) up.0, ids_ascend rest (λ r i. owns r (inr i)) up.1)

part_all : (P : Row → Type 0) (test : Row → Bool) (rows : List Row) → AllByRecursion P rows → AllByRecursion P (filter test rows)
part_all P test [] all = tt
part_all P test (row ∷ rows) all = by (part_all P test rows all.1) (test row) refl
  where
    by : AllByRecursion P (filter test rows) → (b : Bool) → test row ≡ b → AllByRecursion P (filter test (row ∷ rows))
    by more true e = rw e (all.0, more)
    by more false e = rw e more

pub part_in_order : (test : Row → Bool) (rows : List Row) → IsInKeyOrder rows → IsInKeyOrder (filter test rows)
part_in_order test [] up = tt
part_in_order test (row ∷ rows) up = by (part_in_order test rows up.1) (test row) refl
  where
    by : IsInKeyOrder (filter test rows) → (b : Bool) → test row ≡ b → IsInKeyOrder (filter test (row ∷ rows))
    by more true e = rw e (part_all (λ r. key_cmp (row_key row) (row_key r) ≡ Less) test rows up.0, more)
    by more false e = rw e more

-- ---- what is among them

module _ (rows : List Row) (orderly : AreOrderly rows) (test : Row → Bool) where
  own : (row : Row) → IsIn row (filter test (live_rows rows E.Product)) → row.key ≡ live_key E.Product row.key.id
  own row i = own_key rows orderly E.Product product_one row (of_filter test (live_rows rows E.Product) row i).is_in

  pub picked_ascend : Ascends nat_cmp (λ id. id) (picked test rows)
  picked_ascend = ids_ascend (filter test (live_rows rows E.Product)) own (part_in_order test (live_rows rows E.Product) (part_in_order (λ r. is_live r && is_entity E.Product r.key.entity) rows orderly.order))

  there : (id : ℕ) (row : Row) → product rows id ≡ Some row → test row ≡ true → is_among (picked test rows) id ≡ true
  there id row e p =
      any_is (λ other. other == id) (picked test rows) row.key.id
      (in_map (λ (r : Row). r.key.id) (filter test (live_rows rows E.Product)) row (in_filter test (live_rows rows E.Product) row (live_is_in rows E.Product id row e) p))
      (ap (λ (n : ℕ). n == id) (live_id rows E.Product id row e) ∙ eq-eqb id id refl)

  -- an id that is among them is one of a live product that passes
  record PassesHere (id : ℕ) : Type 0 where
    row : Row
    found : product rows id ≡ Some row
    passes : test row ≡ true

  back : (id : ℕ) → is_among (picked test rows) id ≡ true → PassesHere id
  back id e =
      let one = any_of (λ other. other == id) (picked test rows) e in
      let image = of_map (λ (r : Row). r.key.id) (filter test (live_rows rows E.Product)) one.one one.is_in in
      let part = of_filter test (live_rows rows E.Product) image.one image.is_in in
      let same : image.one.key.id ≡ id = image.image ∙ eqb-true _ _ one.passes in
      record { row = image.one; found = subst (λ (n : ℕ). product rows n ≡ Some image.one) same (found_live rows orderly E.Product product_one image.one part.is_in); passes = part.passes }

  pub picked_has : (id : ℕ) → is_among (picked test rows) id ≡ option_map_or test (product rows id) false
  picked_has id = by (is_among (picked test rows) id) refl
    where
      none : (o : Option Row) → product rows id ≡ o → is_among (picked test rows) id ≡ false → option_map_or test o false ≡ false
      none None f e = refl
      none (Some row) f e = at (test row) refl
        where
          at : (b : Bool) → test row ≡ b → test row ≡ false
          at true p = absurd (true≢false (sym (there id row f p) ∙ e))
          at false p = p

      by : (b : Bool) → is_among (picked test rows) id ≡ b → is_among (picked test rows) id ≡ option_map_or test (product rows id) false
      by true e = let p = back id e in e ∙ sym (ap (λ (o : Option Row). option_map_or test o false) p.found ∙ p.passes)
      by false e = e ∙ sym (none (product rows id) refl e)

pub picked_of_all : PickedOfAll
picked_of_all rows orderly test = record { ascend = picked_ascend rows orderly test; has = picked_has rows orderly test }
