-- What the places of the rows that go say of them.
use Rattle.std.proofs.Common.{◌≡◌, ℕ, Bool, true, false, ◌&&◌, ◌||◌, inl, inr, List, [], ◌∷◌, Option, Some, None, if◌then◌else◌, refl, sym, ap, subst, ◌∙◌}
use Rattle.std.specs.Prelude.{◌==◌, not, cond, filter, map}
use Rattle.std.specs.List.{list_any, filter_map, cons_option}
use Rattle.std.proofs.lemmas.Bool.{and_from, and_parts, both_ways, false_from_ne_true}
use Rattle.std.proofs.lemmas.Cmp.{nat_eq_equiv}
use Rattle.closure.specs.Closure.{IsIn}
use Rattle.closure.proofs.Laws.{any_agree, filter_agree_on}
use Rattle.closure.proofs.Members.{Found, any_of, any_is, in_map, of_map, Image, in_filter, of_filter}
use Rattle.shop_defs.specs.declared.key.Key.{Key}
use Rattle.shop_defs.specs.declared.row.Row.{Row}
use Rattle.shop_defs.specs.declared.table.OnDelete.{OnDelete}
use Rattle.shop_defs.specs.declared.table.OnDelete.TheVariants as O
use Rattle.shop_defs.specs.declared.table.Reference.{Reference}
use Rattle.shop_defs.specs.References.{acts_on_delete, may_go}
use Rattle.shop_defs.specs.Entities.{entity_number}
use Rattle.shop_operations.specs.References.{is_entity, is_id, named, ties, restricts, sets_null, holds_back, refers_at}
use Rattle.shop_operations.specs.Deletes.{goes, gone, is_field, is_emptied, emptied, deleted}
use Rattle.shop_operations.specs.Views.{IsInPlaceOrder}
use Rattle.shop_write.specs.declared.place.Place.{Place}
use Rattle.shop_write.specs.Places.{row_place, is_at, stands_among, is_of_id, has_id}
use Rattle.shop_write.specs.Searching.{refers_to}
use Rattle.shop_write.specs.Deleting.{has_named, names_lost, holds_lost, empties, loses, without_lost, rest_of}
use Rattle.shop_write.proofs.Standing.{apart, stands_itself}
use Rattle.shop_write.proofs.Leading.{KeepsKeys}

-- ---- what names a row that goes

any_map : {X Y : Type 0} (p : Y → Bool) (f : X → Y) (xs : List X) → list_any p (map f xs) ≡ list_any (λ x. p (f x)) xs
any_map p f [] = refl
any_map p f (x ∷ xs) = ap (λ b. p (f x) || b) (any_map p f xs)

any_false : {X : Type 0} (xs : List X) → list_any (λ x. false) xs ≡ false
any_false [] = refl
any_false (x ∷ xs) = any_false xs

and_false : (b : Bool) → (b && false) ≡ false
and_false true = refl
and_false false = refl

flipped : (a b : ℕ) → (a == b) ≡ (b == a)
flipped a b = nat_eq_equiv.symm a b

-- by the reference the row names one of the rows
pub names_is : (rows : List Row) (row : Row) (reference : Reference) → names_lost (map row_place rows) row reference ≡ list_any (ties reference row) rows
unfolding has_id
names_is rows row reference = by (named reference row) refl
  where
    pair : (a b c d : Bool) → a ≡ c → b ≡ d → (a && b) ≡ (c && d)
    pair a b c d e f = rw (e, f) refl

    by : (id : Option ℕ) → named reference row ≡ id → has_named (map row_place rows) reference.of id ≡ list_any (λ other. is_entity reference.of other.key.entity && is_id id other.key.id) rows
    by None e = sym (any_agree (λ other. is_entity reference.of other.key.entity && false) (λ other. false) rows (λ other i. and_false (is_entity reference.of other.key.entity)) ∙ any_false rows)
    by (Some id) e =
        any_map (is_of_id reference.of id) row_place rows
        ∙ any_agree (λ other. is_of_id reference.of id (row_place other)) (λ other. is_entity reference.of other.key.entity && (id == other.key.id)) rows (λ other i. pair _ _ _ _ (flipped (entity_number other.key.entity) (entity_number reference.of)) (flipped other.key.id id))

any_or : {X : Type 0} (p q : X → Bool) (xs : List X) → list_any (λ x. p x || q x) xs ≡ (list_any p xs || list_any q xs)
any_or p q [] = refl
any_or p q (x ∷ xs) = rw (any_or p q xs) (four (p x) (q x) (list_any p xs) (list_any q xs))
  where
    four : (a b c d : Bool) → ((a || b) || (c || d)) ≡ ((a || c) || (b || d))
    four true b c d = refl
    four false true true d = refl
    four false true false d = refl
    four false false c d = refl

-- one after the other, or the other way round
any_swap : {X Y : Type 0} (f : X → Bool) (g : X → Y → Bool) (xs : List X) (ys : List Y) → list_any (λ x. f x && list_any (g x) ys) xs ≡ list_any (λ y. list_any (λ x. f x && g x y) xs) ys
any_swap f g xs [] = any_agree (λ x. f x && false) (λ x. false) xs (λ x i. and_false (f x)) ∙ any_false xs
any_swap f g xs (y ∷ ys) =
    any_agree (λ x. f x && (g x y || list_any (g x) ys)) (λ x. (f x && g x y) || (f x && list_any (g x) ys)) xs (λ x i. spread (f x) (g x y) (list_any (g x) ys))
    ∙ (any_or (λ x. f x && g x y) (λ x. f x && list_any (g x) ys) xs
    ∙ ap (λ b. list_any (λ x. f x && g x y) xs || b) (any_swap f g xs ys))
  where
    spread : (a b c : Bool) → (a && (b || c)) ≡ ((a && b) || (a && c))
    spread true b c = refl
    spread false b c = refl

-- the row holds back one of the rows
pub holds_is : (table : List Reference) (rows : List Row) (row : Row) → holds_lost table (map row_place rows) row ≡ list_any (holds_back table row) rows
unfolding holds_lost holds_back
holds_is table rows row =
    any_agree (λ reference. restricts reference.on_delete && names_lost (map row_place rows) row reference) (λ reference. restricts reference.on_delete && list_any (ties reference row) rows) table (λ reference i. ap (λ b. restricts reference.on_delete && b) (names_is rows row reference))
    ∙ any_swap (λ reference. restricts reference.on_delete) (λ reference other. ties reference row other) table rows

-- the field is emptied
pub empties_is : (table : List Reference) (rows : List Row) (row : Row) (number : ℕ) → empties table (map row_place rows) row number ≡ is_emptied table rows row number
unfolding empties is_emptied
empties_is table rows row number =
    any_agree (λ reference. sets_null reference.on_delete && is_field reference.part number && names_lost (map row_place rows) row reference) (λ reference. sets_null reference.on_delete && is_field reference.part number && list_any (ties reference row) rows) table (λ reference i. ap (λ b. sets_null reference.on_delete && is_field reference.part number && b) (names_is rows row reference))

pub loses_is : (table : List Reference) (rows : List Row) (row : Row) → loses table (map row_place rows) row ≡ list_any (λ entry. is_emptied table rows row entry.0) row.fields
loses_is table rows row = any_agree (λ entry. empties table (map row_place rows) row entry.0) (λ entry. is_emptied table rows row entry.0) row.fields (λ entry i. empties_is table rows row entry.0)

pub without_is : (table : List Reference) (rows : List Row) (row : Row) → without_lost table (map row_place rows) row ≡ emptied table rows row
without_is table rows row = ap (λ fields. record row { fields = fields }) (filter_agree_on (λ entry. not (empties table (map row_place rows) row entry.0)) (λ entry. not (is_emptied table rows row entry.0)) row.fields (λ entry i. ap not (empties_is table rows row entry.0)))

-- ---- the rows that go with a delete

module _ (table : List Reference) (rows : List Row) (key : Key) (up : IsInPlaceOrder rows) where
  -- a row stands at a place of those that go where it goes
  pub among_is : (row : Row) → IsIn row rows → stands_among (map row_place (gone table rows key)) row ≡ goes table rows key row
  unfolding stands_among
  among_is row i = by (goes table rows key row) refl
    where
      is_it : (place : Place) → is_at row place ≡ true → Image row_place (gone table rows key) place → goes table rows key row ≡ true
      is_it place h image =
          let there = of_filter (goes table rows key) rows image.one image.is_in in
          subst (λ (r : Row). goes table rows key r ≡ true) (apart rows image.one row up there.is_in i (subst (λ (p : Place). is_at row p ≡ true) (sym image.image) h)) there.passes

      onto : Found (is_at row) (map row_place (gone table rows key)) → goes table rows key row ≡ true
      onto f = is_it f.one f.passes (of_map row_place (gone table rows key) f.one f.is_in)

      by : (b : Bool) → goes table rows key row ≡ b → list_any (is_at row) (map row_place (gone table rows key)) ≡ goes table rows key row
      by true e = any_is (is_at row) (map row_place (gone table rows key)) (row_place row) (in_map row_place (gone table rows key) row (in_filter (goes table rows key) rows row i e)) (stands_itself row) ∙ sym e
      by false e = false_from_ne_true _ (λ h. both_ways (goes table rows key row) e (onto (any_of (is_at row) (map row_place (gone table rows key)) h))) ∙ sym e

  -- what is left of the rows is what a delete leaves
  pub rest_is : filter_map (rest_of table (map row_place (gone table rows key))) rows ≡ deleted table rows key
  rest_is = by rows (λ row i. i)
    where
      one : (row : Row) → (b : Bool) → stands_among (map row_place (gone table rows key)) row ≡ goes table rows key row → goes table rows key row ≡ b → (xs : List Row) → cons_option (rest_of table (map row_place (gone table rows key)) row) (map (emptied table (gone table rows key)) xs) ≡ map (emptied table (gone table rows key)) (cond (not b) (row ∷ xs) xs)
      one row true e f xs = rw (e, f) refl
      one row false e f xs = rw (e, f, without_is table (gone table rows key) row) refl

      by : (xs : List Row) → ((row : Row) → IsIn row xs → IsIn row rows) → filter_map (rest_of table (map row_place (gone table rows key))) xs ≡ map (emptied table (gone table rows key)) (filter (λ row. not (goes table rows key row)) xs)
      by [] h = refl
      by (row ∷ xs) h = rw (by xs (λ r i. h r (inr i))) (one row (goes table rows key row) (among_is row (h row (inl refl))) refl (filter (λ r. not (goes table rows key r)) xs))

-- ---- what is found near the rows that go

restrict_acts : (on_delete : OnDelete) → restricts on_delete ≡ true → may_go on_delete ≡ true
restrict_acts O.Cascade h = refl
restrict_acts O.Restrict h = refl
restrict_acts O.SetNull h = refl
restrict_acts O.NeverDeleted h = cc

null_acts : (on_delete : OnDelete) → sets_null on_delete ≡ true → may_go on_delete ≡ true
null_acts O.Cascade h = refl
null_acts O.Restrict h = refl
null_acts O.SetNull h = refl
null_acts O.NeverDeleted h = cc

-- what names a row by a reference that a delete looks at refers to it
pub ties_refers : (table : List Reference) (row other : Row) (reference : Reference) → IsIn reference table → acts_on_delete reference ≡ true → ties reference row other ≡ true → refers_to table other.key row ≡ true
unfolding refers_at
ties_refers table row other reference i acts t = any_is (λ r. acts_on_delete r && ((entity_number r.of == entity_number other.key.entity) && is_id (named r row) other.key.id)) table reference i (and_from (acts_on_delete reference) _ acts t)

-- what holds back a row refers to it
pub holds_refers : (table : List Reference) (row other : Row) → holds_back table row other ≡ true → refers_to table other.key row ≡ true
unfolding holds_back
holds_refers table row other h = by (any_of (λ reference. restricts reference.on_delete && ties reference row other) table h)
  where
    by : Found (λ reference. restricts reference.on_delete && ties reference row other) table → refers_to table other.key row ≡ true
    by f = let parts = and_parts (restricts f.one.on_delete) (ties f.one row other) f.passes in ties_refers table row other f.one f.is_in (restrict_acts f.one.on_delete parts.0) parts.1

-- a row that a field is emptied of refers to a row that goes
pub record RefersToOne (table : List Reference) (rows : List Row) (row : Row) : Type 0 where
  pub other : Row
  pub is_in : IsIn other rows
  pub refers : refers_to table other.key row ≡ true

pub emptied_refers : (table : List Reference) (rows : List Row) (row : Row) (number : ℕ) → is_emptied table rows row number ≡ true → RefersToOne table rows row
unfolding is_emptied
emptied_refers table rows row number h = by (any_of (λ reference. sets_null reference.on_delete && is_field reference.part number && list_any (ties reference row) rows) table h)
  where
    onto : (reference : Reference) → IsIn reference table → sets_null reference.on_delete ≡ true → Found (ties reference row) rows → RefersToOne table rows row
    onto reference i n f = record { other = f.one; is_in = f.is_in; refers = ties_refers table row f.one reference i (null_acts reference.on_delete n) f.passes }

    by : Found (λ reference. sets_null reference.on_delete && is_field reference.part number && list_any (ties reference row) rows) table → RefersToOne table rows row
    by f =
        let parts = and_parts (sets_null f.one.on_delete && is_field f.one.part number) (list_any (ties f.one row) rows) f.passes in
        onto f.one f.is_in (and_parts (sets_null f.one.on_delete) (is_field f.one.part number) parts.0).0 (any_of (ties f.one row) rows parts.1)

pub rest_keeps : (table : List Reference) (lost : List Place) → KeepsKeys (rest_of table lost)
rest_keeps table lost = record { keeps = λ row left e. by row left (stands_among lost row) e }
  where
    by : (row left : Row) (b : Bool) → (if b then None else Some (without_lost table lost row)) ≡ Some left → left.key ≡ row.key
    by row left true e = cc
    by row left false e = cc
