-- How many rows there are, as a row is put or taken out.
use Rattle.std.proofs.Common.{◌≡◌, ℕ, ◌+◌, ◌-◌, ◌<◌, ◌^◌, Bool, true, false, cond, ◌==◌, List, [], ◌∷◌, length, count_by, get_or, set, Option, Some, None, is_some, if◌then◌else◌, refl, sym, ap, ◌∙◌, arith}
use Rattle.std.specs.declared.cmp.Ordering.{Ordering}
use Rattle.std.specs.declared.cmp.Ordering.TheVariants.{Less, Equal, Greater}
use Rattle.std.specs.Cmp.{IsTotalOrder}
use Rattle.std.specs.Ordering.{is_eq, match_ordering, ordering_reverse}
use Rattle.std.specs.List.{AllByRecursion}
use Rattle.std.proofs.lemmas.Bool.{eq-eqb}
use Rattle.std.proofs.lemmas.List.Sums.{sum_by-cons}
use Rattle.std.proofs.lemmas.List.{get_or-set_same, get_or-set_other, length-set}
use borrow.Author.Tests.{eqb-true}
use Rattle.keyed.specs.Keyed.{Ascends, find, put, without}
use Rattle.shop_defs.specs.declared.entity.Entity.{Entity}
use Rattle.shop_defs.specs.declared.entity.Entity.TheVariants as E
use Rattle.shop_defs.specs.declared.key.Key.{Key}
use Rattle.shop_defs.specs.declared.row.Row.{Row}
use Rattle.shop_defs.specs.Entities.{entity_number}
use Rattle.shop_defs.specs.Keys.{key_cmp}
use Rattle.shop_defs.specs.Rows.{row_key, row_at, change_row, IsInKeyOrder}
use Rattle.shop_defs.specs.Joined.{Change}
use Rattle.shop_defs.proofs.Keys.{key_cmp_total}
use Rattle.shop_operations.specs.References.{is_entity}
use Rattle.shop_rows.specs.Changing.{StandsUnderItsKey}
use Rattle.shop_rows.specs.Counting.{one, AreCounted}
use Rattle.shop_rows.specs.Lookups.{count_rows}
use Rattle.shop_rows.proofs.Mentioning.{found_key}

-- 1 where an element is there and passes
abbrev weight : {X : Type 0} → (X → Bool) → Option X → ℕ
weight p None = 0
weight p (Some x) = cond (p x) 1 0

module _ {K X : Type 0} (cmp : K → K → Ordering) (key : X → K) (order : IsTotalOrder cmp) (p : X → Bool) where
  count_cons : (x : X) (xs : List X) → count_by p (x ∷ xs) ≡ cond (p x) 1 0 + count_by p xs
  count_cons x xs = sum_by-cons (λ y. cond (p y) 1 0) x xs

  none_above : (xs : List X) (q : K) → AllByRecursion (λ z. cmp q (key z) ≡ Less) xs → find cmp key xs q ≡ None
  none_above [] q above = refl
  none_above (x ∷ xs) q above = rw (order.antisymm (key x) q, above.0) (none_above xs q above.1)

  below_all : (x : X) (xs : List X) (q : K) → cmp q (key x) ≡ Less → AllByRecursion (λ z. cmp (key x) (key z) ≡ Less) xs → AllByRecursion (λ z. cmp q (key z) ≡ Less) xs
  below_all x [] q l all = tt
  below_all x (z ∷ xs) q l all = (order.trans q (key x) (key z) l all.0, below_all x xs q l all.1)

  count_put : (xs : List X) (y : X) → Ascends cmp key xs → count_by p (put cmp key xs y) + weight p (find cmp key xs (key y)) ≡ count_by p xs + weight p (Some y)
  count_put [] y up = omega arith
  count_put (x ∷ xs) y up = by (count_put xs y up.1) (cmp (key x) (key y)) refl
    where
      by : count_by p (put cmp key xs y) + weight p (find cmp key xs (key y)) ≡ count_by p xs + weight p (Some y) → (o : Ordering) → cmp (key x) (key y) ≡ o → count_by p (match_ordering o (x ∷ put cmp key xs y) (y ∷ xs) (y ∷ x ∷ xs)) + weight p (if is_eq o then Some x else find cmp key xs (key y)) ≡ count_by p (x ∷ xs) + weight p (Some y)
      by more Less e = rw (count_cons x (put cmp key xs y), count_cons x xs) (omega (arith, more))
      by more Equal e = rw (count_cons y xs, count_cons x xs) (omega arith)
      by more Greater e =
          let l : cmp (key y) (key x) ≡ Less = order.antisymm (key y) (key x) ∙ ap ordering_reverse e in
          rw (none_above xs (key y) (below_all x xs (key y) l up.0), count_cons y (x ∷ xs), count_cons x xs) (omega arith)

  count_without : (xs : List X) (q : K) → count_by p (without cmp key xs q) + weight p (find cmp key xs q) ≡ count_by p xs
  count_without [] q = omega arith
  count_without (x ∷ xs) q = by (count_without xs q) (cmp (key x) q)
    where
      by : count_by p (without cmp key xs q) + weight p (find cmp key xs q) ≡ count_by p xs → (o : Ordering) → count_by p (if is_eq o then xs else x ∷ without cmp key xs q) + weight p (if is_eq o then Some x else find cmp key xs q) ≡ count_by p (x ∷ xs)
      by more Less = rw (count_cons x (without cmp key xs q), count_cons x xs) (omega (arith, more))
      by more Equal = rw (count_cons x xs) (omega arith)
      by more Greater = rw (count_cons x (without cmp key xs q), count_cons x xs) (omega (arith, more))

-- how many pass a test after a change
changed_count : (p : Row → Bool) (rows : List Row) (change : Change) → IsInKeyOrder rows → StandsUnderItsKey change
    → count_by p (change_row rows change.0 change.1) + weight p (row_at rows change.0) ≡ count_by p rows + weight p change.1
changed_count p rows (key, None) up own = let e = count_without key_cmp row_key key_cmp_total p rows key in omega (arith, e)
changed_count p rows (key, Some row) up own =
    ap (λ k. count_by p (put key_cmp row_key rows row) + weight p (row_at rows k)) (sym own) ∙ count_put key_cmp row_key key_cmp_total p rows row up

count_all : (rows : List Row) → count_by (λ row. true) rows ≡ length rows
count_all [] = refl
count_all (row ∷ rows) = count_cons key_cmp row_key key_cmp_total (λ row. true) row rows ∙ (let e = count_all rows in omega (arith, e))

weight_all : (found : Option Row) → weight (λ row. true) found ≡ one (is_some found)
weight_all None = refl
weight_all (Some row) = refl

-- a row of the entity weighs one, and one of another nothing
weight_own : (entity : Entity) (key : Key) (found : Option Row) → ((row : Row) → found ≡ Some row → row.key ≡ key) → (entity_number entity == entity_number key.entity) ≡ true → weight (λ row. is_entity entity row.key.entity) found ≡ one (is_some found)
weight_own entity key None own e = refl
weight_own entity key (Some row) own e = ap (λ (b : Bool). cond b 1 0) (ap (λ k. is_entity entity k.entity) (own row refl) ∙ e)

weight_other : (entity : Entity) (key : Key) (found : Option Row) → ((row : Row) → found ≡ Some row → row.key ≡ key) → (entity_number entity == entity_number key.entity) ≡ false → weight (λ row. is_entity entity row.key.entity) found ≡ 0
weight_other entity key None own e = refl
weight_other entity key (Some row) own e = ap (λ (b : Bool). cond b 1 0) (ap (λ k. is_entity entity k.entity) (own row refl) ∙ e)

put_key : (change : Change) → StandsUnderItsKey change → (row : Row) → change.1 ≡ Some row → row.key ≡ change.0
put_key (key, None) own row e = absurd (cc)
put_key (key, Some other) own row e = let same : other ≡ row = cc in ap (λ r. r.key) (sym same) ∙ own

entity_small : (entity : Entity) → entity_number entity < 26
entity_small E.Language = omega arith
entity_small E.Tax = omega arith
entity_small E.Category = omega arith
entity_small E.CategoryTranslation = omega arith
entity_small E.Product = omega arith
entity_small E.ProductTranslation = omega arith
entity_small E.ProductCategory = omega arith
entity_small E.ProductPrice = omega arith
entity_small E.Stream = omega arith
entity_small E.StreamFilter = omega arith
entity_small E.Rule = omega arith
entity_small E.RuleCondition = omega arith
entity_small E.Promotion = omega arith
entity_small E.PromotionDiscount = omega arith
entity_small E.ShippingMethod = omega arith
entity_small E.ShippingPrice = omega arith
entity_small E.Stock = omega arith
entity_small E.Cart = omega arith
entity_small E.CartLine = omega arith
entity_small E.CartCode = omega arith
entity_small E.Order = omega arith
entity_small E.OrderLine = omega arith
entity_small E.OrderTax = omega arith
entity_small E.Draft = omega arith
entity_small E.DraftCommit = omega arith

-- the counts after a change
abbrev pub counted_on : List ℕ → Key → Option Row → Option Row → List ℕ
counted_on of key old new = set of (entity_number key.entity) ((get_or of (entity_number key.entity) 0 + one (is_some new)) - one (is_some old))

pub counted_after : (rows : List Row) (change : Change) (old : Option Row) (all next : ℕ) (of : List ℕ) → IsInKeyOrder rows → StandsUnderItsKey change → AreCounted rows all of → row_at rows change.0 ≡ old
    → next ≡ (all + one (is_some change.1)) - one (is_some old) → next < 2 ^ 63 → AreCounted (change_row rows change.0 change.1) next (counted_on of change.0 old change.1)
counted_after rows change old all next of up own are is e few = record {
  total =
      let total : length (change_row rows change.0 change.1) + one (is_some old) ≡ length rows + one (is_some change.1) =
      (λ i. (sym (count_all (change_row rows change.0 change.1)) i) + (sym (weight_all old) ∙ ap (weight (λ row. true)) (sym is)) i)
      ∙ (changed_count (λ row. true) rows change up own ∙ (λ i. count_all rows i + weight_all change.1 i)) in
      omega (arith, e, total, are.total);
  few = few;
  width = length-set of (entity_number change.0.entity) _ ∙ are.width;
  each = λ entity. by entity (entity_number entity == entity_number change.0.entity) refl;
}
  where
    n : ℕ
    n = entity_number change.0.entity

    old_key : (row : Row) → old ≡ Some row → row.key ≡ change.0
    old_key row f = found_key rows change.0 row (is ∙ f)

    counts : (entity : Entity) → count_rows (change_row rows change.0 change.1) entity + weight (λ row. is_entity entity row.key.entity) old ≡ count_rows rows entity + weight (λ row. is_entity entity row.key.entity) change.1
    counts entity =
        ap (λ found. count_rows (change_row rows change.0 change.1) entity + weight (λ row. is_entity entity row.key.entity) found) (sym is)
        ∙ changed_count (λ row. is_entity entity row.key.entity) rows change up own

    by : (entity : Entity) (b : Bool) → (entity_number entity == entity_number change.0.entity) ≡ b
        → get_or (counted_on of change.0 old change.1) (entity_number entity) 0 ≡ count_rows (change_row rows change.0 change.1) entity
    by entity true f =
        let same : entity_number entity ≡ n = eqb-true _ _ f in
        let small : entity_number change.0.entity < length of = omega (arith, entity_small change.0.entity, are.width) in
        let set_there : get_or (counted_on of change.0 old change.1) (entity_number entity) 0 ≡ (get_or of n 0 + one (is_some change.1)) - one (is_some old) =
        ap (λ m. get_or (counted_on of change.0 old change.1) m 0) same ∙ get_or-set_same of n ((get_or of n 0 + one (is_some change.1)) - one (is_some old)) 0 small in
        let before : get_or of n 0 ≡ count_rows rows entity = ap (λ m. get_or of m 0) (sym same) ∙ are.each entity in
        let old_weight = weight_own entity change.0 old old_key f in
        let new_weight = weight_own entity change.0 change.1 (put_key change own) f in
        omega (arith, set_there, before, counts entity, old_weight, new_weight)
    by entity false f =
        let other : get_or (counted_on of change.0 old change.1) (entity_number entity) 0 ≡ get_or of (entity_number entity) 0 =
        get_or-set_other of n (entity_number entity) ((get_or of n 0 + one (is_some change.1)) - one (is_some old)) 0 (λ same. absurd (let yes : (entity_number entity == entity_number change.0.entity) ≡ true = eq-eqb _ _ same in cc)) in
        let old_weight = weight_other entity change.0 old old_key f in
        let new_weight = weight_other entity change.0 change.1 (put_key change own) f in
        omega (arith, other, are.each entity, counts entity, old_weight, new_weight)
