-- Places in order, and how they are looked up.
use Rattle.std.proofs.Common.{◌≡◌, ◌+◌, ◌<◌, ◌≤◌, ℕ, zero, suc, Bool, true, false, ◌&&◌, ◌||◌, List, [], ◌∷◌, Option, Some, None, Result, Ok, Err, length, get_or, refl, sym, ap, ◌∙◌, inl, inr, ◌⊎◌, arith, Bor}
use Rattle.std.specs.Prelude.{◌==◌, cond, not, is_some, is_ok, IfOk, OnOk, OnErr, option_copied}
use Rattle.std.specs.Bool.{OnFalse}
use Rattle.std.specs.declared.cmp.Ordering.{Ordering}
use Rattle.std.specs.declared.cmp.Ordering.TheVariants.{Less, Equal, Greater}
use Rattle.std.specs.Cmp.{IsTotalOrder, both_tied, unsigned_ties}
use Rattle.std.specs.Ordering.{nat_cmp, ordering_then, ordering_reverse, ordering_index, match_ordering, is_eq, is_lt}
use Rattle.std.specs.BTreeSet.{insert_key, replace_key}
use Rattle.std.specs.List.{list_any}
use Rattle.std.specs.List.Sorted.{IsSearchInRange, IsBinarySearchResult, IsSortedBy, IsNonDecreasingBy}
use Rattle.std.proofs.lemmas.List.Sorted.{searchable_from_sorted}
use Rattle.std.proofs.lemmas.Bool.{or_left, or_right, or_parts, cases_lt, not-true}
use Rattle.std.proofs.lemmas.Cmp.{on_total, then_total, nat_cmp_total}
use Rattle.keyed.specs.Keyed.{find, put}
use Rattle.keyed.proofs.Places.{less_by_place}
use Rattle.keyed.proofs.Changes.{ascends_put}
use Rattle.shop_defs.specs.declared.entity.Entity.{Entity}
use Rattle.shop_defs.specs.declared.row.Row.{Row}
use Rattle.shop_defs.specs.Entities.{entity_number}
use Rattle.shop_write.specs.declared.place.Place.{Place}
use Rattle.shop_write.specs.Places.{order, order_by_id, itself, Rise, row_place, is_at, stands_among, is_of_id, has_id, IsAdded}

-- ---- the order of places

pub order_total : IsTotalOrder order
order_total =
    then_total (on_total (λ (p : Place). entity_number p.entity) nat_cmp_total)
    (then_total (on_total (λ (p : Place). p.id) nat_cmp_total) (on_total (λ (p : Place). p.second) nat_cmp_total))

-- places tie where they are the same
pub order_tied : (a b : Place) → is_eq (order a b) ≡ ((entity_number a.entity == entity_number b.entity) && ((a.id == b.id) && (a.second == b.second)))
order_tied a b =
    sym (both_tied _ _ _ _ (unsigned_ties (entity_number a.entity) (entity_number b.entity))
    (both_tied _ _ _ _ (unsigned_ties a.id b.id) (unsigned_ties a.second b.second)))

regrouped : (a b c : Bool) → (a && (b && c)) ≡ ((a && b) && c)
regrouped true b c = refl
regrouped false b c = refl

-- a place ties with that of a row where the row stands there
pub tied_at : (place : Place) (row : Row) → is_eq (order place (row_place row)) ≡ is_at row place
tied_at place row = order_tied place (row_place row) ∙ regrouped (entity_number place.entity == entity_number row.key.entity) (place.id == row.key.id) (place.second == row.key.second)

-- ---- a list that stays in order

pub rise_put : {A E : Type 0} (before after : List Place) (place : Place) (r : Result A E) → Rise before → OnOk r (after ≡ put order itself before place) → OnErr r (after ≡ before) → Rise after
rise_put before after place (Ok x) up ok err = rw ok (ascends_put order itself order_total before place up)
rise_put before after place (Err e) up ok err = rw err up

-- to put a key into an ordered set is to put it into a list in order
pub replaced_is : (places : List Place) (place : Place) → replace_key order places place ≡ put order itself places place
replaced_is [] place = refl
replaced_is (x ∷ xs) place = rw (order_total.antisymm x place) (by (replaced_is xs place) (order place x))
  where
    by : replace_key order xs place ≡ put order itself xs place → (o : Ordering) → match_ordering o (place ∷ x ∷ xs) (place ∷ xs) (x ∷ replace_key order xs place) ≡ match_ordering (ordering_reverse o) (x ∷ put order itself xs place) (place ∷ xs) (place ∷ x ∷ xs)
    by e Less = refl
    by e Equal = refl
    by e Greater = ap (λ ys. x ∷ ys) e

pub rise_replaced : {A E : Type 0} (before after : List Place) (place : Place) (r : Result A E) → Rise before → OnOk r (after ≡ replace_key order before place) → OnErr r (after ≡ before) → Rise after
rise_replaced before after place (Ok x) up ok err = rw (ok, replaced_is before place) (ascends_put order itself order_total before place up)
rise_replaced before after place (Err e) up ok err = rw err up

-- a set has a row's place where the row stands at one of the places
pub contained_is : (places : List Place) (row : Row) → list_any (λ place. is_eq (order (row_place row) place)) places ≡ stands_among places row
unfolding stands_among
contained_is [] row = refl
contained_is (x ∷ xs) row = rw (turned, contained_is xs row) refl
  where
    flips : (o : Ordering) → is_eq (ordering_reverse o) ≡ is_eq o
    flips Less = refl
    flips Equal = refl
    flips Greater = refl

    turned : is_eq (order (row_place row) x) ≡ is_at row x
    turned = ap is_eq (order_total.antisymm (row_place row) x) ∙ (flips (order x (row_place row)) ∙ tied_at x row)

-- to insert a new key into an ordered set is to put it into a list in order
inserted_is : (places : List Place) (place : Place) → list_any (λ p. is_eq (order place p)) places ≡ false → insert_key order places place ≡ put order itself places place
inserted_is [] place none = refl
inserted_is (x ∷ xs) place none =
    let parts = or_parts (is_eq (order place x)) (list_any (λ p. is_eq (order place p)) xs) none in
    rw (order_total.antisymm x place) (by (inserted_is xs place parts.1) (order place x) refl parts.0)
  where
    by : insert_key order xs place ≡ put order itself xs place → (o : Ordering) → order place x ≡ o → is_eq o ≡ false → match_ordering o (place ∷ x ∷ xs) (x ∷ xs) (x ∷ insert_key order xs place) ≡ match_ordering (ordering_reverse o) (x ∷ put order itself xs place) (place ∷ xs) (place ∷ x ∷ xs)
    by e Less f g = refl
    by e Equal f g = cc
    by e Greater f g = ap (λ ys. x ∷ ys) e

-- what an insertion says of a row's place
pub is_added : (places after : List Place) (row : Row) (fresh : Bool) → fresh ≡ not (list_any (λ p. is_eq (order (row_place row) p)) places) → OnFalse fresh (after ≡ places) → after ≡ insert_key order places (row_place row) → IsAdded row places after fresh
is_added places after row true new same keys =
    let none : list_any (λ p. is_eq (order (row_place row) p)) places ≡ false = not-true _ (sym new) in
    (sym (contained_is places row) ∙ none, keys ∙ inserted_is places (row_place row) none)
is_added places after row false known same keys = (sym (contained_is places row) ∙ was (list_any (λ p. is_eq (order (row_place row) p)) places) known, same)
  where
    was : (b : Bool) → false ≡ not b → b ≡ true
    was true e = refl
    was false e = cc

rise_added : (places after : List Place) (row : Row) (fresh : Bool) → Rise places → IsAdded row places after fresh → Rise after
rise_added places after row true up added = rw added.1 (ascends_put order itself order_total places (row_place row) up)
rise_added places after row false up added = rw added.1 up

pub rise_inserted : {E : Type 0} (before after : List Place) (row : Row) (r : Result Bool E) → Rise before
    → IfOk r (λ fresh. fresh ≡ not (list_any (λ p. is_eq (order (row_place row) p)) before)) → IfOk r (λ fresh. OnFalse fresh (after ≡ before)) → OnOk r (after ≡ insert_key order before (row_place row)) → OnErr r (after ≡ before) → Rise after
rise_inserted before after row (Ok fresh) up added same keys err = rise_added before after row fresh up (is_added before after row fresh added same keys)
rise_inserted before after row (Err e) up added same keys err = rw err up

-- ---- look-ups

-- a search by the place of a row tells whether the row stands at one of the places
pub is_some_find : (places : List Place) (row : Row) → is_some (find order itself places (row_place row)) ≡ stands_among places row
unfolding stands_among
is_some_find [] row = refl
is_some_find (place ∷ rest) row = rw tied_at (by (is_some_find rest row) (is_at row place))
  where
    by : is_some (find order itself rest (row_place row)) ≡ list_any (is_at row) rest → (b : Bool) → is_some (cond b (Some place) (find order itself rest (row_place row))) ≡ (b || list_any (is_at row) rest)
    by more true = refl
    by more false = more

-- by entity number and id alone
abbrev loosely : Place → Place → Ordering
loosely a b = ordering_then (nat_cmp (entity_number a.entity) (entity_number b.entity)) (nat_cmp a.id b.id)

loosely_total : IsTotalOrder loosely
loosely_total = then_total (on_total (λ (p : Place). entity_number p.entity) nat_cmp_total) (on_total (λ (p : Place). p.id) nat_cmp_total)

by_parts : (e i s : Ordering) → ordering_then e (ordering_then i s) ≡ Less → is_lt (ordering_reverse (ordering_then e i)) ≡ false
by_parts Less i s h = refl
by_parts Greater i s h = cc
by_parts Equal Less s h = refl
by_parts Equal Equal s h = refl
by_parts Equal Greater s h = cc

-- of two places in order, the later isn't before the earlier
not_before : (a b : Place) → order a b ≡ Less → is_lt (loosely b a) ≡ false
not_before a b h = ap is_lt (loosely_total.antisymm b a) ∙ by_parts (nat_cmp (entity_number a.entity) (entity_number b.entity)) (nat_cmp a.id b.id) (nat_cmp a.second b.second) h

sorted_loosely : (places : List Place) → Rise places → IsSortedBy (λ a b. is_lt (loosely a b)) places
sorted_loosely places up k d low high = not_before (get_or places k d) (get_or places (k + 1) d) (less_by_place order itself places k (k + 1) d up (omega arith) high)

tied_by_id : (entity : Entity) (id : ℕ) (place : Place) → is_eq (order_by_id entity id place) ≡ is_of_id entity id place
tied_by_id entity id place = sym (both_tied _ _ _ _ (unsigned_ties (entity_number place.entity) (entity_number entity)) (unsigned_ties place.id id))

any_at : (p : Place → Bool) (places : List Place) (i : ℕ) (d : Place) → i < length places → p (get_or places i d) ≡ true → list_any p places ≡ true
any_at p [] i d l h = absurd (omega arith)
any_at p (x ∷ xs) zero d l h = or_left (p x) (list_any p xs) h
any_at p (x ∷ xs) (suc i) d l h = or_right (p x) (list_any p xs) (any_at p xs i d (omega arith) h)

none_at : (p : Place → Bool) (places : List Place) → ((i : ℕ) (d : Place) → i < length places → p (get_or places i d) ≡ false) → list_any p places ≡ false
none_at p [] h = refl
none_at p (x ∷ xs) h = rw (h 0 x (omega arith), none_at p xs (λ i d l. h (suc i) d (omega arith))) refl

-- a binary search by entity and id tells whether a place has them
pub is_ok_searched : (places : List Place) (entity : Entity) (id : ℕ) (r : Result ℕ ℕ) → Rise places → IsSearchInRange r (length places) → IsBinarySearchResult (order_by_id entity id) places r → is_ok r ≡ has_id places entity id
unfolding has_id
is_ok_searched [] entity id (Ok i) up in_range equal = absurd (omega (arith, in_range))
is_ok_searched (x ∷ xs) entity id (Ok i) up in_range equal = sym (any_at (is_of_id entity id) (x ∷ xs) i x in_range (sym (tied_by_id entity id (get_or (x ∷ xs) i x)) ∙ ap is_eq (equal x)))
is_ok_searched places entity id (Err i) up in_range parted = sym (none_at (is_of_id entity id) places (λ j d l. sym (tied_by_id entity id (get_or places j d)) ∙ by j d l (cases_lt j i)))
  where
    rising : IsNonDecreasingBy (λ place. ordering_index (order_by_id entity id place)) places
    rising = searchable_from_sorted loosely_total itself places (record { entity = entity; id = id; second = 0 }) (sorted_loosely places up)

    by : (j : ℕ) (d : Place) → j < length places → (j < i) ⊎ (i ≤ j) → is_eq (order_by_id entity id (get_or places j d)) ≡ false
    by j d l (inl before) = ap is_eq ((parted rising).0 j d (omega arith) before)
    by j d l (inr after) = ap is_eq ((parted rising).1 j d after l)

-- a lent value is there where the value is
pub is_some_copied : {X : Type 0} (lent : Option (Bor X)) → is_some (option_copied lent) ≡ is_some lent
is_some_copied None = refl
is_some_copied (Some x) = refl
