-- Rows in pages are looked up and changed as the list of them.
use Rattle.std.proofs.Common.{◌≡◌, Bool, true, false, List, [], ◌∷◌, map, Option, Some, None, if◌then◌else◌, refl, sym, ap, ◌∙◌}
use Rattle.std.specs.declared.cmp.Ordering.{Ordering}
use Rattle.std.specs.declared.cmp.Ordering.TheVariants.{Less, Equal, Greater}
use Rattle.std.specs.Ordering.{is_eq}
use Rattle.std.specs.Option.{option_map}
use Rattle.std.specs.List.{AllByRecursion, fold}
use Rattle.std.specs.declared.sync.Arc.{Arc}
use Rattle.std.specs.Arc.{arc_value}
use Rattle.keyed.specs.Keyed.{Ascends, find, put, without}
use Rattle.keyed.proofs.Changes.{ascends_put, find_put}
use Rattle.paged.specs.Pairs.{key_of, value_of}
use Rattle.paged.specs.Changed.{changed, changed_at}
use Rattle.shop_defs.specs.declared.key.Key.{Key}
use Rattle.shop_defs.specs.declared.row.Row.{Row}
use Rattle.shop_defs.specs.Keys.{key_cmp}
use Rattle.shop_defs.specs.Rows.{row_key, row_at, change_row, change_rows, IsInKeyOrder}
use Rattle.shop_defs.specs.Joined.{Change, change_key, change_at, later_of, last_in}
use Rattle.shop_defs.proofs.Keys.{key_cmp_total}
use Rattle.shop_rows.specs.Changing.{row_after, StandsUnderItsKey, StandUnderTheirKeys, HasAscendingKeys}
use Rattle.shop_rows.specs.Paging.{IsUnderItsKey, read_change, own_change, settled, put_in}
use Rattle.shop_rows.proofs.ChangedRows.{in_order-change_rows, row_at-change_rows, last_in-ascending}
use Rattle.shop_rows.proofs.SameRows.{same_from_find}

-- ---- pairs and their rows

abbrev pub Stand : List (Key × Row) → Type 0
Stand pairs = AllByRecursion IsUnderItsKey pairs

-- a look-up in the pairs is one in their rows
pub row_in_pairs : (pairs : List (Key × Row)) (key : Key) → Stand pairs → option_map value_of (find key_cmp key_of pairs key) ≡ row_at (map value_of pairs) key
row_in_pairs [] key stand = refl
row_in_pairs (pair ∷ pairs) key stand = by (row_in_pairs pairs key stand.1) (key_cmp pair.0 key) refl
  where
    by : option_map value_of (find key_cmp key_of pairs key) ≡ row_at (map value_of pairs) key → (o : Ordering) → key_cmp pair.0 key ≡ o
        → option_map value_of (find key_cmp key_of (pair ∷ pairs) key) ≡ row_at (map value_of (pair ∷ pairs)) key
    by more Less e = rw (stand.0, e) more
    by more Equal e = rw (stand.0, e) refl
    by more Greater e = rw (stand.0, e) more

above_pairs : (low : Key) (pairs : List (Key × Row)) → Stand pairs → AllByRecursion (λ row. key_cmp low (row_key row) ≡ Less) (map value_of pairs) → AllByRecursion (λ pair. key_cmp low (key_of pair) ≡ Less) pairs
above_pairs low [] stand above = tt
above_pairs low (pair ∷ pairs) stand above = (ap (key_cmp low) (sym stand.0) ∙ above.0, above_pairs low pairs stand.1 above.1)

-- the pairs ascend as their rows do
pub pairs_ascend : (pairs : List (Key × Row)) → Stand pairs → IsInKeyOrder (map value_of pairs) → Ascends key_cmp key_of pairs
pairs_ascend [] stand up = tt
pairs_ascend (pair ∷ pairs) stand up = (above_pairs pair.0 pairs stand.1 (lower pair.1.key pair.0 stand.0 (map value_of pairs) up.0), pairs_ascend pairs stand.1 up.1)
  where
    lower : (a b : Key) → a ≡ b → (rows : List Row) → AllByRecursion (λ row. key_cmp a (row_key row) ≡ Less) rows → AllByRecursion (λ row. key_cmp b (row_key row) ≡ Less) rows
    lower a b e [] all = tt
    lower a b e (row ∷ rows) all = (ap (λ k. key_cmp k (row_key row)) (sym e) ∙ all.0, lower a b e rows all.1)

-- ---- changes of pairs are changes of their rows

put_in_pairs : (pairs : List (Key × Row)) (key : Key) (row : Row) → Stand pairs → row.key ≡ key → map value_of (put key_cmp key_of pairs (key, row)) ≡ put key_cmp row_key (map value_of pairs) row
put_in_pairs [] key row stand own = refl
put_in_pairs (pair ∷ pairs) key row stand own = by (put_in_pairs pairs key row stand.1 own) (key_cmp pair.0 key) refl
  where
    seen : (o : Ordering) → key_cmp pair.0 key ≡ o → key_cmp pair.1.key row.key ≡ o
    seen o e = (λ i. key_cmp (stand.0 i) (own i)) ∙ e

    by : map value_of (put key_cmp key_of pairs (key, row)) ≡ put key_cmp row_key (map value_of pairs) row → (o : Ordering) → key_cmp pair.0 key ≡ o
        → map value_of (put key_cmp key_of (pair ∷ pairs) (key, row)) ≡ put key_cmp row_key (map value_of (pair ∷ pairs)) row
    by more Less e = rw (e, seen Less e) (ap (λ rows. pair.1 ∷ rows) more)
    by more Equal e = rw (e, seen Equal e) refl
    by more Greater e = rw (e, seen Greater e) refl

without_in_pairs : (pairs : List (Key × Row)) (key : Key) → Stand pairs → map value_of (without key_cmp key_of pairs key) ≡ without key_cmp row_key (map value_of pairs) key
without_in_pairs [] key stand = refl
without_in_pairs (pair ∷ pairs) key stand = by (without_in_pairs pairs key stand.1) (key_cmp pair.0 key) refl
  where
    seen : (o : Ordering) → key_cmp pair.0 key ≡ o → key_cmp pair.1.key key ≡ o
    seen o e = ap (λ k. key_cmp k key) stand.0 ∙ e

    by : map value_of (without key_cmp key_of pairs key) ≡ without key_cmp row_key (map value_of pairs) key → (o : Ordering) → key_cmp pair.0 key ≡ o
        → map value_of (without key_cmp key_of (pair ∷ pairs) key) ≡ without key_cmp row_key (map value_of (pair ∷ pairs)) key
    by more Less e = rw (e, seen Less e) (ap (λ rows. pair.1 ∷ rows) more)
    by more Equal e = rw (e, seen Equal e) refl
    by more Greater e = rw (e, seen Greater e) (ap (λ rows. pair.1 ∷ rows) more)

stand-put : (pairs : List (Key × Row)) (key : Key) (row : Row) → Stand pairs → row.key ≡ key → Stand (put key_cmp key_of pairs (key, row))
stand-put [] key row stand own = (own, tt)
stand-put (pair ∷ pairs) key row stand own = by (stand-put pairs key row stand.1 own) (key_cmp pair.0 key) refl
  where
    by : Stand (put key_cmp key_of pairs (key, row)) → (o : Ordering) → key_cmp pair.0 key ≡ o → Stand (put key_cmp key_of (pair ∷ pairs) (key, row))
    by more Less e = rw e (stand.0, more)
    by more Equal e = rw e (own, stand.1)
    by more Greater e = rw e (own, stand)

stand-without : (pairs : List (Key × Row)) (key : Key) → Stand pairs → Stand (without key_cmp key_of pairs key)
stand-without [] key stand = tt
stand-without (pair ∷ pairs) key stand = by (stand-without pairs key stand.1) (key_cmp pair.0 key) refl
  where
    by : Stand (without key_cmp key_of pairs key) → (o : Ordering) → key_cmp pair.0 key ≡ o → Stand (without key_cmp key_of (pair ∷ pairs) key)
    by more Less e = rw e (stand.0, more)
    by more Equal e = rw e stand.1
    by more Greater e = rw e (stand.0, more)

step : (pairs : List (Key × Row)) (key : Key) (put : Option Row) → Stand pairs → StandsUnderItsKey (key, put) → map value_of (changed_at key_cmp pairs key put) ≡ change_row (map value_of pairs) key put
step pairs key None stand own = without_in_pairs pairs key stand
step pairs key (Some row) stand own = put_in_pairs pairs key row stand own

stand-step : (pairs : List (Key × Row)) (key : Key) (put : Option Row) → Stand pairs → StandsUnderItsKey (key, put) → Stand (changed_at key_cmp pairs key put)
stand-step pairs key None stand own = stand-without pairs key stand
stand-step pairs key (Some row) stand own = stand-put pairs key row stand own

pub changed_in_pairs : {Z : Type 0} (changes : List (Key × Option (Arc Row Z))) (pairs : List (Key × Row)) → Stand pairs → StandUnderTheirKeys (map read_change changes)
    → map value_of (changed key_cmp (option_map arc_value) pairs changes) ≡ change_rows (map value_of pairs) (map read_change changes)
changed_in_pairs [] pairs stand own = refl
changed_in_pairs (change ∷ changes) pairs stand own =
    changed_in_pairs changes (changed_at key_cmp pairs change.0 (option_map arc_value change.1)) (stand-step pairs change.0 (option_map arc_value change.1) stand own.0) own.1
    ∙ ap (λ rows. change_rows rows (map read_change changes)) (step pairs change.0 (option_map arc_value change.1) stand own.0)

pub stand-changed : {Z : Type 0} (changes : List (Key × Option (Arc Row Z))) (pairs : List (Key × Row)) → Stand pairs → StandUnderTheirKeys (map read_change changes)
    → Stand (changed key_cmp (option_map arc_value) pairs changes)
stand-changed [] pairs stand own = stand
stand-changed (change ∷ changes) pairs stand own =
    stand-changed changes (changed_at key_cmp pairs change.0 (option_map arc_value change.1)) (stand-step pairs change.0 (option_map arc_value change.1) stand own.0) own.1

-- ---- settled changes

read_above : {Z : Type 0} (low : Key) (changes : List (Key × Option (Arc Row Z))) → AllByRecursion (λ change. key_cmp low (key_of change) ≡ Less) changes → AllByRecursion (λ change. key_cmp low (change_key change) ≡ Less) (map read_change changes)
read_above low [] all = tt
read_above low (change ∷ changes) all = (all.0, read_above low changes all.1)

-- changes ascend as they are read
pub read_ascends : {Z : Type 0} (changes : List (Key × Option (Arc Row Z))) → Ascends key_cmp key_of changes → HasAscendingKeys (map read_change changes)
read_ascends [] up = tt
read_ascends (change ∷ changes) up = (read_above change.0 changes up.0, read_ascends changes up.1)

-- a put of a shared change is read as a put
pub read_put : {Z : Type 0} (changes : List (Key × Option (Arc Row Z))) (change : Key × Option (Arc Row Z)) → map read_change (put key_cmp key_of changes change) ≡ put key_cmp change_key (map read_change changes) (read_change change)
read_put [] change = refl
read_put (c ∷ changes) change = by (read_put changes change) (key_cmp c.0 change.0) refl
  where
    by : map read_change (put key_cmp key_of changes change) ≡ put key_cmp change_key (map read_change changes) (read_change change) → (o : Ordering) → key_cmp c.0 change.0 ≡ o
        → map read_change (put key_cmp key_of (c ∷ changes) change) ≡ put key_cmp change_key (map read_change (c ∷ changes)) (read_change change)
    by more Less e = rw e (ap (λ cs. read_change c ∷ cs) more)
    by more Equal e = rw e refl
    by more Greater e = rw e refl

own_stands : (change : Change) → StandsUnderItsKey (own_change change)
own_stands (key, None) = tt
own_stands (key, Some row) = refl

stand-put_change : (changes : List Change) (change : Change) → StandUnderTheirKeys changes → StandsUnderItsKey change → StandUnderTheirKeys (put key_cmp change_key changes change)
stand-put_change [] change stand own = (own, tt)
stand-put_change (c ∷ changes) change stand own = by (stand-put_change changes change stand.1 own) (key_cmp c.0 change.0) refl
  where
    by : StandUnderTheirKeys (put key_cmp change_key changes change) → (o : Ordering) → key_cmp c.0 change.0 ≡ o → StandUnderTheirKeys (put key_cmp change_key (c ∷ changes) change)
    by more Less e = rw e (stand.0, more)
    by more Equal e = rw e (own, stand.1)
    by more Greater e = rw e (own, stand)

stand-fold : (changes all : List Change) → StandUnderTheirKeys all → StandUnderTheirKeys changes → StandUnderTheirKeys (fold (put key_cmp change_key) all changes)
stand-fold [] all stand own = stand
stand-fold (change ∷ changes) all stand own = stand-fold changes (put key_cmp change_key all change) (stand-put_change all change stand own.0) own.1

owns_stand : (changes : List Change) → StandUnderTheirKeys (map own_change changes)
owns_stand [] = tt
owns_stand (change ∷ changes) = (own_stands change, owns_stand changes)

pub settled_stand : (changes : List Change) → StandUnderTheirKeys (settled changes)
settled_stand changes = stand-fold (map own_change changes) [] tt (owns_stand changes)

ascends-fold : (changes all : List Change) → HasAscendingKeys all → HasAscendingKeys (fold (put key_cmp change_key) all changes)
ascends-fold [] all up = up
ascends-fold (change ∷ changes) all up = ascends-fold changes (put key_cmp change_key all change) (ascends_put key_cmp change_key key_cmp_total all change up)

later_of-none : (later : Option Change) → later_of None later ≡ later
later_of-none None = refl
later_of-none (Some later) = refl

later_of_assoc : (a b c : Option Change) → later_of (later_of a b) c ≡ later_of a (later_of b c)
later_of_assoc a b None = refl
later_of_assoc a b (Some c) = refl

later_of-if : (b : Bool) (change : Change) (earlier : Option Change) → (if b then Some change else earlier) ≡ later_of earlier (if b then Some change else None)
later_of-if true change earlier = refl
later_of-if false change earlier = refl

change_at-fold : (changes all : List Change) (key : Key) → change_at (fold (put key_cmp change_key) all changes) key ≡ later_of (change_at all key) (last_in changes key)
change_at-fold [] all key = refl
change_at-fold (change ∷ rest) all key =
    let here : Option Change = if is_eq (key_cmp change.0 key) then Some change else None in
    let first : change_at (put key_cmp change_key all change) key ≡ later_of (change_at all key) here =
    find_put key_cmp change_key key_cmp_total all change key ∙ later_of-if (is_eq (key_cmp change.0 key)) change (change_at all key) in
    change_at-fold rest (put key_cmp change_key all change) key
    ∙ (ap (λ found. later_of found (last_in rest key)) first ∙ later_of_assoc (change_at all key) here (last_in rest key))

-- a change under the key of its row does the same
own_same : (rows : List Row) (change : Change) → change_row rows (own_change change).0 (own_change change).1 ≡ change_row rows change.0 change.1
own_same rows (key, None) = refl
own_same rows (key, Some row) = refl

owns_same : (changes : List Change) (rows : List Row) → change_rows rows (map own_change changes) ≡ change_rows rows changes
owns_same [] rows = refl
owns_same (change ∷ changes) rows = ap (λ before. change_rows before (map own_change changes)) (own_same rows change) ∙ owns_same changes (change_row rows change.0 change.1)

-- changes and what is settled of them leave the same rows
pub settled_same : (changes : List Change) (rows : List Row) → IsInKeyOrder rows → change_rows rows (settled changes) ≡ change_rows rows changes
settled_same changes rows up =
    same_from_find key_cmp row_key key_cmp_total (change_rows rows (settled changes)) (change_rows rows (map own_change changes))
    (in_order-change_rows (settled changes) rows up) (in_order-change_rows (map own_change changes) rows up)
    (λ key. row_at-change_rows (settled changes) rows up (settled_stand changes) key
    ∙ (ap (λ found. row_after found (row_at rows key)) (last_in-ascending (settled changes) key (ascends-fold (map own_change changes) [] tt)
    ∙ (change_at-fold (map own_change changes) [] key ∙ later_of-none (last_in (map own_change changes) key)))
    ∙ sym (row_at-change_rows (map own_change changes) rows up (owns_stand changes) key)))
    ∙ owns_same changes rows

-- ---- rows that are put in pages for the first time

puts_stand : (rows : List Row) → StandUnderTheirKeys (map put_in rows)
puts_stand [] = tt
puts_stand (row ∷ rows) = (refl, puts_stand rows)

puts_above : (low : Key) (rows : List Row) → AllByRecursion (λ row. key_cmp low (row_key row) ≡ Less) rows → AllByRecursion (λ change. key_cmp low (change_key change) ≡ Less) (map put_in rows)
puts_above low [] all = tt
puts_above low (row ∷ rows) all = (all.0, puts_above low rows all.1)

puts_ascend : (rows : List Row) → IsInKeyOrder rows → HasAscendingKeys (map put_in rows)
puts_ascend [] up = tt
puts_ascend (row ∷ rows) up = (puts_above row.key rows up.0, puts_ascend rows up.1)

put_at : (rows : List Row) (key : Key) → row_after (change_at (map put_in rows) key) None ≡ row_at rows key
put_at [] key = refl
put_at (row ∷ rows) key = by (put_at rows key) (key_cmp row.key key) refl
  where
    by : row_after (change_at (map put_in rows) key) None ≡ row_at rows key → (o : Ordering) → key_cmp row.key key ≡ o → row_after (change_at (map put_in (row ∷ rows)) key) None ≡ row_at (row ∷ rows) key
    by more Less e = rw e more
    by more Equal e = rw e refl
    by more Greater e = rw e more

pub put_all : (rows : List Row) → IsInKeyOrder rows → change_rows [] (map put_in rows) ≡ rows
put_all rows up =
    same_from_find key_cmp row_key key_cmp_total (change_rows [] (map put_in rows)) rows (in_order-change_rows (map put_in rows) [] tt) up
    (λ key. row_at-change_rows (map put_in rows) [] tt (puts_stand rows) key
    ∙ (ap (λ found. row_after found None) (last_in-ascending (map put_in rows) key (puts_ascend rows up)) ∙ put_at rows key))

-- changes that are read as these ascend and stand
above_read : {Z : Type 0} (low : Key) (changes : List (Key × Option (Arc Row Z))) → AllByRecursion (λ change. key_cmp low (change_key change) ≡ Less) (map read_change changes) → AllByRecursion (λ change. key_cmp low (key_of change) ≡ Less) changes
above_read low [] all = tt
above_read low (change ∷ changes) all = (all.0, above_read low changes all.1)

pub ascends_read : {Z : Type 0} (changes : List (Key × Option (Arc Row Z))) → HasAscendingKeys (map read_change changes) → Ascends key_cmp key_of changes
ascends_read [] up = tt
ascends_read (change ∷ changes) up = (above_read change.0 changes up.0, ascends_read changes up.1)

pub putting_ascends : {Z : Type 0} (changes : List (Key × Option (Arc Row Z))) (rows : List Row) → map read_change changes ≡ map put_in rows → IsInKeyOrder rows → Ascends key_cmp key_of changes
putting_ascends changes rows e up = ascends_read changes (rw e (puts_ascend rows up))

pub putting_stand : {Z : Type 0} (changes : List (Key × Option (Arc Row Z))) (rows : List Row) → map read_change changes ≡ map put_in rows → StandUnderTheirKeys (map read_change changes)
putting_stand changes rows e = rw e (puts_stand rows)

-- ---- what stands under a key afterwards

pub last_after : (rows next : List Row) (changes : List Change) → IsInKeyOrder rows → next ≡ change_rows rows changes → StandUnderTheirKeys changes → (key : Key) → row_at next key ≡ row_after (last_in changes key) (row_at rows key)
last_after rows next changes up e own key = ap (λ l. row_at l key) e ∙ row_at-change_rows changes rows up own key

pub once_after : (rows next : List Row) (changes : List Change) → IsInKeyOrder rows → next ≡ change_rows rows changes → StandUnderTheirKeys changes → HasAscendingKeys changes → (key : Key) → row_at next key ≡ row_after (change_at changes key) (row_at rows key)
once_after rows next changes up e own ascend key =
    last_after rows next changes up e own key ∙ ap (λ found. row_after found (row_at rows key)) (last_in-ascending changes key ascend)
