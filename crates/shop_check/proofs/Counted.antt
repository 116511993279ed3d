-- Rows up to a row: how many there are, and which have the same unique fields.
use Rattle.std.proofs.Common.{◌≡◌, ℕ, zero, suc, ◌-◌, ◌<◌, ◌≤◌, Bool, true, false, cond, ◌&&◌, ◌||◌, List, [], ◌∷◌, Option, Some, None, length, get_or, take, drop, refl, sym, ap, ◌∙◌, arith}
use Rattle.std.specs.Prelude.{nat_eq, nat_lt, find, filter, count_by}
use Rattle.std.specs.List.{list_any, list_all, AllByRecursion}
use Rattle.std.specs.List.Sorted.{IsPartitionPoint}
use Rattle.std.specs.Option.{option_map_or}
use Rattle.std.specs.declared.cmp.Ordering.{Ordering}
use Rattle.std.specs.declared.cmp.Ordering.TheVariants.{Less, Equal, Greater}
use Rattle.std.specs.Ordering.{is_lt, is_le, nat_cmp, ordering_then}
use Rattle.std.proofs.lemmas.Bool.{and_parts, both_ways, eqb-true}
use Rattle.std.proofs.lemmas.Bool.Decides.{nat_tests}
use Rattle.std.proofs.lemmas.List.{length-drop}
use Rattle.std.proofs.lemmas.List.Sums.{length-filter}
use Rattle.closure.proofs.Members.{all_from, of_filter}
use Rattle.shop_defs.specs.declared.key.Key.{Key}
use Rattle.shop_defs.specs.declared.row.Row.{Row}
use Rattle.shop_defs.specs.declared.table.OwnerLimit.{OwnerLimit}
use Rattle.shop_defs.specs.Entities.{entity_number}
use Rattle.shop_defs.specs.Keys.{key_cmp}
use Rattle.shop_defs.specs.Rows.{row_key, IsInKeyOrder}
use Rattle.shop_defs.proofs.Keys.{key_cmp_total}
use Rattle.shop_operations.specs.References.{is_entity, is_live, live, of_version, part_of}
use Rattle.shop_operations.specs.Upserts.{same_id, is_of_owner, is_twin, owner_is_full}
use Rattle.shop_rows.specs.Lookups.{count_rows, first_twin}
use Rattle.shop_rows.specs.Owners.{count_owned}
use Rattle.shop_rows.specs.Searches.{from_key, from_entity}
use Rattle.shop_rows.proofs.Lists.{count_by-filter}
use Rattle.shop_rows.proofs.Runs.{take_is_filter, drop_is_filter}
use Rattle.shop_soundness.proofs.Lists.{of_each, each_of, count_under}
use Rattle.shop_check.specs.Standing.{up_to}
use Rattle.shop_check.proofs.Orders.{is_less}

-- the other's key isn't above the row's
abbrev pub is_up : Row → Row → Bool
is_up row other = is_le (key_cmp other.key row.key)

-- ---- a part of rows that ascend

pub part_in_order : (p : Row → Bool) (rows : List Row) → IsInKeyOrder rows → IsInKeyOrder (filter p rows)
part_in_order p [] up = tt
part_in_order p (row ∷ rows) up = by (part_in_order p rows up.1) (p row)
  where
    above : AllByRecursion (λ other. key_cmp row.key (row_key other) ≡ Less) (filter p rows)
    above = each_of (λ other. key_cmp row.key (row_key other) ≡ Less) (filter p rows) (λ x i. of_each (λ other. key_cmp row.key (row_key other) ≡ Less) rows x up.0 (of_filter p rows x i).is_in)

    by : IsInKeyOrder (filter p rows) → (b : Bool) → IsInKeyOrder (cond b (row ∷ filter p rows) (filter p rows))
    by more true = (above, more)
    by more false = more

-- the rows up to a row are those in front of where the test parts them
pub rows_up : (rows : List Row) (row : Row) (i : ℕ) → IsPartitionPoint (λ other. is_le (from_key row.key other) ≡ true) (λ other. is_le (from_key row.key other) ≡ false) rows i → take i rows ≡ up_to rows row
rows_up rows row i point = take_is_filter (is_up row) rows i (λ k d l r. point.0 k d (omega arith) l) (λ k d l r. point.1 k d l r)

pub all_up : (rows : List Row) (row : Row) → list_all (is_up row) (up_to rows row) ≡ true
all_up rows row = all_from (is_up row) (up_to rows row) (λ x i. (of_filter (is_up row) rows x i).passes)

-- ---- of an entity

all_get : {X : Type 0} (p : X → Bool) (xs : List X) (k : ℕ) (d : X) → list_all p xs ≡ true → k < length xs → p (get_or xs k d) ≡ true
all_get p [] k d all less = absurd (omega arith)
all_get p (x ∷ xs) zero d all less = (and_parts (p x) (list_all p xs) all).0
all_get p (x ∷ xs) (suc k) d all less = all_get p xs k d (and_parts (p x) (list_all p xs) all).1 (omega arith)

other_number : (a b : ℕ) → is_lt (nat_cmp a b) ≡ true → nat_eq b a ≡ false
other_number a b e = grind (arith, nat_tests)

front_up : (o p : Ordering) → is_le (ordering_then o p) ≡ true → is_lt o ≡ false → o ≡ Equal
front_up Less p e f = cc
front_up Equal p e f = refl
front_up Greater p e f = cc

same_number : (a b : ℕ) → nat_cmp a b ≡ Equal → nat_eq b a ≡ true
same_number a b e = grind (arith, nat_tests)

last_number : (other row : Row) → is_le (key_cmp other.key row.key) ≡ true → is_lt (from_entity row.key.entity other) ≡ false → is_entity row.key.entity other.key.entity ≡ true
last_number other row up low = same_number (entity_number other.key.entity) (entity_number row.key.entity) (front_up _ _ up low)

-- of rows up to a row, those of its entity are the last
pub last_rows : (rows : List Row) (row : Row) (i : ℕ) → list_all (is_up row) rows ≡ true
    → IsPartitionPoint (λ other. is_lt (from_entity row.key.entity other) ≡ true) (λ other. is_lt (from_entity row.key.entity other) ≡ false) rows i
    → length rows - i ≡ count_rows rows row.key.entity
last_rows rows row i all point =
    let of_entity : Row → Bool = λ other. is_entity row.key.entity other.key.entity in
    let last : drop i rows ≡ filter of_entity rows = drop_is_filter of_entity rows i (λ k d l r. other_number _ _ (point.0 k d (omega arith) l)) (λ k d l r. last_number (get_or rows k d) row (all_get (is_up row) rows k d all r) (point.1 k d l r)) in
    sym (length-drop i rows) ∙ (ap length last ∙ length-filter of_entity rows)

-- the rows of an entity up to a row, counted by one test
pub entity_up : (rows : List Row) (row : Row) → count_by (λ other. is_up row other && is_entity row.key.entity other.key.entity) rows ≡ count_rows (up_to rows row) row.key.entity
entity_up rows row = sym (count_by-filter (λ other. is_entity row.key.entity other.key.entity) (is_up row) rows)

-- so many of them up to a row are more than a number or not
pub more_up : (rows : List Row) (row : Row) (most n : ℕ) → n ≡ count_by (λ other. is_up row other && is_entity row.key.entity other.key.entity) rows → nat_lt most n ≡ nat_lt most (count_rows (up_to rows row) row.key.entity)
more_up rows row most n e = ap (nat_lt most) (e ∙ entity_up rows row)

-- ---- of an owner

-- the live rows of an owner up to a row, counted by one test
pub owned_up : (rows : List Row) (row : Row) (limit : OwnerLimit) → count_by (λ other. is_up row other && (is_live other && is_of_owner limit row other)) rows ≡ count_by (is_of_owner limit row) (live (up_to rows row))
owned_up rows row limit = sym (count_by-filter (is_of_owner limit row) is_live (up_to rows row) ∙ count_by-filter (λ other. is_live other && is_of_owner limit row other) (is_up row) rows)

-- the owner is over the limit up to a row of the limit's entity where so many are
pub full_up : (rows seen : List Row) (row : Row) (limit : OwnerLimit) (n : ℕ) → is_entity limit.entity row.key.entity ≡ true → seen ≡ rows → n ≡ count_by (λ other. is_up row other && (is_live other && is_of_owner limit row other)) seen
    → nat_lt limit.most n ≡ owner_is_full (live (up_to rows row)) row limit
full_up rows seen row limit n entity same count =
    let all : n ≡ count_by (is_of_owner limit row) (live (up_to rows row)) = count ∙ (ap (λ (xs : List Row). count_by (λ other. is_up row other && (is_live other && is_of_owner limit row other)) xs) same ∙ owned_up rows row limit) in
    rw entity (ap (nat_lt limit.most) all)

-- there are no more of them than of all
pub fewer_up : (rows : List Row) (row : Row) (p : Row → Bool) → count_by p (live (up_to rows row)) ≤ count_by p (live rows)
fewer_up rows row p =
    let up : count_by p (live (up_to rows row)) ≡ count_by (λ other. is_up row other && (is_live other && p other)) rows = count_by-filter p is_live (up_to rows row) ∙ count_by-filter (λ other. is_live other && p other) (is_up row) rows in
    let all : count_by p (live rows) ≡ count_by (λ other. is_live other && p other) rows = count_by-filter p is_live rows in
    let less : count_by (λ other. is_up row other && (is_live other && p other)) rows ≤ count_by (λ other. is_live other && p other) rows =
    count_under (λ other. is_up row other && (is_live other && p other)) (λ other. is_live other && p other) rows (λ x i h. (and_parts (is_up row x) (is_live x && p x) h).1) in
    omega arith

not_more : (a : Bool) (most n : ℕ) → n ≤ most → false ≡ (a && nat_lt most n)
not_more true most n few = grind (arith, nat_tests)
not_more false most n few = refl

-- where an entity has no more rows than a number, it hasn't up to a row
pub none_more_up : (rows : List Row) (row : Row) (most count : ℕ) → count ≡ count_rows rows row.key.entity → count ≤ most → false ≡ nat_lt most (count_rows (up_to rows row) row.key.entity)
none_more_up rows row most count is few =
    let less : count_by (λ other. is_up row other && is_entity row.key.entity other.key.entity) rows ≤ count_rows rows row.key.entity =
    count_under (λ other. is_up row other && is_entity row.key.entity other.key.entity) (λ other. is_entity row.key.entity other.key.entity) rows (λ x i h. (and_parts (is_up row x) (is_entity row.key.entity x.key.entity) h).1) in
    not_more true most (count_rows (up_to rows row) row.key.entity) (omega (arith, less, entity_up rows row, is))

-- so whether it has more up to a row is told by how many it has
pub same_more_up : (rows : List Row) (row : Row) (most count : ℕ) → count ≡ count_rows rows row.key.entity → count ≤ most → nat_lt most count ≡ nat_lt most (count_rows (up_to rows row) row.key.entity)
same_more_up rows row most count is few = sym (not_more true most count few) ∙ none_more_up rows row most count is few

-- an owner that isn't over the limit isn't so up to a row
pub owner_not_full : (rows : List Row) (row : Row) (limit : OwnerLimit) (owner : ℕ) → part_of limit.owner row ≡ Some owner → count_owned limit (live rows) owner ≤ limit.most → false ≡ owner_is_full (live (up_to rows row)) row limit
owner_not_full rows row limit owner e few =
    let same : count_by (is_of_owner limit row) (live rows) ≡ count_owned limit (live rows) owner = ap (λ (o : Option ℕ). count_by (λ other. is_entity limit.entity other.key.entity && same_id o (part_of limit.owner other)) (live rows)) e in
    let less : count_by (is_of_owner limit row) (live (up_to rows row)) ≤ count_by (is_of_owner limit row) (live rows) = fewer_up rows row (is_of_owner limit row) in
    not_more (is_entity limit.entity row.key.entity) limit.most (count_by (is_of_owner limit row) (live (up_to rows row))) (omega arith)

none_filtered : (rows : List Row) → filter (λ (other : Row). false) rows ≡ []
none_filtered [] = refl
none_filtered (row ∷ rows) = none_filtered rows

-- what no row passes counts none
pub none_counted : (rows : List Row) → count_by (λ (other : Row). false) rows ≡ 0
none_counted rows = sym (length-filter (λ (other : Row). false) rows) ∙ ap length (none_filtered rows)

-- nor is one that there isn't
pub no_owner_full : (rows : List Row) (row : Row) (limit : OwnerLimit) → part_of limit.owner row ≡ None → false ≡ owner_is_full (live (up_to rows row)) row limit
no_owner_full rows row limit e =
    let same : count_by (is_of_owner limit row) (live (up_to rows row)) ≡ count_by (λ other. is_entity limit.entity other.key.entity && false) (live (up_to rows row)) =
    ap (λ (o : Option ℕ). count_by (λ other. is_entity limit.entity other.key.entity && same_id o (part_of limit.owner other)) (live (up_to rows row))) e in
    let none : count_by (λ other. is_entity limit.entity other.key.entity && false) (live (up_to rows row)) ≤ count_by (λ other. false) (live (up_to rows row)) =
    count_under (λ other. is_entity limit.entity other.key.entity && false) (λ other. false) (live (up_to rows row)) (λ x i h. (and_parts (is_entity limit.entity x.key.entity) false h).1) in
    let nothing : count_by (λ other. false) (live (up_to rows row)) ≡ 0 = none_counted (live (up_to rows row)) in
    not_more (is_entity limit.entity row.key.entity) limit.most (count_by (is_of_owner limit row) (live (up_to rows row))) (omega arith)

-- ---- twins

none_lower : (low : Key) (row : Row) (p : Row → Bool) (rows : List Row) → is_lt (key_cmp low row.key) ≡ false → AllByRecursion (λ other. key_cmp low (row_key other) ≡ Less) rows → list_any (λ other. is_lt (key_cmp other.key row.key) && p other) rows ≡ false
none_lower low row p [] e above = refl
none_lower low row p (other ∷ rows) e above = by (none_lower low row p rows e above.1) (is_lt (key_cmp other.key row.key)) refl
  where
    by : list_any (λ x. is_lt (key_cmp x.key row.key) && p x) rows ≡ false → (b : Bool) → is_lt (key_cmp other.key row.key) ≡ b → ((b && p other) || list_any (λ x. is_lt (key_cmp x.key row.key) && p x) rows) ≡ false
    by more true f = absurd (both_ways (is_lt (key_cmp low row.key)) e (ap is_lt (key_cmp_total.trans low other.key row.key above.0 (is_less _ f))))
    by more false f = more

-- of rows that ascend, one that passes has a lower key where the first has
pub first_is_lowest : (row : Row) (p : Row → Bool) (rows : List Row) → IsInKeyOrder rows
    → list_any (λ other. is_lt (key_cmp other.key row.key) && p other) rows ≡ option_map_or (λ other. is_lt (key_cmp other.key row.key)) (find p rows) false
first_is_lowest row p [] up = refl
first_is_lowest row p (other ∷ rows) up = by (first_is_lowest row p rows up.1) (p other) refl (is_lt (key_cmp other.key row.key)) refl
  where
    by : list_any (λ x. is_lt (key_cmp x.key row.key) && p x) rows ≡ option_map_or (λ x. is_lt (key_cmp x.key row.key)) (find p rows) false → (b : Bool) → p other ≡ b → (c : Bool) → is_lt (key_cmp other.key row.key) ≡ c
        → ((c && b) || list_any (λ x. is_lt (key_cmp x.key row.key) && p x) rows) ≡ option_map_or (λ x. is_lt (key_cmp x.key row.key)) (cond b (Some other) (find p rows)) false
    by more true e true f = rw f refl
    by more true e false f = rw f (none_lower other.key row p rows f up.0)
    by more false e true f = more
    by more false e false f = more

-- a live row has a twin with a lower key where its first one has a lower key
pub lower_twin : (rows : List Row) (row : Row) (found : Option Row) → IsInKeyOrder rows → is_live row ≡ true → found ≡ first_twin rows row
    → option_map_or (λ other. is_lt (key_cmp other.key row.key)) found false ≡ list_any (λ other. is_lt (key_cmp other.key row.key) && is_twin row other) (live rows)
lower_twin rows row found up is e =
    let version : row.key.version ≡ 0 = eqb-true row.key.version 0 is in
    let first : found ≡ find (is_twin row) (live rows) = e ∙ ap (λ (v : ℕ). find (is_twin row) (of_version v rows)) version in
    ap (λ (o : Option Row). option_map_or (λ other. is_lt (key_cmp other.key row.key)) o false) first ∙ sym (first_is_lowest row (is_twin row) (live rows) (part_in_order is_live rows up))
