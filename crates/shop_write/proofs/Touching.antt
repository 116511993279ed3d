-- What a search that has ended says of a delete.
use Rattle.std.proofs.Common.{Ok, Err, ◌≡◌, ℕ, Bool, true, false, ◌&&◌, inl, inr, List, [], ◌∷◌, Option, Some, None, if◌then◌else◌, refl, sym, ap, ◌∙◌}
use Rattle.std.specs.Prelude.{not, cond, filter, find, map}
use Rattle.std.specs.List.{list_any, filter_map}
use Rattle.std.specs.Option.{option_map}
use Rattle.std.proofs.lemmas.Bool.{and_from, and_parts, not-true}
use Rattle.closure.specs.Closure.{IsIn}
use Rattle.closure.proofs.Laws.{Agree, filter_agree_on}
use Rattle.closure.proofs.Members.{Found, any_of, of_filter}
use Rattle.shop_defs.specs.declared.broken.Broken.TheVariants as B
use Rattle.shop_defs.specs.declared.key.Key.{Key}
use Rattle.shop_defs.specs.declared.row.Row.{Row}
use Rattle.shop_defs.specs.declared.table.Reference.{Reference}
use Rattle.shop_defs.specs.Joined.{Change}
use Rattle.shop_defs.specs.Rows.{row_key}
use Rattle.shop_operations.specs.References.{holds_back}
use Rattle.shop_operations.specs.Deletes.{goes, gone, in_use, is_emptied, deleted, loses_field, losing}
use Rattle.shop_operations.specs.Operations.{unless, in_use_by}
use Rattle.shop_operations.specs.Views.{View, IsInPlaceOrder, change_places}
use Rattle.shop_rows.specs.Changing.{HasAscendingKeys}
use Rattle.shop_write.specs.declared.place.Place.{Place}
use Rattle.shop_write.specs.declared.worklist.Affected.{Affected}
use Rattle.shop_write.specs.Places.{row_place, key_at, stands_among}
use Rattle.shop_write.specs.Searching.{IsTouched}
use Rattle.shop_write.specs.Deleting.{holds_lost, loses, rest_of, or_first, first_of, holder, holder_at, AreChangesOf, IsCovered, Reaches, removal}
use Rattle.shop_write.proofs.Standing.{row_in_found, stands_itself}
use Rattle.shop_write.proofs.Puts.{rest_same}
use Rattle.shop_write.proofs.Leading.{changes_left, stand_left, keys_left}
use Rattle.shop_write.proofs.Losing.{among_is, rest_is, rest_keeps, holds_is, loses_is, holds_refers, emptied_refers, RefersToOne}

-- ---- lists

find_agree : {X : Type 0} (p q : X → Bool) (xs : List X) → Agree p q xs → find p xs ≡ find q xs
find_agree p q [] a = refl
find_agree p q (x ∷ xs) a = rw (a x (inl refl), find_agree p q xs (λ y i. a y (inr i))) refl

-- what passes both tests, looked for among what passes one
find_filter : {X : Type 0} (p q : X → Bool) (xs : List X) → find p (filter q xs) ≡ find (λ x. q x && p x) xs
find_filter p q [] = refl
find_filter {X} p q (x ∷ xs) = by (find_filter p q xs) (q x) (p x)
  where
    by : find p (filter q xs) ≡ find (λ y. q y && p y) xs → (a b : Bool) → find p (cond a (x ∷ filter q xs) (filter q xs)) ≡ cond (a && p x) (Some x) (find (λ y. q y && p y) xs)
    by more true b = ap (cond (p x) (Some x)) more
    by more false b = more

filter_filter : {X : Type 0} (p q : X → Bool) (xs : List X) → filter p (filter q xs) ≡ filter (λ x. q x && p x) xs
filter_filter p q [] = refl
filter_filter {X} p q (x ∷ xs) = by (filter_filter p q xs) (q x)
  where
    by : filter p (filter q xs) ≡ filter (λ y. q y && p y) xs → (a : Bool) → filter p (cond a (x ∷ filter q xs) (filter q xs)) ≡ cond (a && p x) (x ∷ filter (λ y. q y && p y) xs) (filter (λ y. q y && p y) xs)
    by more true = ap (λ ys. cond (p x) (x ∷ ys) ys) more
    by more false = more

-- the first that a function gives, where it gives the key of what passes
first_passing : (f : Row → Option Key) (p : Row → Bool) (rows : List Row) → ((row : Row) → IsIn row rows → f row ≡ (if p row then Some row.key else None)) → first_of f rows ≡ option_map row_key (find p rows)
first_passing f p [] h = refl
first_passing f p (row ∷ rest) h = rw (h row (inl refl), first_passing f p rest (λ r i. h r (inr i))) (by (p row))
  where
    by : (b : Bool) → or_first (if b then Some row.key else None) (option_map row_key (find p rest)) ≡ option_map row_key (cond b (Some row) (find p rest))
    by true = refl
    by false = refl

first_map : (f : Place → Option Key) (rows : List Row) → first_of f (map row_place rows) ≡ first_of (λ row. f (row_place row)) rows
first_map f [] = refl
first_map f (row ∷ rest) = ap (or_first (f (row_place row))) (first_map f rest)

same_tests : (a b : Bool) → (a ≡ true → b ≡ true) → (b ≡ true → a ≡ true) → a ≡ b
same_tests true true f g = refl
same_tests false false f g = refl
same_tests true false f g = sym (f refl)
same_tests false true f g = g refl

-- ---- a search that has ended

module _ (table : List Reference) (rows : List Row) (key : Key) (search : Affected) (up : IsInPlaceOrder rows) (t : IsTouched table rows key search) where
  is_lost : (row : Row) → IsIn row rows → stands_among search.lost row ≡ goes table rows key row
  is_lost row i = ap (λ (places : List Place). stands_among places row) t.lost ∙ among_is table rows key up row i

  -- a row that stays and refers to one that goes is near
  is_near : (row : Row) → IsIn row rows → goes table rows key row ≡ false → RefersToOne table (gone table rows key) row → stands_among search.near row ≡ true
  is_near row i stays r = let there = of_filter (goes table rows key) rows r.other r.is_in in t.covers row r.other i there.is_in stays there.passes r.refers

  -- the row stays and holds back one that goes
  abbrev holds : Row → Bool
  holds row = not (stands_among search.lost row) && holds_lost table search.lost row

  holds_both : (row : Row) → IsIn row rows → holds row ≡ (not (goes table rows key row) && list_any (holds_back table row) (gone table rows key))
  holds_both row i = rw (is_lost row i, t.lost, holds_is table (gone table rows key) row) refl

  holds_near : (row : Row) → IsIn row rows → holds row ≡ true → stands_among search.near row ≡ true
  holds_near row i h =
      let parts = and_parts (not (goes table rows key row)) (list_any (holds_back table row) (gone table rows key)) (sym (holds_both row i) ∙ h) in
      is_near row i (not-true _ parts.0) (refers (any_of (holds_back table row) (gone table rows key) parts.1))
    where
      refers : Found (holds_back table row) (gone table rows key) → RefersToOne table (gone table rows key) row
      refers f = record { other = f.one; is_in = f.is_in; refers = holds_refers table row f.one f.passes }

  -- the first of the near rows that holds back one that goes is the first of all
  pub first_holds : (version : ℕ) → first_of (holder_at table rows version search.lost) search.near ≡ option_map row_key (in_use table rows key)
  first_holds version =
      ap (first_of (holder_at table rows version search.lost)) t.near
      ∙ (first_map (holder_at table rows version search.lost) (filter (stands_among search.near) rows)
      ∙ (first_passing (λ row. holder_at table rows version search.lost (row_place row)) holds (filter (stands_among search.near) rows) (λ row i. looked row (of_filter (stands_among search.near) rows row i).is_in)
      ∙ ap (option_map row_key) (find_filter holds (stands_among search.near) rows
      ∙ (find_agree (λ row. stands_among search.near row && holds row) (λ row. not (goes table rows key row) && list_any (holds_back table row) (gone table rows key)) rows (λ row i. both row i ∙ holds_both row i)
      ∙ sym (find_filter (λ row. list_any (holds_back table row) (gone table rows key)) (λ row. not (goes table rows key row)) rows)))))
    where
      looked : (row : Row) → IsIn row rows → holder_at table rows version search.lost (row_place row) ≡ (if holds row then Some row.key else None)
      looked row i = ap (holder table search.lost) (row_in_found rows (key_at version (row_place row)) row up i (stands_itself row))

      both : (row : Row) → IsIn row rows → (stands_among search.near row && holds row) ≡ holds row
      both row i = same_tests (stands_among search.near row && holds row) (holds row) (λ h. (and_parts (stands_among search.near row) (holds row) h).1) (λ h. and_from (stands_among search.near row) (holds row) (holds_near row i h) h)

  -- a row that stays and loses a field is near
  pub loses_near : (row : Row) → IsIn row rows → stands_among search.lost row ≡ false → loses table search.lost row ≡ true → stands_among search.near row ≡ true
  loses_near row i stays h = is_near row i (sym (is_lost row i) ∙ stays) (refers (any_of (λ entry. is_emptied table (gone table rows key) row entry.0) row.fields (sym (ap (λ (places : List Place). loses table places row) t.lost ∙ loses_is table (gone table rows key) row) ∙ h)))
    where
      refers : Found (λ entry. is_emptied table (gone table rows key) row entry.0) row.fields → RefersToOne table (gone table rows key) row
      refers f = emptied_refers table (gone table rows key) row f.one.0 f.passes

  -- where the changes of the rows that go and of the near ones are there, nothing else is to be changed
  pub all_covered : (changes : List Change) → ((row : Row) → IsIn row rows → stands_among search.lost row ≡ true → IsCovered (rest_of table search.lost) changes row) → ((row : Row) → IsIn row rows → stands_among search.near row ≡ true → IsCovered (rest_of table search.lost) changes row) → (row : Row) → IsIn row rows → IsCovered (rest_of table search.lost) changes row
  all_covered changes lost near row i = by (stands_among search.lost row) refl (loses table search.lost row) refl
    where
      by : (a : Bool) → stands_among search.lost row ≡ a → (b : Bool) → loses table search.lost row ≡ b → IsCovered (rest_of table search.lost) changes row
      by true e b f = lost row i e
      by false e true f = near row i (loses_near row i e f)
      by false e false f = inl (rest_same table search.lost row e f)

  -- and then they lead to the rows that a delete leaves
  pub leads : (changes : List Change) → AreChangesOf (rest_of table search.lost) rows changes → ((row : Row) → IsIn row rows → IsCovered (rest_of table search.lost) changes row) → change_places rows changes ≡ deleted table rows key
  leads changes of covered =
      changes_left (rest_of table search.lost) rows changes (rest_keeps table search.lost) up of covered
      ∙ (ap (λ (places : List Place). filter_map (rest_of table places) rows) t.lost ∙ rest_is table rows key up)

  -- the near rows that stay and lose a field are all that do
  pub losing_near : filter (λ row. not (stands_among search.lost row) && loses table search.lost row) (filter (stands_among search.near) rows) ≡ losing table rows key
  losing_near =
      filter_filter (λ row. not (stands_among search.lost row) && loses table search.lost row) (stands_among search.near) rows
      ∙ (filter_agree_on (λ row. stands_among search.near row && (not (stands_among search.lost row) && loses table search.lost row)) (λ row. not (goes table rows key row) && loses_field table rows key row) rows (λ row i. both row i ∙ one row i)
      ∙ sym (filter_filter (loses_field table rows key) (λ row. not (goes table rows key row)) rows))
    where
      one : (row : Row) → IsIn row rows → (not (stands_among search.lost row) && loses table search.lost row) ≡ (not (goes table rows key row) && loses_field table rows key row)
      one row i = rw (is_lost row i, t.lost, loses_is table (gone table rows key) row) refl

      both : (row : Row) → IsIn row rows → (stands_among search.near row && (not (stands_among search.lost row) && loses table search.lost row)) ≡ (not (stands_among search.lost row) && loses table search.lost row)
      both row i = same_tests _ _ (λ h. (and_parts (stands_among search.near row) _ h).1) (λ h.
          let parts = and_parts (not (stands_among search.lost row)) (loses table search.lost row) h in
          and_from (stands_among search.near row) _ (loses_near row i (not-true _ parts.0) parts.1) h)

-- the changes of a delete lead to the rows that it leaves
pub reaches : (table : List Reference) (view : View) (key : Key) (search : Affected) → IsInPlaceOrder view.rows → IsTouched table view.rows key search → (changes : List Change) → HasAscendingKeys changes → AreChangesOf (rest_of table search.lost) view.rows changes → ((row : Row) → IsIn row view.rows → stands_among search.lost row ≡ true → IsCovered (rest_of table search.lost) changes row) → ((row : Row) → IsIn row view.rows → stands_among search.near row ≡ true → IsCovered (rest_of table search.lost) changes row) → Reaches view (Ok (deleted table view.rows key)) changes
reaches table view key search up t changes ascends of lost near = record {
  rows = ap Ok (sym (leads table view.rows key search up t changes of (all_covered table view.rows key search up t changes lost near)));
  ascends = ascends;
  stand = stand_left (rest_of table search.lost) view.rows changes (rest_keeps table search.lost) up of;
  keys = keys_left (rest_of table search.lost) view.rows changes (rest_keeps table search.lost) up of view refl;
}

-- a row that holds a delete back is named
pub removal_held : (table : List Reference) (rows : List Row) (key by : Key) → Some by ≡ option_map row_key (in_use table rows key) → removal table rows key ≡ Err (B.InUse by)
removal_held table rows key by e = cases (in_use table rows key) e
  where
    cases : (row : Option Row) → Some by ≡ option_map row_key row → unless (deleted table rows key) (in_use_by row) ≡ Err (B.InUse by)
    cases None h = cc
    cases (Some row) h = let same : by ≡ row.key = cc in ap (λ (k : Key). Err (B.InUse k)) (sym same)

-- where none holds it back, it is done
pub removal_free : (table : List Reference) (rows : List Row) (key : Key) → None ≡ option_map row_key (in_use table rows key) → removal table rows key ≡ Ok (deleted table rows key)
removal_free table rows key e = cases (in_use table rows key) e
  where
    cases : (row : Option Row) → None ≡ option_map row_key row → unless (deleted table rows key) (in_use_by row) ≡ Ok (deleted table rows key)
    cases None h = refl
    cases (Some row) h = cc
