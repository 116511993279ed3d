-- Live rows that are put in place of others.
use Rattle.std.proofs.Common.{◌≡◌, Bool, true, false, List, length, Option, Some, None, if◌then◌else◌, not, refl, sym, ap, ◌∙◌}
use Rattle.std.specs.Prelude.{◌&&◌, filter}
use Rattle.std.proofs.lemmas.Bool.{eqb-true}
use Rattle.std.proofs.lemmas.List.Sums.{length-filter}
use Rattle.shop_defs.specs.declared.entity.Entity.{Entity}
use Rattle.shop_defs.specs.declared.key.Key.{Key}
use Rattle.shop_defs.specs.declared.row.Row.{Row}
use Rattle.shop_defs.specs.Keys.{key_cmp}
use Rattle.shop_defs.specs.Rows.{row_key, row_at, IsInKeyOrder}
use Rattle.shop_defs.proofs.Keys.{key_cmp_total}
use Rattle.shop_operations.specs.References.{is_entity, is_live, live}
use Rattle.shop_operations.specs.Views.{drafted, count_hidden}
use Rattle.shop_write.proofs.InOrder.{guard, later, found_key, find_filter, ascends_filter, same_from_find, ascends_puts, find_puts}
use Rattle.shop_write.proofs.LivePlaces.{same_version, guard_live}
use Rattle.shop_write.proofs.LiveLooks.{filter_both}
use Rattle.shop_write.proofs.Growths.{filter_swap}
use Rattle.shop_core.specs.Steps.{with_live, LiveRowsAreReplaced}

abbrev is_drafted : Row → Bool
is_drafted row = not (is_live row)

row_at-live : (rows : List Row) (key : Key) → IsInKeyOrder rows → row_at (live rows) key ≡ guard is_live (row_at rows key)
row_at-live rows key up = find_filter key_cmp row_key key_cmp_total is_live rows key up

row_at-drafted : (rows : List Row) (key : Key) → IsInKeyOrder rows → row_at (drafted rows) key ≡ guard is_drafted (row_at rows key)
row_at-drafted rows key up = find_filter key_cmp row_key key_cmp_total is_drafted rows key up

live_up : (rows : List Row) → IsInKeyOrder rows → IsInKeyOrder (live rows)
live_up rows up = ascends_filter key_cmp row_key key_cmp_total is_live rows up

drafted_up : (rows : List Row) → IsInKeyOrder rows → IsInKeyOrder (drafted rows)
drafted_up rows up = ascends_filter key_cmp row_key key_cmp_total is_drafted rows up

-- they stand in key order
pub with_live_up : (rows now : List Row) → IsInKeyOrder rows → IsInKeyOrder (with_live rows now)
with_live_up rows now up = ascends_puts key_cmp row_key key_cmp_total now (drafted rows) (drafted_up rows up)

-- at a key stands the live row that is put there, or else the row of a draft
row_at-with_live : (rows now : List Row) (key : Key) → IsInKeyOrder rows → IsInKeyOrder now → row_at (with_live rows now) key ≡ later (guard is_drafted (row_at rows key)) (row_at now key)
row_at-with_live rows now key up now_up =
    find_puts key_cmp row_key key_cmp_total now (drafted rows) key now_up
    ∙ ap (λ (found : Option Row). later found (row_at now key)) (row_at-drafted rows key up)

-- no row of a draft is live
drafted_none : (found : Option Row) → guard is_live (guard is_drafted found) ≡ None
drafted_none None = refl
drafted_none (Some row) = by (is_live row) refl
  where
    by : (b : Bool) → is_live row ≡ b → guard is_live (if not b then Some row else None) ≡ None
    by true e = refl
    by false e = rw e refl

drafted_twice : (found : Option Row) → guard is_drafted (guard is_drafted found) ≡ guard is_drafted found
drafted_twice None = refl
drafted_twice (Some row) = by (is_live row) refl
  where
    by : (b : Bool) → is_live row ≡ b → guard is_drafted (if not b then Some row else None) ≡ (if not b then Some row else None)
    by true e = refl
    by false e = rw e refl

-- the live rows are those that are put
pub live-with_live : (rows now : List Row) → IsInKeyOrder rows → IsInKeyOrder now → live now ≡ now → live (with_live rows now) ≡ now
live-with_live rows now up now_up all =
    same_from_find key_cmp row_key key_cmp_total (live (with_live rows now)) now (live_up (with_live rows now) (with_live_up rows now up)) now_up
    (λ key. row_at-live (with_live rows now) key (with_live_up rows now up)
    ∙ (ap (guard is_live) (row_at-with_live rows now key up now_up) ∙ by key (row_at now key) refl))
  where
    by : (key : Key) (found : Option Row) → row_at now key ≡ found → guard is_live (later (guard is_drafted (row_at rows key)) found) ≡ found
    by key None e = drafted_none (row_at rows key)
    by key (Some row) e = ap (guard is_live) (sym e) ∙ (sym (row_at-live now key now_up) ∙ (ap (λ (l : List Row). row_at l key) all ∙ e))

-- a row that is live, of the live version
passing_live : (row : Row) → guard is_live (Some row) ≡ Some row → is_live row ≡ true
passing_live row e = by (is_live row) e
  where
    by : (b : Bool) → (if b then Some row else None) ≡ Some row → b ≡ true
    by true e = refl
    by false e = absurd (cc)

live_none : (found : Option Row) → guard is_drafted (guard is_live found) ≡ None
live_none None = refl
live_none (Some row) = by (is_live row) refl
  where
    by : (b : Bool) → is_live row ≡ b → guard is_drafted (if b then Some row else None) ≡ None
    by true e = rw e refl
    by false e = refl

-- the rows of drafts are those that were there
pub drafted-with_live : (rows now : List Row) → IsInKeyOrder rows → IsInKeyOrder now → live now ≡ now → drafted (with_live rows now) ≡ drafted rows
drafted-with_live rows now up now_up all =
    same_from_find key_cmp row_key key_cmp_total (drafted (with_live rows now)) (drafted rows) (drafted_up (with_live rows now) (with_live_up rows now up)) (drafted_up rows up)
    (λ key. row_at-drafted (with_live rows now) key (with_live_up rows now up)
    ∙ (ap (guard is_drafted) (row_at-with_live rows now key up now_up)
    ∙ (by key (row_at now key) refl ∙ sym (row_at-drafted rows key up))))
  where
    by : (key : Key) (found : Option Row) → row_at now key ≡ found → guard is_drafted (later (guard is_drafted (row_at rows key)) found) ≡ guard is_drafted (row_at rows key)
    by key None e = drafted_twice (row_at rows key)
    by key (Some row) e =
        let stays : guard is_live (Some row) ≡ Some row = ap (guard is_live) (sym e) ∙ (sym (row_at-live now key now_up) ∙ (ap (λ (l : List Row). row_at l key) all ∙ e)) in
        let lives : is_live row ≡ true = passing_live row stays in
        let version : key.version ≡ 0 = sym (same_version row.key key (found_key key_cmp row_key key_cmp_total now key row e)) ∙ eqb-true row.key.version 0 lives in
        let goes : guard is_drafted (Some row) ≡ None = rw lives refl in
        goes ∙ (sym (live_none (row_at rows key)) ∙ ap (guard is_drafted) (guard_live rows key version))

pub live_rows_are_replaced : LiveRowsAreReplaced
live_rows_are_replaced = record { live_rows = live-with_live; others = drafted-with_live; order = with_live_up }

-- ---- rows with the same drafts

-- rows are their live rows put among their drafts
pub with_live_same : (rows now : List Row) → IsInKeyOrder rows → IsInKeyOrder now → drafted now ≡ drafted rows → with_live rows (live now) ≡ now
with_live_same rows now up now_up same =
    same_from_find key_cmp row_key key_cmp_total (with_live rows (live now)) now (with_live_up rows (live now) up) now_up
    (λ key. find_puts key_cmp row_key key_cmp_total (live now) (drafted rows) key (live_up now now_up)
    ∙ (ap (λ (l : List Row). later (row_at l key) (row_at (live now) key)) (sym same)
    ∙ (rw (row_at-drafted now key now_up, row_at-live now key now_up) (by (row_at now key)))))
  where
    row_by : (row : Row) (b : Bool) → later (if not b then Some row else None) (if b then Some row else None) ≡ Some row
    row_by row true = refl
    row_by row false = refl

    by : (found : Option Row) → later (guard is_drafted found) (guard is_live found) ≡ found
    by None = refl
    by (Some row) = row_by row (is_live row)

-- and of each entity they hide as many
pub count_hidden_same : (rows now : List Row) (entity : Entity) → drafted now ≡ drafted rows → count_hidden now entity ≡ count_hidden rows entity
count_hidden_same rows now entity same = counted now ∙ (ap (λ (l : List Row). length (filter of_entity l)) same ∙ sym (counted rows))
  where
    of_entity : Row → Bool
    of_entity row = is_entity entity row.key.entity

    counted : (l : List Row) → count_hidden l entity ≡ length (filter of_entity (drafted l))
    counted l = sym (length-filter (λ row. of_entity row && is_drafted row) l) ∙ (sym (ap length (filter_both of_entity is_drafted l)) ∙ ap length (filter_swap is_drafted of_entity l))
