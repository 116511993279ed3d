-- What is looked up in the live rows while a batch changes them.
use Rattle.std.proofs.Common.{◌≡◌, ◌+◌, Bool, true, false, List, [], ◌∷◌, length, refl, sym, ap, ◌∙◌, Option, Some, None, if◌then◌else◌, not, arith}
use Rattle.std.specs.Prelude.{filter, map, count_by, is_some, is_none}
use Rattle.std.specs.Option.{option_map}
use Rattle.std.specs.List.{AllByRecursion, fold}
use Rattle.std.specs.declared.cmp.Ordering.TheVariants.{Less}
use Rattle.std.specs.Ordering.{is_eq}
use Rattle.std.proofs.lemmas.Bool.{false≢true}
use Rattle.std.proofs.lemmas.List.Sums.{length-filter}
use Rattle.std.proofs.lemmas.List.Filters.{length-filter_both}
use Rattle.keyed.specs.Keyed.{Ascends, put}
use Rattle.shop_defs.specs.declared.key.Key.{Key}
use Rattle.shop_defs.specs.declared.row.Row.{Row}
use Rattle.shop_defs.specs.Joined.{Change, change_key, change_at}
use Rattle.shop_defs.specs.Keys.{key_cmp}
use Rattle.shop_defs.specs.Rows.{row_key, row_at, change_rows, IsInKeyOrder}
use Rattle.shop_defs.proofs.Keys.{key_cmp_total}
use Rattle.shop_operations.specs.References.{is_live, live}
use Rattle.shop_operations.specs.Upserts.{row_in}
use Rattle.shop_operations.specs.Views.{IsInPlaceOrder}
use Rattle.shop_rows.specs.Changing.{row_after, StandsUnderItsKey, StandUnderTheirKeys, HasAscendingKeys}
use Rattle.shop_rows.proofs.ChangedRows.{in_order-change_rows, row_at-change_rows, last_in-ascending}
use Rattle.shop_write.specs.Growth.{AreLive, taken_out, put_in, changes_of, Growth, changes_so_far, grown, IsGrowth, is_kept, merged_keys, at_live, left_by}
use Rattle.shop_write.proofs.InOrder.{guard, later, found_key, find_as, find_filter, ascends_filter, same_from_find, ascends_puts, find_puts, filter_puts, length_puts, map_puts, map_filter, ascends_map, all_puts}
use Rattle.shop_write.proofs.LivePlaces.{AllLive, row_in-live, live_in_order}

-- of two tests, either may be tried first
pub filter_swap : {X : Type 0} (p q : X → Bool) (xs : List X) → filter p (filter q xs) ≡ filter q (filter p xs)
filter_swap p q [] = refl
filter_swap {X} p q (x ∷ xs) = by (filter_swap p q xs) (p x) refl (q x) refl
  where
    by : filter p (filter q xs) ≡ filter q (filter p xs) → (b : Bool) → p x ≡ b → (c : Bool) → q x ≡ c → filter p (filter q (x ∷ xs)) ≡ filter q (filter p (x ∷ xs))
    by more true e true f = rw (e, f, e) (ap (λ ys. x ∷ ys) more)
    by more true e false f = rw (e, f) more
    by more false e true f = rw (e, f, e) more
    by more false e false f = rw (e, f) more

-- ---- a list of changes made of rows

-- a change of a row, at the row's key
all_changes : (P : Change → Type 0) (f : Row → Change) (rows : List Row) → AllByRecursion (λ row. P (f row)) rows → AllByRecursion P (map f rows)
all_changes P f [] all = tt
all_changes P f (row ∷ rows) all = (all.0, all_changes P f rows all.1)

any_row : (P : Row → Type 0) (rows : List Row) → ((row : Row) → P row) → AllByRecursion P rows
any_row P [] f = tt
any_row P (row ∷ rows) f = (f row, any_row P rows f)

taken_ascend : (rows : List Row) → IsInKeyOrder rows → HasAscendingKeys (map taken_out rows)
taken_ascend [] up = tt
taken_ascend (row ∷ rows) up = (all_changes (λ change. key_cmp row.key change.0 ≡ Less) taken_out rows up.0, taken_ascend rows up.1)

put_ascend : (rows : List Row) → IsInKeyOrder rows → HasAscendingKeys (map put_in rows)
put_ascend [] up = tt
put_ascend (row ∷ rows) up = (all_changes (λ change. key_cmp row.key change.0 ≡ Less) put_in rows up.0, put_ascend rows up.1)

change_at-taken : (rows : List Row) (key : Key) → change_at (map taken_out rows) key ≡ option_map taken_out (row_at rows key)
change_at-taken [] key = refl
change_at-taken (row ∷ rows) key = by (change_at-taken rows key) (is_eq (key_cmp row.key key))
  where
    by : change_at (map taken_out rows) key ≡ option_map taken_out (row_at rows key) → (b : Bool) → (if b then Some (taken_out row) else change_at (map taken_out rows) key) ≡ option_map taken_out (if b then Some row else row_at rows key)
    by more true = refl
    by more false = more

change_at-put : (rows : List Row) (key : Key) → change_at (map put_in rows) key ≡ option_map put_in (row_at rows key)
change_at-put [] key = refl
change_at-put (row ∷ rows) key = by (change_at-put rows key) (is_eq (key_cmp row.key key))
  where
    by : change_at (map put_in rows) key ≡ option_map put_in (row_at rows key) → (b : Bool) → (if b then Some (put_in row) else change_at (map put_in rows) key) ≡ option_map put_in (if b then Some row else row_at rows key)
    by more true = refl
    by more false = more

-- ---- the changes so far

module _ (lost over : List Row) (lost_order : IsInKeyOrder lost) (over_order : IsInKeyOrder over) where
  pub changes_ascend : HasAscendingKeys (changes_of lost over)
  changes_ascend = ascends_puts key_cmp change_key key_cmp_total (map put_in over) (map taken_out lost) (taken_ascend lost lost_order)

  pub changes_stand : StandUnderTheirKeys (changes_of lost over)
  changes_stand = all_puts key_cmp change_key key_cmp_total StandsUnderItsKey (map put_in over) (map taken_out lost) (all_changes StandsUnderItsKey taken_out lost (any_row (λ row. Unit {0}) lost (λ row. tt))) (all_changes StandsUnderItsKey put_in over (any_row (λ row. row.key ≡ row.key) over (λ row. refl)))

  pub changes_live : AllLive lost → AllLive over → AreLive (changes_of lost over)
  changes_live gone stay = all_puts key_cmp change_key key_cmp_total (λ change. change.0.version ≡ 0) (map put_in over) (map taken_out lost) (all_changes (λ change. change.0.version ≡ 0) taken_out lost gone) (all_changes (λ change. change.0.version ≡ 0) put_in over stay)

  -- the change at a key
  pub change_at-changes : (key : Key) → change_at (changes_of lost over) key ≡ later (option_map taken_out (row_at lost key)) (option_map put_in (row_at over key))
  change_at-changes key =
      find_puts key_cmp change_key key_cmp_total (map put_in over) (map taken_out lost) key (put_ascend over over_order)
      ∙ (ap (λ (found : Option Change). later found (change_at (map put_in over) key)) (change_at-taken lost key)
      ∙ ap (later (option_map taken_out (row_at lost key))) (change_at-put over key))

  -- what they leave at a key
  pub row_at-changes : (base : List Row) (key : Key) → IsInKeyOrder base → row_at (change_rows base (changes_of lost over)) key ≡ left_by (row_at base key) (row_at lost key) (row_at over key)
  row_at-changes base key up =
      row_at-change_rows (changes_of lost over) base up changes_stand key
      ∙ (ap (λ (change : Option Change). row_after change (row_at base key)) (last_in-ascending (changes_of lost over) key changes_ascend ∙ change_at-changes key)
      ∙ by (row_at lost key) (row_at over key))
    where
      by : (l o : Option Row) → row_after (later (option_map taken_out l) (option_map put_in o)) (row_at base key) ≡ left_by (row_at base key) l o
      by l (Some row) = refl
      by (Some row) None = refl
      by None None = refl

-- ---- the rows as they are left

module _ (growth : Growth) (is : IsGrowth growth) where
  -- the rows that the batch left as they were
  abbrev pub kept_row : Row → Bool
  kept_row row = is_kept growth.lost row.key

  abbrev pub untouched : List Row
  untouched = filter kept_row (live growth.base)

  live_up : IsInKeyOrder (live growth.base)
  live_up = ascends_filter key_cmp row_key key_cmp_total is_live growth.base is.base_order

  untouched_up : IsInKeyOrder untouched
  untouched_up = ascends_filter key_cmp row_key key_cmp_total kept_row (live growth.base) live_up

  -- at a key where nothing is lost
  abbrev unless_lost : Option Row → Option Row → Option Row
  unless_lost None row = row
  unless_lost (Some lost) row = None

  -- what is kept of what is found at a key
  kept_at : (rows : List Row) (key : Key) → guard kept_row (row_at rows key) ≡ unless_lost (row_at growth.lost key) (row_at rows key)
  kept_at rows key = by (row_at rows key) refl
    where
      ends : (row : Row) (l : Option Row) → (if is_none l then Some row else None) ≡ unless_lost l (Some row)
      ends row None = refl
      ends row (Some lost) = refl

      never : (l : Option Row) → None ≡ unless_lost l None
      never None = refl
      never (Some lost) = refl

      by : (found : Option Row) → row_at rows key ≡ found → guard kept_row found ≡ unless_lost (row_at growth.lost key) found
      by None e = never (row_at growth.lost key)
      by (Some row) e = rw (find_as key_cmp row_key key_cmp_total growth.lost row.key key (found_key key_cmp row_key key_cmp_total rows key row e)) (ends row (row_at growth.lost key))

  row_at-live : (rows : List Row) (key : Key) → IsInKeyOrder rows → row_at (live rows) key ≡ guard is_live (row_at rows key)
  row_at-live rows key up = find_filter key_cmp row_key key_cmp_total is_live rows key up

  -- what was untouched at a key
  row_at-untouched : (key : Key) → row_at untouched key ≡ unless_lost (row_at growth.lost key) (guard is_live (row_at growth.base key))
  row_at-untouched key =
      find_filter key_cmp row_key key_cmp_total kept_row (live growth.base) key live_up
      ∙ (kept_at (live growth.base) key ∙ ap (unless_lost (row_at growth.lost key)) (row_at-live growth.base key is.base_order))

  -- where a row is put nothing is untouched
  free : (key : Key) (row : Row) → row_at growth.over key ≡ Some row → row_at untouched key ≡ None
  free key row e = row_at-untouched key ∙ (ap (λ l. unless_lost l (guard is_live (row_at growth.base key))) (is.replaced key row e) ∙ by (row_at growth.base key))
    where
      by : (found : Option Row) → unless_lost found (guard is_live found) ≡ None
      by None = refl
      by (Some row) = refl

  -- what is put is live
  over_at : (key : Key) → guard is_live (row_at growth.over key) ≡ row_at growth.over key
  over_at key = sym (row_at-live growth.over key is.over_order) ∙ ap (λ rows. row_at rows key) is.over_live

  -- the rows are those that are untouched, and those that are put
  pub grown_is : grown growth ≡ fold (put key_cmp row_key) untouched growth.over
  unfolding grown
  grown_is =
      same_from_find key_cmp row_key key_cmp_total _ (fold (put key_cmp row_key) untouched growth.over)
      (ascends_filter key_cmp row_key key_cmp_total is_live _ changed_up)
      (ascends_puts key_cmp row_key key_cmp_total growth.over untouched untouched_up)
      (λ key. row_at-live (change_rows growth.base (changes_so_far growth)) key changed_up
      ∙ (ap (guard is_live) (row_at-changes growth.lost growth.over is.lost_order is.over_order growth.base key is.base_order)
      ∙ (by key (row_at growth.lost key) (row_at growth.over key) refl
      ∙ (ap (λ (found : Option Row). later found (row_at growth.over key)) (sym (row_at-untouched key))
      ∙ sym (find_puts key_cmp row_key key_cmp_total growth.over untouched key is.over_order)))))
    where
      changed_up : IsInKeyOrder (change_rows growth.base (changes_so_far growth))
      changed_up = in_order-change_rows (changes_so_far growth) growth.base is.base_order

      by : (key : Key) (l o : Option Row) → row_at growth.over key ≡ o → guard is_live (left_by (row_at growth.base key) l o) ≡ later (unless_lost l (guard is_live (row_at growth.base key))) o
      by key l (Some row) e = ap (guard is_live) (sym e) ∙ (over_at key ∙ e)
      by key (Some row) None e = refl
      by key None None e = refl

  -- the rows of which a test holds
  pub filter-grown : (p : Row → Bool) → filter p (grown growth) ≡ fold (put key_cmp row_key) (filter p untouched) (filter p growth.over)
  filter-grown p = ap (filter p) grown_is ∙ filter_puts key_cmp row_key key_cmp_total p untouched growth.over untouched_up is.over_order free

  -- the row at a key
  pub row_in-grown : (key : Key) → row_in (grown growth) key ≡ left_by (row_at growth.base (at_live key)) (row_at growth.lost (at_live key)) (row_at growth.over (at_live key))
  unfolding grown
  row_in-grown key =
      row_in-live (change_rows growth.base (changes_so_far growth)) key (in_order-change_rows (changes_so_far growth) growth.base is.base_order)
      ∙ row_at-changes growth.lost growth.over is.lost_order is.over_order growth.base (at_live key) is.base_order

  -- they are in the order of places
  pub grown_in_order : IsInPlaceOrder (grown growth)
  unfolding grown
  grown_in_order = live_in_order (change_rows growth.base (changes_so_far growth)) (in_order-change_rows (changes_so_far growth) growth.base is.base_order)

  -- the keys of the rows of which a test holds
  pub keys-grown : (p : Row → Bool) → map row_key (filter p (grown growth)) ≡ merged_keys growth.lost (map row_key (filter p (live growth.base))) (map row_key (filter p growth.over))
  keys-grown p =
      ap (map row_key) (filter-grown p)
      ∙ (map_puts key_cmp row_key key_cmp_total (filter p growth.over) (filter p untouched)
      ∙ ap (λ keys. fold (put key_cmp (λ (key : Key). key)) keys (map row_key (filter p growth.over)))
      (ap (map row_key) (filter_swap p kept_row (live growth.base)) ∙ map_filter key_cmp row_key key_cmp_total (is_kept growth.lost) (filter p (live growth.base))))

  -- the keys that are merged ascend
  pub keys_up : (p : Row → Bool) (rows : List Row) → IsInKeyOrder rows → Ascends key_cmp (λ key. key) (map row_key (filter p rows))
  keys_up p rows up = ascends_map key_cmp row_key key_cmp_total (filter p rows) (ascends_filter key_cmp row_key key_cmp_total p rows up)

  -- the keys that are looked up in what is put ascend
  pub over_keys_up : (p : Row → Bool) (keys : List Key) → keys ≡ map row_key (filter p (live growth.over)) → Ascends key_cmp (λ key. key) keys
  over_keys_up p keys e =
      let all : keys ≡ map row_key (filter p growth.over) = e ∙ ap (λ rows. map row_key (filter p rows)) is.over_live in
      rw all (keys_up p growth.over is.over_order)

  -- what is looked up in the base and in what is put, merged
  pub merged_is : (p : Row → Bool) (merged keys over : List Key) → merged ≡ merged_keys growth.lost keys over
      → keys ≡ map row_key (filter p (live growth.base)) → over ≡ map row_key (filter p (live growth.over)) → merged ≡ map row_key (filter p (grown growth))
  merged_is p merged keys over e f g =
      let all : over ≡ map row_key (filter p growth.over) = g ∙ ap (λ rows. map row_key (filter p rows)) is.over_live in
      e ∙ (rw (f, all) refl ∙ sym (keys-grown p))

  abbrev lost_row : Row → Bool
  lost_row row = is_some (row_at growth.lost row.key)

  -- the live rows that are lost
  lost_is : filter lost_row (live growth.base) ≡ growth.lost
  lost_is =
      same_from_find key_cmp row_key key_cmp_total _ growth.lost
      (ascends_filter key_cmp row_key key_cmp_total lost_row (live growth.base) live_up) is.lost_order
      (λ key. find_filter key_cmp row_key key_cmp_total lost_row (live growth.base) key live_up
      ∙ (ap (guard lost_row) (row_at-live growth.base key is.base_order)
      ∙ by key (row_at growth.lost key) refl (row_at growth.base key) refl))
    where
      lost_at : (key : Key) → guard is_live (row_at growth.lost key) ≡ row_at growth.lost key
      lost_at key = sym (row_at-live growth.lost key is.lost_order) ∙ ap (λ rows. row_at rows key) is.lost_live

      same : (key : Key) (row : Row) (rows : List Row) → row_at rows key ≡ Some row → row_at growth.lost row.key ≡ row_at growth.lost key
      same key row rows e = find_as key_cmp row_key key_cmp_total growth.lost row.key key (found_key key_cmp row_key key_cmp_total rows key row e)

      not_lost : (row : Row) → row_at growth.lost row.key ≡ None → (b : Bool) → guard lost_row (if b then Some row else None) ≡ None
      not_lost row e true = rw e refl
      not_lost row e false = refl

      by : (key : Key) (l : Option Row) → row_at growth.lost key ≡ l → (found : Option Row) → row_at growth.base key ≡ found → guard lost_row (guard is_live (row_at growth.base key)) ≡ row_at growth.lost key
      by key None e None f = rw (f, e) refl
      by key None e (Some other) f = rw (f, e) (not_lost other (same key other growth.base f ∙ e) (is_live other))
      by key (Some row) e found f =
          let passes : lost_row row ≡ true = ap is_some (same key row growth.lost e ∙ e) in
          let ends : guard lost_row (Some row) ≡ Some row = rw passes refl in
          ap (λ found. guard lost_row (guard is_live found)) (is.were key row e) ∙ (ap (guard lost_row) (ap (guard is_live) (sym e) ∙ (lost_at key ∙ e)) ∙ (ends ∙ sym e))

  -- how many rows pass a test
  pub count-grown : (p : Row → Bool) → count_by p (grown growth) + count_by p growth.lost ≡ count_by p (live growth.base) + count_by p growth.over
  count-grown p =
      let all = ap length (filter-grown p) in
      let both = length_puts key_cmp row_key key_cmp_total (filter p growth.over) (filter p untouched) (ascends_filter key_cmp row_key key_cmp_total p growth.over is.over_order) free_of in
      let kept = ap length (filter_swap p kept_row (live growth.base)) in
      let lost = ap length (filter_swap lost_row p (live growth.base)) in
      let lost_rows = ap (λ rows. length (filter p rows)) lost_is in
      let parts = length-filter_both kept_row lost_row (λ row. other (row_at growth.lost row.key)) (filter p (live growth.base)) in
      omega (arith, length-filter p (grown growth), length-filter p growth.lost, length-filter p (live growth.base), length-filter p growth.over)
    where
      other : (l : Option Row) → is_some l ≡ not (is_none l)
      other None = refl
      other (Some row) = refl

      passing : (key : Key) (row : Row) (found : Option Row) → guard p found ≡ Some row → found ≡ Some row
      passing key row None e = absurd (false≢true (ap is_some e))
      passing key row (Some found) e = by (p found) e
        where
          by : (b : Bool) → (if b then Some found else None) ≡ Some row → Some found ≡ Some row
          by true e = e
          by false e = absurd (false≢true (ap is_some e))

      free_of : (key : Key) (row : Row) → row_at (filter p growth.over) key ≡ Some row → row_at (filter p untouched) key ≡ None
      free_of key row e =
          find_filter key_cmp row_key key_cmp_total p untouched key untouched_up
          ∙ ap (guard p) (free key row (passing key row (row_at growth.over key) (sym (find_filter key_cmp row_key key_cmp_total p growth.over key is.over_order) ∙ e)))
