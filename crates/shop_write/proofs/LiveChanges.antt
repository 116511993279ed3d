-- What changes of live rows leave of the live rows, and that they leave the rows of drafts.
use Rattle.std.proofs.Common.{◌≡◌, Bool, true, List, [], ◌∷◌, refl, sym, ap, ◌∙◌, Option, Some, None, if◌then◌else◌, not}
use Rattle.std.specs.declared.cmp.Ordering.{Ordering}
use Rattle.std.specs.declared.cmp.Ordering.TheVariants.{Less, Equal, Greater}
use Rattle.std.specs.Ordering.{is_eq}
use Rattle.std.proofs.lemmas.Bool.{eq-eqb}
use Rattle.keyed.specs.Keyed.{put, without}
use Rattle.keyed.proofs.Changes.{ascends_put, ascends_without, find_put, find_without}
use Rattle.shop_defs.specs.declared.key.Key.{Key}
use Rattle.shop_defs.specs.declared.row.Row.{Row}
use Rattle.shop_defs.specs.Joined.{Change}
use Rattle.shop_defs.specs.Keys.{key_cmp}
use Rattle.shop_defs.specs.Rows.{row_key, row_at, change_row, change_rows, IsInKeyOrder}
use Rattle.shop_defs.proofs.Keys.{key_cmp_total}
use Rattle.shop_operations.specs.References.{is_live, live}
use Rattle.shop_operations.specs.Upserts.{place_cmp}
use Rattle.shop_operations.specs.Views.{drafted, change_place, change_places}
use Rattle.shop_rows.specs.Changing.{StandsUnderItsKey, StandUnderTheirKeys}
use Rattle.shop_rows.proofs.ChangedRows.{in_order-change_rows}
use Rattle.shop_write.specs.Growth.{AreLive}
use Rattle.shop_write.proofs.InOrder.{guard, found_key, find_filter, ascends_filter, same_from_find}
use Rattle.shop_write.proofs.LivePlaces.{AllLive, all_live, same_version, as_places}

passes_live : (row : Row) → row.key.version ≡ 0 → is_live row ≡ true
passes_live row v = eq-eqb row.key.version 0 v

abbrev is_drafted : Row → Bool
is_drafted row = not (is_live row)

-- of a live put the live rows have the same put
live-put : (rows : List Row) (row : Row) → IsInKeyOrder rows → row.key.version ≡ 0 → live (put key_cmp row_key rows row) ≡ put key_cmp row_key (live rows) row
live-put rows row up v =
    let put_up = ascends_put key_cmp row_key key_cmp_total rows row up in
    same_from_find key_cmp row_key key_cmp_total _ _
    (ascends_filter key_cmp row_key key_cmp_total is_live _ put_up)
    (ascends_put key_cmp row_key key_cmp_total (live rows) row (ascends_filter key_cmp row_key key_cmp_total is_live rows up))
    (λ q. find_filter key_cmp row_key key_cmp_total is_live (put key_cmp row_key rows row) q put_up
    ∙ (ap (guard is_live) (find_put key_cmp row_key key_cmp_total rows row q)
    ∙ (by q (key_cmp row.key q)
    ∙ (ap (λ (found : Option Row). if is_eq (key_cmp row.key q) then Some row else found) (sym (find_filter key_cmp row_key key_cmp_total is_live rows q up))
    ∙ sym (find_put key_cmp row_key key_cmp_total (live rows) row q)))))
  where
    by : (q : Key) (o : Ordering) → guard is_live (if is_eq o then Some row else row_at rows q) ≡ (if is_eq o then Some row else guard is_live (row_at rows q))
    by q Less = refl
    by q Equal = rw (passes_live row v) refl
    by q Greater = refl

-- and of a removal the same removal
live-without : (rows : List Row) (key : Key) → IsInKeyOrder rows → live (without key_cmp row_key rows key) ≡ without key_cmp row_key (live rows) key
live-without rows key up =
    let left_up = ascends_without key_cmp row_key key_cmp_total rows key up in
    let live_up = ascends_filter key_cmp row_key key_cmp_total is_live rows up in
    same_from_find key_cmp row_key key_cmp_total _ _
    (ascends_filter key_cmp row_key key_cmp_total is_live _ left_up)
    (ascends_without key_cmp row_key key_cmp_total (live rows) key live_up)
    (λ q. find_filter key_cmp row_key key_cmp_total is_live (without key_cmp row_key rows key) q left_up
    ∙ (ap (guard is_live) (find_without key_cmp row_key key_cmp_total rows key q up)
    ∙ (by q (key_cmp key q)
    ∙ (ap (λ (found : Option Row). if is_eq (key_cmp key q) then None else found) (sym (find_filter key_cmp row_key key_cmp_total is_live rows q up))
    ∙ sym (find_without key_cmp row_key key_cmp_total (live rows) key q live_up)))))
  where
    by : (q : Key) (o : Ordering) → guard is_live (if is_eq o then None else row_at rows q) ≡ (if is_eq o then None else guard is_live (row_at rows q))
    by q Less = refl
    by q Equal = refl
    by q Greater = refl

-- what is found at a live key is no row of a draft
guard-drafted : (rows : List Row) (key : Key) → key.version ≡ 0 → guard is_drafted (row_at rows key) ≡ None
guard-drafted rows key v = by (row_at rows key) refl
  where
    by : (found : Option Row) → row_at rows key ≡ found → guard is_drafted found ≡ None
    by None e = refl
    by (Some row) e = rw (passes_live row (same_version row.key key (found_key key_cmp row_key key_cmp_total rows key row e) ∙ v)) refl

-- a live put leaves the rows of drafts
drafted-put : (rows : List Row) (row : Row) → IsInKeyOrder rows → row.key.version ≡ 0 → drafted (put key_cmp row_key rows row) ≡ drafted rows
drafted-put rows row up v =
    let put_up = ascends_put key_cmp row_key key_cmp_total rows row up in
    same_from_find key_cmp row_key key_cmp_total _ _
    (ascends_filter key_cmp row_key key_cmp_total is_drafted _ put_up)
    (ascends_filter key_cmp row_key key_cmp_total is_drafted rows up)
    (λ q. find_filter key_cmp row_key key_cmp_total is_drafted (put key_cmp row_key rows row) q put_up
    ∙ (ap (guard is_drafted) (find_put key_cmp row_key key_cmp_total rows row q)
    ∙ (by q (key_cmp row.key q) refl
    ∙ sym (find_filter key_cmp row_key key_cmp_total is_drafted rows q up))))
  where
    by : (q : Key) (o : Ordering) → key_cmp row.key q ≡ o → guard is_drafted (if is_eq o then Some row else row_at rows q) ≡ guard is_drafted (row_at rows q)
    by q Less e = refl
    by q Equal e = rw (passes_live row v) (sym (guard-drafted rows q (sym (same_version row.key q e) ∙ v)))
    by q Greater e = refl

-- and so does a live removal
drafted-without : (rows : List Row) (key : Key) → IsInKeyOrder rows → key.version ≡ 0 → drafted (without key_cmp row_key rows key) ≡ drafted rows
drafted-without rows key up v =
    let left_up = ascends_without key_cmp row_key key_cmp_total rows key up in
    same_from_find key_cmp row_key key_cmp_total _ _
    (ascends_filter key_cmp row_key key_cmp_total is_drafted _ left_up)
    (ascends_filter key_cmp row_key key_cmp_total is_drafted rows up)
    (λ q. find_filter key_cmp row_key key_cmp_total is_drafted (without key_cmp row_key rows key) q left_up
    ∙ (ap (guard is_drafted) (find_without key_cmp row_key key_cmp_total rows key q up)
    ∙ (by q (key_cmp key q) refl
    ∙ sym (find_filter key_cmp row_key key_cmp_total is_drafted rows q up))))
  where
    by : (q : Key) (o : Ordering) → key_cmp key q ≡ o → guard is_drafted (if is_eq o then None else row_at rows q) ≡ guard is_drafted (row_at rows q)
    by q Less e = refl
    by q Equal e = sym (guard-drafted rows q (sym (same_version key q e) ∙ v))
    by q Greater e = refl

live-change_row : (rows : List Row) (change : Change) → IsInKeyOrder rows → change.0.version ≡ 0 → StandsUnderItsKey change → live (change_row rows change.0 change.1) ≡ change_row (live rows) change.0 change.1
live-change_row rows (key, None) up v stands = live-without rows key up
live-change_row rows (key, Some row) up v stands = live-put rows row up (ap (λ (k : Key). k.version) stands ∙ v)

drafted-change_row : (rows : List Row) (change : Change) → IsInKeyOrder rows → change.0.version ≡ 0 → StandsUnderItsKey change → drafted (change_row rows change.0 change.1) ≡ drafted rows
drafted-change_row rows (key, None) up v stands = drafted-without rows key up v
drafted-change_row rows (key, Some row) up v stands = drafted-put rows row up (ap (λ (k : Key). k.version) stands ∙ v)

put_places : (rows : List Row) (row : Row) → AllLive rows → row.key.version ≡ 0 → put key_cmp row_key rows row ≡ put place_cmp row_key rows row
put_places [] row all v = refl
put_places (first ∷ rows) row all v = rw (as_places first.key row.key all.0 v, put_places rows row all.1 v) refl

without_places : (rows : List Row) (key : Key) → AllLive rows → key.version ≡ 0 → without key_cmp row_key rows key ≡ without place_cmp row_key rows key
without_places [] key all v = refl
without_places (first ∷ rows) key all v = rw (as_places first.key key all.0 v, without_places rows key all.1 v) refl

-- of live rows a change by key is one by place
change_place_is : (rows : List Row) (change : Change) → AllLive rows → change.0.version ≡ 0 → StandsUnderItsKey change → change_row rows change.0 change.1 ≡ change_place rows change
change_place_is rows (key, None) all v stands = without_places rows key all v
change_place_is rows (key, Some row) all v stands = put_places rows row all (ap (λ (k : Key). k.version) stands ∙ v)

-- after changes of live rows, the live rows are those before with the changes
pub live-change_rows : (changes : List Change) (rows : List Row) → IsInKeyOrder rows → AreLive changes → StandUnderTheirKeys changes → live (change_rows rows changes) ≡ change_places (live rows) changes
live-change_rows [] rows up v stand = refl
live-change_rows (change ∷ changes) rows up v stand =
    live-change_rows changes (change_row rows change.0 change.1) (in_order-change_rows (change ∷ []) rows up) v.1 stand.1
    ∙ ap (λ left. change_places left changes) (live-change_row rows change up v.0 stand.0 ∙ change_place_is (live rows) change (all_live rows) v.0 stand.0)

-- the same by keys
pub live-change_rows_by_key : (changes : List Change) (rows : List Row) → IsInKeyOrder rows → AreLive changes → StandUnderTheirKeys changes → live (change_rows rows changes) ≡ change_rows (live rows) changes
live-change_rows_by_key [] rows up v stand = refl
live-change_rows_by_key (change ∷ changes) rows up v stand =
    live-change_rows_by_key changes (change_row rows change.0 change.1) (in_order-change_rows (change ∷ []) rows up) v.1 stand.1
    ∙ ap (λ left. change_rows left changes) (live-change_row rows change up v.0 stand.0)

-- and the rows of drafts stay
pub drafted-change_rows : (changes : List Change) (rows : List Row) → IsInKeyOrder rows → AreLive changes → StandUnderTheirKeys changes → drafted (change_rows rows changes) ≡ drafted rows
drafted-change_rows [] rows up v stand = refl
drafted-change_rows (change ∷ changes) rows up v stand =
    drafted-change_rows changes (change_row rows change.0 change.1) (in_order-change_rows (change ∷ []) rows up) v.1 stand.1
    ∙ drafted-change_row rows change up v.0 stand.0
