-- Where changes of rows, one at a place, lead.
use Rattle.std.proofs.Common.{◌≡◌, Bool, true, false, ◌⊎◌, inl, inr, List, [], ◌∷◌, Option, Some, None, if◌then◌else◌, refl, sym, ap, subst, ◌∙◌}
use Rattle.std.specs.Prelude.{map, is_some, unwrap_or}
use Rattle.std.specs.List.{AllByRecursion, filter_map}
use Rattle.std.specs.Option.{option_and_then}
use Rattle.std.specs.declared.cmp.Ordering.{Ordering}
use Rattle.std.specs.declared.cmp.Ordering.TheVariants.{Less, Equal, Greater}
use Rattle.std.specs.Ordering.{is_eq, ordering_reverse}
use Rattle.std.proofs.lemmas.Bool.{false≢true}
use Rattle.keyed.specs.Keyed.{find}
use Rattle.keyed.proofs.Changes.{ascends_put, ascends_without, find_put, find_without}
use Rattle.closure.specs.Closure.{IsIn}
use Rattle.closure.proofs.Members.{in_map, of_map, Image}
use Rattle.shop_defs.specs.declared.key.Key.{Key}
use Rattle.shop_defs.specs.declared.row.Row.{Row}
use Rattle.shop_defs.specs.Joined.{Change}
use Rattle.shop_defs.specs.Rows.{row_key}
use Rattle.shop_operations.specs.Upserts.{place_cmp}
use Rattle.shop_operations.specs.Views.{View, IsInPlaceOrder, change_place, change_places}
use Rattle.shop_rows.specs.Changing.{StandsUnderItsKey, StandUnderTheirKeys}
use Rattle.shop_write.specs.Planning.{IsOfView}
use Rattle.shop_write.specs.Deleting.{change_to, AreChangesOf, IsCovered}
use Rattle.shop_write.proofs.InOrder.{flip_equal, found_key, missing_at, same_from_find}
use Rattle.shop_write.proofs.Standing.{place_cmp_total, all_in}

-- what is left of a row stands where the row did
pub record KeepsKeys (rest : Row → Option Row) : Type 0 where
  pub keeps : (row left : Row) → rest row ≡ Some left → left.key ≡ row.key

pub all_of : {X : Type 0} (P : X → Type 0) (xs : List X) → ((x : X) → IsIn x xs → P x) → AllByRecursion P xs
all_of P [] h = tt
all_of P (x ∷ xs) h = (h x (inl refl), all_of P xs (λ y i. h y (inr i)))

-- ---- what changes leave at a place

-- the last change at the place, or else what was there
abbrev after_at : List Change → Key → Option Row → Option Row
after_at [] place before = before
after_at (change ∷ rest) place before = after_at rest place (if is_eq (place_cmp change.0 place) then change.1 else before)

in_order_change : (rows : List Row) (change : Change) → IsInPlaceOrder rows → IsInPlaceOrder (change_place rows change)
in_order_change rows (key, None) up = ascends_without place_cmp row_key place_cmp_total rows key up
in_order_change rows (key, Some row) up = ascends_put place_cmp row_key place_cmp_total rows row up

in_order_changes : (changes : List Change) (rows : List Row) → IsInPlaceOrder rows → IsInPlaceOrder (change_places rows changes)
in_order_changes [] rows up = up
in_order_changes (change ∷ rest) rows up = in_order_changes rest (change_place rows change) (in_order_change rows change up)

find_change : (rows : List Row) (change : Change) (place : Key) → IsInPlaceOrder rows → StandsUnderItsKey change → find place_cmp row_key (change_place rows change) place ≡ (if is_eq (place_cmp change.0 place) then change.1 else find place_cmp row_key rows place)
find_change rows (key, None) place up own = find_without place_cmp row_key place_cmp_total rows key place up
find_change rows (key, Some row) place up own =
    find_put place_cmp row_key place_cmp_total rows row place
    ∙ ap (λ (k : Key). if is_eq (place_cmp k place) then Some row else find place_cmp row_key rows place) own

find_changes : (changes : List Change) (rows : List Row) (place : Key) → IsInPlaceOrder rows → StandUnderTheirKeys changes → find place_cmp row_key (change_places rows changes) place ≡ after_at changes place (find place_cmp row_key rows place)
find_changes [] rows place up own = refl
find_changes (change ∷ rest) rows place up own =
    find_changes rest (change_place rows change) place (in_order_change rows change up) own.1
    ∙ ap (after_at rest place) (find_change rows change place up own.0)

-- one of the changes is at the place
record IsAmong (changes : List Change) (place : Key) : Type 0 where
  change : Change
  is_in : IsIn change changes
  is_there : is_eq (place_cmp change.0 place) ≡ true

-- where each change at the place leaves the same, that is left, if it was there or there is such a change
after_is : (changes : List Change) (place : Key) (before left : Option Row) → ((change : Change) → IsIn change changes → is_eq (place_cmp change.0 place) ≡ true → change.1 ≡ left) → (before ≡ left) ⊎ IsAmong changes place → after_at changes place before ≡ left
after_is [] place before left each (inl e) = e
after_is [] place before left each (inr a) = absurd a.is_in
after_is (change ∷ rest) place before left each which = by (λ start. after_is rest place start left (λ c i. each c (inr i))) (is_eq (place_cmp change.0 place)) refl
  where
    later : is_eq (place_cmp change.0 place) ≡ false → (before ≡ left) ⊎ IsAmong (change ∷ rest) place → (before ≡ left) ⊎ IsAmong rest place
    later f (inl e) = inl e
    later f (inr a) = there a.is_in
      where
        there : (change ≡ a.change) ⊎ IsIn a.change rest → (before ≡ left) ⊎ IsAmong rest place
        there (inl e) = absurd (false≢true (sym f ∙ (ap (λ (c : Change). is_eq (place_cmp c.0 place)) e ∙ a.is_there)))
        there (inr i) = inr (record { change = a.change; is_in = i; is_there = a.is_there })

    by : ((start : Option Row) → (start ≡ left) ⊎ IsAmong rest place → after_at rest place start ≡ left) → (b : Bool) → is_eq (place_cmp change.0 place) ≡ b → after_at rest place (if is_eq (place_cmp change.0 place) then change.1 else before) ≡ left
    by more true f = rw f (more change.1 (inl (each change (inl refl) f)))
    by more false f = rw f (more before (later f which))

-- ---- what is left of rows, at a place

find_in : (rows : List Row) (place : Key) (row : Row) → find place_cmp row_key rows place ≡ Some row → IsIn row rows
find_in [] place row e = absurd (false≢true (ap is_some e))
find_in (x ∷ xs) place row e = by (find_in xs place row) (is_eq (place_cmp x.key place)) e
  where
    by : (find place_cmp row_key xs place ≡ Some row → IsIn row xs) → (b : Bool) → (if b then Some x else find place_cmp row_key xs place) ≡ Some row → IsIn row (x ∷ xs)
    by more true f = inl (ap (λ o. unwrap_or o x) f)
    by more false f = inr (more f)

is_equal : (o : Ordering) → is_eq o ≡ true → o ≡ Equal
is_equal Less h = absurd (false≢true h)
is_equal Equal h = refl
is_equal Greater h = absurd (false≢true h)

-- the row at a place is found there
find_there : (rows : List Row) (place : Key) (row : Row) → IsInPlaceOrder rows → IsIn row rows → is_eq (place_cmp row.key place) ≡ true → find place_cmp row_key rows place ≡ Some row
find_there [] place row up i h = absurd i
find_there (x ∷ xs) place row up (inl e) h = rw (ap (λ (r : Row). is_eq (place_cmp r.key place)) e ∙ h) (ap Some e)
find_there (x ∷ xs) place row up (inr i) h =
    let less : place_cmp x.key row.key ≡ Less = all_in (λ y. place_cmp x.key y.key ≡ Less) xs row up.0 i in
    let same : place_cmp row.key place ≡ Equal = is_equal (place_cmp row.key place) h in
    let e : place_cmp x.key place ≡ Less = before x.key row.key place same less in
    rw e (find_there xs place row up.1 i h)
  where
    before : (a b c : Key) → place_cmp b c ≡ Equal → place_cmp a b ≡ Less → place_cmp a c ≡ Less
    before a b c e l = place_cmp_total.antisymm a c ∙ (ap ordering_reverse (sym (place_cmp_total.congr b c a e)) ∙ (sym (place_cmp_total.antisymm a b) ∙ l))

all_left : (P : Key → Type 0) (rest : Row → Option Row) (rows : List Row) → KeepsKeys rest → AllByRecursion (λ row. P row.key) rows → AllByRecursion (λ row. P row.key) (filter_map rest rows)
all_left P rest [] k all = tt
all_left P rest (row ∷ rows) k all = by (all_left P rest rows k all.1) (rest row) refl
  where
    by : AllByRecursion (λ r. P r.key) (filter_map rest rows) → (o : Option Row) → rest row ≡ o → AllByRecursion (λ r. P r.key) (filter_map rest (row ∷ rows))
    by more None e = rw e more
    by more (Some left) e = rw e (subst P (sym (k.keeps row left e)) all.0, more)

in_order_left : (rest : Row → Option Row) (rows : List Row) → KeepsKeys rest → IsInPlaceOrder rows → IsInPlaceOrder (filter_map rest rows)
in_order_left rest [] k up = tt
in_order_left rest (row ∷ rows) k up = by (in_order_left rest rows k up.1) (rest row) refl
  where
    by : IsInPlaceOrder (filter_map rest rows) → (o : Option Row) → rest row ≡ o → IsInPlaceOrder (filter_map rest (row ∷ rows))
    by more None e = rw e more
    by more (Some left) e = rw e (subst (λ (key : Key). AllByRecursion (λ r. place_cmp key r.key ≡ Less) (filter_map rest rows)) (sym (k.keeps row left e)) (all_left (λ key. place_cmp row.key key ≡ Less) rest rows k up.0), more)

find_left : (rest : Row → Option Row) (rows : List Row) (place : Key) → KeepsKeys rest → IsInPlaceOrder rows → find place_cmp row_key (filter_map rest rows) place ≡ option_and_then rest (find place_cmp row_key rows place)
find_left rest [] place k up = refl
find_left rest (row ∷ rows) place k up = by (find_left rest rows place k up.1) (place_cmp row.key place) refl
  where
    past : is_eq (place_cmp row.key place) ≡ false → (o : Option Row) → rest row ≡ o → find place_cmp row_key (filter_map rest (row ∷ rows)) place ≡ find place_cmp row_key (filter_map rest rows) place
    past f None e = rw e refl
    past f (Some left) e = rw (e, ap (λ (key : Key). is_eq (place_cmp key place)) (k.keeps row left e) ∙ f) refl

    here : place_cmp row.key place ≡ Equal → find place_cmp row_key (filter_map rest rows) place ≡ option_and_then rest (find place_cmp row_key rows place) → (o : Option Row) → rest row ≡ o → find place_cmp row_key (filter_map rest (row ∷ rows)) place ≡ o
    here f more None e = rw e (more ∙ ap (option_and_then rest) (missing_at place_cmp row_key place_cmp_total place row rows (flip_equal place_cmp row_key place_cmp_total row.key place f) up.0))
    here f more (Some left) e = rw (e, ap (λ (key : Key). is_eq (place_cmp key place)) (k.keeps row left e) ∙ ap is_eq f) refl

    by : find place_cmp row_key (filter_map rest rows) place ≡ option_and_then rest (find place_cmp row_key rows place) → (o : Ordering) → place_cmp row.key place ≡ o → find place_cmp row_key (filter_map rest (row ∷ rows)) place ≡ option_and_then rest (find place_cmp row_key (row ∷ rows) place)
    by more Less f = past (ap is_eq f) (rest row) refl ∙ rw f more
    by more Equal f = here f more (rest row) refl ∙ rw f refl
    by more Greater f = past (ap is_eq f) (rest row) refl ∙ rw f more

-- ---- changes of all rows of which anything is to be changed

module _ (rest : Row → Option Row) (rows : List Row) (changes : List Change) (k : KeepsKeys rest) (up : IsInPlaceOrder rows) (of : AreChangesOf rest rows changes) where
  own_key : (change : Change) → Image (change_to rest) rows change → StandsUnderItsKey change
  own_key change image = subst StandsUnderItsKey image.image (by image.one (rest image.one) refl)
    where
      by : (row : Row) (o : Option Row) → rest row ≡ o → StandsUnderItsKey (row.key, rest row)
      by row None e = rw e tt
      by row (Some left) e = rw e (k.keeps row left e)

  pub stand_left : StandUnderTheirKeys changes
  stand_left = all_of StandsUnderItsKey changes (λ change i. own_key change (of_map (change_to rest) rows change (of change i)))

  pub keys_left : (view : View) → view.rows ≡ rows → AllByRecursion (λ change. IsOfView view change.0) changes
  keys_left view e = all_of (λ change. IsOfView view change.0) changes (λ change i. by change (of_map (change_to rest) rows change (of change i)))
    where
      by : (change : Change) → Image (change_to rest) rows change → IsOfView view change.0
      by change image = inr (subst (λ (rs : List Row). IsIn change.0 (map row_key rs)) (sym e) (subst (λ (c : Change). IsIn c.0 (map row_key rows)) image.image (in_map row_key rows image.one image.is_in)))

  pub changes_left : ((row : Row) → IsIn row rows → IsCovered rest changes row) → change_places rows changes ≡ filter_map rest rows
  changes_left covered =
      same_from_find place_cmp row_key place_cmp_total (change_places rows changes) (filter_map rest rows) (in_order_changes changes rows up) (in_order_left rest rows k up) (λ place.
      find_changes changes rows place up stand_left ∙ (by place (find place_cmp row_key rows place) refl ∙ sym (find_left rest rows place k up)))
    where
      each : (place : Key) (found : Option Row) → find place_cmp row_key rows place ≡ found → (change : Change) → Image (change_to rest) rows change → is_eq (place_cmp change.0 place) ≡ true → change.1 ≡ option_and_then rest found
      each place found e change image h =
          let there : find place_cmp row_key rows place ≡ Some image.one = find_there rows place image.one up image.is_in (ap (λ (c : Change). is_eq (place_cmp c.0 place)) image.image ∙ h) in
          sym (ap (λ (c : Change). c.1) image.image) ∙ ap (option_and_then rest) (sym there ∙ e)

      which : (place : Key) (row : Row) → find place_cmp row_key rows place ≡ Some row → IsCovered rest changes row → (find place_cmp row_key rows place ≡ rest row) ⊎ IsAmong changes place
      which place row e (inl s) = inl (e ∙ sym s)
      which place row e (inr i) = inr (record { change = change_to rest row; is_in = i; is_there = ap is_eq (found_key place_cmp row_key place_cmp_total rows place row e) })

      by : (place : Key) (found : Option Row) → find place_cmp row_key rows place ≡ found → after_at changes place (find place_cmp row_key rows place) ≡ option_and_then rest (find place_cmp row_key rows place)
      by place None e =
          after_is changes place (find place_cmp row_key rows place) (option_and_then rest (find place_cmp row_key rows place)) (λ change i. each place (find place_cmp row_key rows place) refl change (of_map (change_to rest) rows change (of change i))) (inl (e ∙ sym (ap (option_and_then rest) e)))
      by place (Some row) e =
          after_is changes place (find place_cmp row_key rows place) (option_and_then rest (find place_cmp row_key rows place)) (λ change i. each place (find place_cmp row_key rows place) refl change (of_map (change_to rest) rows change (of change i)))
          (subst (λ o. (find place_cmp row_key rows place ≡ o) ⊎ IsAmong changes place) (sym (ap (option_and_then rest) e)) (which place row e (covered row (find_in rows place row e))))
