-- Of the changes of an operation that leaves the live rows that show, those at the draft's own keys do all.
use Rattle.std.proofs.Common.{◌≡◌, ◌≢◌, ◌<◌, arith, ◌⊎◌, inl, inr, ℕ, Bool, true, false, List, [], ◌∷◌, refl, sym, ap, subst, ◌∙◌, Option, Some, None, if◌then◌else◌}
use Rattle.std.specs.Prelude.{◌==◌, ◌&&◌, filter, map, find}
use Rattle.std.specs.List.{AllByRecursion, fold}
use Rattle.std.specs.declared.cmp.Ordering.{Ordering}
use Rattle.std.specs.declared.cmp.Ordering.TheVariants.{Less, Equal, Greater}
use Rattle.std.specs.Ordering.{is_eq, nat_cmp, ordering_then}
use Rattle.std.proofs.lemmas.Bool.{eqb-true, eq-eqb, and_parts, and_from, false≢true}
use Rattle.std.proofs.lemmas.Cmp.{nat_cmp_total, ranked}
use Rattle.closure.specs.Closure.{IsIn}
use Rattle.closure.proofs.Members.{of_filter, of_map, in_map}
use Rattle.keyed.specs.Keyed as keyed
use Rattle.keyed.proofs.Changes.{ascends_put, ascends_without, find_put, find_without}
use Rattle.shop_defs.specs.declared.key.Key.{Key}
use Rattle.shop_defs.specs.declared.row.Row.{Row}
use Rattle.shop_defs.specs.Entities.{entity_number}
use Rattle.shop_defs.specs.Joined.{Change, change_key}
use Rattle.shop_defs.specs.Keys.{key_cmp}
use Rattle.shop_defs.specs.Rows.{row_key}
use Rattle.shop_defs.proofs.Keys.{key_cmp_total}
use Rattle.shop_drafts.specs.Drafts.{is_open}
use Rattle.shop_operations.specs.Deletes.{stands_at}
use Rattle.shop_operations.specs.References.{is_live, live}
use Rattle.shop_operations.specs.Upserts.{place_cmp, row_in, with_row}
use Rattle.shop_operations.specs.Views.{IsInPlaceOrder, change_place, change_places}
use Rattle.shop_rows.specs.Changing.{StandsUnderItsKey, StandUnderTheirKeys, HasAscendingKeys}
use Rattle.shop_soundness.proofs.Lists.{of_each, each_of, finds, find_of, no_some}
use Rattle.shop_soundness.proofs.Places.{AtOnePlace, at_one_place, place_equal, place_on, place_back, place_stands}
use Rattle.shop_write.specs.Planning.{IsOfView}
use Rattle.shop_write.proofs.InOrder.{itself, ascends_filter, same_from_find}
use Rattle.shop_write.proofs.Standing.{row_found, place_cmp_total}
use Rattle.shop_write.proofs.WrittenRows.{row_in_is, put_of}
use Rattle.shop_version.specs.DraftSteps.{own_changes}
use Rattle.shop_version.specs.Overlays.{Layer, IsLayer, open_rows, layer_rows, layer_view, IsOwnChange}
use Rattle.shop_version.proofs.Layers.{own_all}

-- ---- what changes leave at a place

-- the last change at the place, or else what was there
abbrev after_at : List Change → Key → Option Row → Option Row
after_at [] at before = before
after_at (change ∷ rest) at before = after_at rest at (if is_eq (place_cmp change.0 at) then change.1 else before)

in_order_change : (rows : List Row) (change : Change) → IsInPlaceOrder rows → IsInPlaceOrder (change_place rows change)
in_order_change rows (key, None) up = ascends_without place_cmp row_key place_cmp_total rows key up
in_order_change rows (key, Some row) up = ascends_put place_cmp row_key place_cmp_total rows row up

in_order_changes : (changes : List Change) (rows : List Row) → IsInPlaceOrder rows → IsInPlaceOrder (change_places rows changes)
in_order_changes [] rows up = up
in_order_changes (change ∷ rest) rows up = in_order_changes rest (change_place rows change) (in_order_change rows change up)

find_change : (rows : List Row) (change : Change) (at : Key) → IsInPlaceOrder rows → StandsUnderItsKey change
    → keyed.find place_cmp row_key (change_place rows change) at ≡ (if is_eq (place_cmp change.0 at) then change.1 else keyed.find place_cmp row_key rows at)
find_change rows (key, None) at up own = find_without place_cmp row_key place_cmp_total rows key at up
find_change rows (key, Some row) at up own =
    find_put place_cmp row_key place_cmp_total rows row at
    ∙ ap (λ (k : Key). if is_eq (place_cmp k at) then Some row else keyed.find place_cmp row_key rows at) own

find_changes : (changes : List Change) (rows : List Row) (at : Key) → IsInPlaceOrder rows → StandUnderTheirKeys changes
    → keyed.find place_cmp row_key (change_places rows changes) at ≡ after_at changes at (keyed.find place_cmp row_key rows at)
find_changes [] rows at up own = refl
find_changes (change ∷ rest) rows at up own =
    find_changes rest (change_place rows change) at (in_order_change rows change up) own.1
    ∙ ap (after_at rest at) (find_change rows change at up own.0)

-- where no change is at the place
none_at : (changes : List Change) (at : Key) (before : Option Row) → ((change : Change) → IsIn change changes → is_eq (place_cmp change.0 at) ≡ false) → after_at changes at before ≡ before
none_at [] at before away = refl
none_at (change ∷ rest) at before away = rw (away change (inl refl)) (none_at rest at before (λ c i. away c (inr i)))

-- ---- changes at own keys

-- the change is at a key of the version, at the place
abbrev is_own_at : ℕ → Key → Change → Bool
is_own_at version at change = (change.0.version == version) && is_eq (place_cmp change.0 at)

-- what a filter keeps of what is found
find_kept : {X : Type 0} (p q : X → Bool) (xs : List X) → find (λ x. p x && q x) (filter p xs) ≡ find (λ x. p x && q x) xs
find_kept p q [] = refl
find_kept p q (x ∷ xs) = by (find_kept p q xs) (p x) refl (q x) refl
  where
    by : find (λ x. p x && q x) (filter p xs) ≡ find (λ x. p x && q x) xs → (b : Bool) → p x ≡ b → (c : Bool) → q x ≡ c → find (λ x. p x && q x) (filter p (x ∷ xs)) ≡ find (λ x. p x && q x) (x ∷ xs)
    by more true e true f = rw (e, e, f) refl
    by more true e false f = rw (e, e, f) more
    by more false e c f = rw e more

eq_of : (o : Ordering) → is_eq o ≡ true → o ≡ Equal
eq_of Less e = absurd (false≢true e)
eq_of Equal e = refl
eq_of Greater e = absurd (false≢true e)

-- keys at one place are in the order of their versions
by_version : (a b : Key) → AtOnePlace a b → key_cmp a b ≡ nat_cmp a.version b.version
by_version a b s = rw (s.entity, s.id, s.second, itself nat_cmp (λ n. n) nat_cmp_total (entity_number b.entity), itself nat_cmp (λ n. n) nat_cmp_total b.id, itself nat_cmp (λ n. n) nat_cmp_total b.second) (by (nat_cmp a.version b.version))
  where
    by : (o : Ordering) → ordering_then o Equal ≡ o
    by Less = refl
    by Equal = refl
    by Greater = refl

-- ---- the changes of an operation

-- the key has the version, or is that of one of the rows, which are live
abbrev IsOfDraft : ℕ → List Row → Key → Type 0
IsOfDraft version opens key = (key.version ≡ version) ⊎ IsIn key (map row_key opens)

module _ (version : ℕ) (draft : version ≢ 0) (opens : List Row) (opens_up : IsInPlaceOrder opens) (are_live : AllByRecursion (λ row. row.key.version ≡ 0) opens) where
  -- the live key of a row that shows
  live_key : (key : Key) → IsIn key (map row_key opens) → key.version ≡ 0
  live_key key i = let of = of_map row_key opens key i in ap (λ (k : Key). k.version) (sym of.image) ∙ of_each (λ row. row.key.version ≡ 0) opens of.one are_live of.is_in

  -- a row shows where a live key is
  shows_at : (key at : Key) → IsIn key (map row_key opens) → is_eq (place_cmp key at) ≡ true → row_in opens at ≡ None → ⊥
  shows_at key at i e n =
      let of = of_map row_key opens key i in
      let same : AtOnePlace of.one.key at = at_one_place of.one.key at (ap (λ k. place_cmp k at) of.image ∙ eq_of _ e) in
      let found = finds (λ (row : Row). stands_at at row) opens of.one of.is_in (place_stands at of.one (place_back of.one.key at same)) in
      no_some found.one (sym n ∙ found.found)

  -- behind a change at an own key none is at its place
  none_behind : (change other : Change) → change.0.version ≡ version → IsOfDraft version opens other.0 → key_cmp change.0 other.0 ≡ Less → place_cmp change.0 other.0 ≡ Equal → ⊥
  none_behind change other v of less same = by of
    where
      order : nat_cmp version other.0.version ≡ Less
      order = ap (λ n. nat_cmp n other.0.version) (sym v) ∙ (sym (by_version change.0 other.0 (at_one_place change.0 other.0 same)) ∙ less)

      above : (n : ℕ) → n ≢ 0 → nat_cmp n 0 ≡ Less → ⊥
      above n z e = let low : n < 0 = ranked n 0 Less (sym e) in absurd (omega arith)

      by : IsOfDraft version opens other.0 → ⊥
      by (inl w) =
          let tie : nat_cmp version version ≡ Less = ap (nat_cmp version) (sym w) ∙ order in
          let clash : Less ≡ Equal = sym tie ∙ itself nat_cmp (λ n. n) nat_cmp_total version in
          false≢true (ap is_eq clash)
      by (inr i) = above version draft (ap (nat_cmp version) (sym (live_key other.0 i)) ∙ order)

  -- the change at an own key is the last at its place
  last_own : (changes : List Change) (at : Key) (before : Option Row) (change : Change) → HasAscendingKeys changes → AllByRecursion (λ c. IsOfDraft version opens c.0) changes
      → find (is_own_at version at) changes ≡ Some change → after_at changes at before ≡ change.1
  last_own [] at before change up of e = cc
  last_own (first ∷ rest) at before change up of e = by (last_own rest at (if is_eq (place_cmp first.0 at) then first.1 else before) change up.1 of.1) (is_own_at version at first) refl e
    where
      by : (find (is_own_at version at) rest ≡ Some change → after_at (first ∷ rest) at before ≡ change.1)
          → (b : Bool) → is_own_at version at first ≡ b → (if b then Some first else find (is_own_at version at) rest) ≡ Some change → after_at (first ∷ rest) at before ≡ change.1
      by more true f g =
          let parts = and_parts (first.0.version == version) (is_eq (place_cmp first.0 at)) f in
          let v : first.0.version ≡ version = eqb-true _ _ parts.0 in
          let same : first ≡ change = cc in
          ap (λ b. after_at rest at (if b then first.1 else before)) parts.1
          ∙ (none_at rest at first.1 (λ c i. apart c i v (eq_of _ parts.1) (is_eq (place_cmp c.0 at)) refl) ∙ ap (λ (c : Change). c.1) same)
        where
          apart : (c : Change) → IsIn c rest → first.0.version ≡ version → place_cmp first.0 at ≡ Equal → (b : Bool) → is_eq (place_cmp c.0 at) ≡ b → is_eq (place_cmp c.0 at) ≡ false
          apart c i v s true h =
              absurd (none_behind first c v (of_each (λ c. IsOfDraft version opens c.0) rest c of.1 i) (of_each (λ other. key_cmp first.0 (change_key other) ≡ Less) rest c up.0 i)
              (place_equal first.0 c.0 (place_on first.0 at c.0 (at_one_place first.0 at s) (place_back c.0 at (at_one_place c.0 at (eq_of _ h))))))
          apart c i v s false h = h
      by more false f g = more g

  -- where no own key is and no live row shows, nothing is changed
  none_own : (changes : List Change) (at : Key) (before : Option Row) → AllByRecursion (λ c. IsOfDraft version opens c.0) changes
      → find (is_own_at version at) changes ≡ None → row_in opens at ≡ None → after_at changes at before ≡ before
  none_own changes at before of e n = none_at changes at before (λ c i. by c i (is_eq (place_cmp c.0 at)) refl)
    where
      own : (c : Change) → IsIn c changes → c.0.version ≡ version → is_eq (place_cmp c.0 at) ≡ true → ⊥
      own c i v h = let found = finds (is_own_at version at) changes c i (and_from _ _ (eq-eqb _ _ v) h) in no_some found.one (sym e ∙ found.found)

      either : (c : Change) → IsIn c changes → is_eq (place_cmp c.0 at) ≡ true → IsOfDraft version opens c.0 → ⊥
      either c i h (inl v) = own c i v h
      either c i h (inr j) = shows_at c.0 at j h n

      by : (c : Change) → IsIn c changes → (b : Bool) → is_eq (place_cmp c.0 at) ≡ b → is_eq (place_cmp c.0 at) ≡ false
      by c i false h = h
      by c i true h = absurd (either c i h (of_each (λ c. IsOfDraft version opens c.0) changes c of i))

  abbrev own_of : List Change → List Change
  own_of changes = own_changes version changes

  -- among own changes, the one at a place
  own_found : (changes : List Change) (at : Key) → find (is_own_at version at) (own_of changes) ≡ find (is_own_at version at) changes
  own_found changes at = find_kept (λ c. c.0.version == version) (λ c. is_eq (place_cmp c.0 at)) changes

  all_kept : (P : Change → Type 0) (changes : List Change) → AllByRecursion P changes → AllByRecursion P (own_of changes)
  all_kept P changes all = each_of P (own_of changes) (λ c i. of_each P changes c all (of_filter (λ c. c.0.version == version) changes c i).is_in)

  module _ (rows : List Row) (changes : List Change) (up : IsInPlaceOrder rows) (ascends : HasAscendingKeys changes) (stand : StandUnderTheirKeys changes) (of : AllByRecursion (λ c. IsOfDraft version opens c.0) changes)
      (shows : (key : Key) (row : Row) → row_in opens key ≡ Some row → row_in rows key ≡ Some row)
      (stays : (key : Key) (row : Row) → row_in opens key ≡ Some row → row_in (change_places rows changes) key ≡ Some row) where
    found_after : (at : Key) → keyed.find place_cmp row_key (change_places rows changes) at ≡ after_at changes at (keyed.find place_cmp row_key rows at)
    found_after at = find_changes changes rows at up stand

    -- what stands where a live row shows stays
    stays_at : (at : Key) (row : Row) → row_in opens at ≡ Some row → after_at changes at (keyed.find place_cmp row_key rows at) ≡ Some row
    stays_at at row e = sym (found_after at) ∙ (sym (row_in_is (change_places rows changes) at) ∙ stays at row e)

    -- no live row shows at the place of a change at an own key
    closed_at : (at : Key) (change : Change) → find (is_own_at version at) changes ≡ Some change → (row : Row) → row_in opens at ≡ Some row → ⊥
    closed_at at change e row f =
        let left : change.1 ≡ Some row = sym (last_own changes at (keyed.find place_cmp row_key rows at) change ascends of e) ∙ stays_at at row f in
        let one = find_of (is_own_at version at) changes change e in
        let own : StandsUnderItsKey change = of_each StandsUnderItsKey changes change stand one.is_in in
        let v : change.0.version ≡ version = eqb-true _ _ (and_parts (change.0.version == version) (is_eq (place_cmp change.0 at)) one.passes).0 in
        let live_row : row.key.version ≡ 0 = of_each (λ r. r.key.version ≡ 0) opens row are_live (row_found opens at row f).is_in in
        draft (sym (by change left own ∙ v) ∙ live_row)
      where
        by : (change : Change) → change.1 ≡ Some row → StandsUnderItsKey change → row.key.version ≡ change.0.version
        by (key, None) l own = cc
        by (key, Some put_row) l own = let same : put_row ≡ row = cc in ap (λ (r : Row). r.key.version) (sym same) ∙ ap (λ (k : Key). k.version) own

    -- the own changes are of the draft's rows alone
    pub are_own : AllByRecursion (IsOwnChange version opens) (own_of changes)
    are_own = each_of (IsOwnChange version opens) (own_of changes) (λ c i. one c (of_filter (λ c. c.0.version == version) changes c i))
      where
        none : (c : Change) → IsIn c changes → (c.0.version == version) ≡ true → (found : Option Row) → row_in opens c.0 ≡ found → row_in opens c.0 ≡ None
        none c i v None e = e
        none c i v (Some row) e =
            let found = finds (is_own_at version c.0) changes c i (and_from _ _ v (ap is_eq (itself place_cmp row_key place_cmp_total c.0))) in
            absurd (closed_at c.0 found.one found.found row e)

        one : (c : Change) → record { is_in : IsIn c changes; passes : (c.0.version == version) ≡ true } → IsOwnChange version opens c
        one c f = record { version = eqb-true _ _ f.passes; stands = of_each StandsUnderItsKey changes c stand f.is_in; closed = none c f.is_in f.passes (row_in opens c.0) refl }

    -- and leave what all changes leave
    pub same_rows : change_places rows (own_of changes) ≡ change_places rows changes
    same_rows =
        same_from_find place_cmp row_key place_cmp_total (change_places rows (own_of changes)) (change_places rows changes) (in_order_changes (own_of changes) rows up) (in_order_changes changes rows up)
        (λ at. find_changes (own_of changes) rows at up (all_kept StandsUnderItsKey changes stand) ∙ (by at (find (is_own_at version at) changes) refl ∙ sym (found_after at)))
      where
        none_kept : (at : Key) → find (is_own_at version at) changes ≡ None → after_at (own_of changes) at (keyed.find place_cmp row_key rows at) ≡ keyed.find place_cmp row_key rows at
        none_kept at e = none_at (own_of changes) at _ (λ c i. at_none c (of_filter (λ c. c.0.version == version) changes c i) (is_eq (place_cmp c.0 at)) refl)
          where
            at_none : (c : Change) → record { is_in : IsIn c changes; passes : (c.0.version == version) ≡ true } → (b : Bool) → is_eq (place_cmp c.0 at) ≡ b → is_eq (place_cmp c.0 at) ≡ false
            at_none c f false h = h
            at_none c f true h = let found = finds (is_own_at version at) changes c f.is_in (and_from _ _ f.passes h) in absurd (no_some found.one (sym e ∙ found.found))

        kept : (at : Key) (found : Option Row) → row_in opens at ≡ found → find (is_own_at version at) changes ≡ None → keyed.find place_cmp row_key rows at ≡ after_at changes at (keyed.find place_cmp row_key rows at)
        kept at None f e = sym (none_own changes at (keyed.find place_cmp row_key rows at) of e f)
        kept at (Some row) f e = sym (row_in_is rows at) ∙ (shows at row f ∙ sym (stays_at at row f))

        by : (at : Key) (found : Option Change) → find (is_own_at version at) changes ≡ found → after_at (own_of changes) at (keyed.find place_cmp row_key rows at) ≡ after_at changes at (keyed.find place_cmp row_key rows at)
        by at None e = none_kept at e ∙ kept at (row_in opens at) refl e
        by at (Some change) e =
            last_own (own_of changes) at (keyed.find place_cmp row_key rows at) change (ascends_filter key_cmp change_key key_cmp_total (λ c. c.0.version == version) changes ascends) (all_kept (λ c. IsOfDraft version opens c.0) changes of) (own_found changes at ∙ e)
            ∙ sym (last_own changes at (keyed.find place_cmp row_key rows at) change ascends of e)

-- ---- for a layer

-- a row of which puts are made is one of those put or was there
of_puts : (own rows : List Row) (row : Row) → IsIn row (fold with_row rows own) → IsIn row rows ⊎ IsIn row own
of_puts [] rows row i = inl i
of_puts (first ∷ own) rows row i = by (of_puts own (with_row rows first) row i)
  where
    put : (first ≡ row) ⊎ IsIn row rows → IsIn row rows ⊎ IsIn row (first ∷ own)
    put (inl e) = inr (inl e)
    put (inr j) = inl j

    by : IsIn row (with_row rows first) ⊎ IsIn row own → IsIn row rows ⊎ IsIn row (first ∷ own)
    by (inl j) = put (put_of place_cmp row_key rows first row j)
    by (inr j) = inr (inr j)

of_layer : (layer : Layer) (row : Row) → IsIn row (layer_rows layer) → IsIn row (open_rows layer) ⊎ IsIn row layer.own
unfolding layer_rows
of_layer layer row i = of_puts layer.own (open_rows layer) row i

pub keys_of_draft : (layer : Layer) → IsLayer layer → (key : Key) → IsOfView (layer_view layer) key → IsOfDraft layer.version (open_rows layer) key
keys_of_draft layer is key (inl v) = inl v
keys_of_draft layer is key (inr i) = let of = of_map row_key (layer_rows layer) key i in by of.one of.image (of_layer layer of.one of.is_in)
  where
    by : (row : Row) → row.key ≡ key → IsIn row (open_rows layer) ⊎ IsIn row layer.own → IsOfDraft layer.version (open_rows layer) key
    by row e (inl j) = inr (subst (λ (k : Key). IsIn k (map row_key (open_rows layer))) e (in_map row_key (open_rows layer) row j))
    by row e (inr j) = inl (ap (λ (k : Key). k.version) (sym e) ∙ of_each (λ row. row.key.version ≡ layer.version) layer.own row (own_all layer is) j)

pub opens_live : (layer : Layer) → AllByRecursion (λ row. row.key.version ≡ 0) (open_rows layer)
opens_live layer = each_of (λ row. row.key.version ≡ 0) (open_rows layer) (λ row i. eqb-true row.key.version 0 (of_filter is_live layer.rows row (of_filter (λ row. is_open layer.root layer.before row) (live layer.rows) row i).is_in).passes)
