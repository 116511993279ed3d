-- No row stands lower than it may after an accepted operation.
use Rattle.std.proofs.Common.{◌≡◌, ℕ, zero, suc, Bool, true, false, ◌&&◌, ◌||◌, ◌⊎◌, inl, inr, List, ◌∷◌, length, refl, sym, ap, subst, ◌∙◌, Option, Some, None}
use Rattle.std.specs.Prelude.{◌==◌, nat_le, find, is_some, unwrap_or, if◌then◌else◌}
use Rattle.std.specs.Option.{option_and_then, option_map}
use Rattle.std.proofs.lemmas.Bool.{and_from, and_parts, both_ways, eqb-true, eq-eqb, false_from_ne_true, or_left, or_right, true≢false}
use Rattle.shop_defs.specs.declared.broken.Broken.TheVariants as B
use Rattle.shop_defs.specs.declared.entity.Entity.{Entity}
use Rattle.shop_defs.specs.declared.key.Key.{Key}
use Rattle.shop_defs.specs.declared.op.Op.{Op}
use Rattle.shop_defs.specs.declared.row.Row.{Row}
use Rattle.shop_defs.specs.declared.table.Part.{Part}
use Rattle.shop_defs.specs.declared.table.Part.TheVariants as P
use Rattle.shop_defs.specs.declared.table.TheConstants.{REFERENCES, LEVEL_LIMITS}
use Rattle.shop_defs.specs.Entities.{entity_number}
use Rattle.shop_defs.specs.Fitting.{row_key_fits}
use Rattle.shop_defs.specs.Rows.{row_key}
use Rattle.shop_defs.proofs.EachLine.{same_entity}
use Rattle.shop_operations.specs.References.{is_entity, part_of, named, is_one, is_there, are_grounded}
use Rattle.shop_operations.specs.Parents.{is_parental, parent_id, parent_row, walk, is_child, is_below, is_deep}
use Rattle.shop_operations.specs.Deletes.{stands_at, gone, emptied, deleted}
use Rattle.shop_operations.specs.Upserts.{place_cmp, row_in, with_row, left, bare_row, gives_part, gives_parent, sinks, parent_too_deep}
use Rattle.shop_operations.specs.Views.{IsInPlaceOrder}
use Rattle.closure.specs.Closure.{IsIn}
use Rattle.closure.proofs.Members.{Found, any_is, any_of, all_at, none_passes}
use Rattle.closure.proofs.Laws.{any_agree, reached_start, reached_closed}
use Rattle.shop_soundness.proofs.Places.{AreFormed}
use Rattle.shop_soundness.proofs.Accepted.{map_none}
use Rattle.shop_soundness.proofs.Ancestors.{HasParent, has_parent, has_same_parent, child_at, AreShallow, not_deep, all_shallow, root_not_deep, StandsFor, deep_before}
use Rattle.shop_soundness.proofs.Emptied.{named_part, part_named, named_then, IsLeft, of_deleted}
use Rattle.shop_soundness.proofs.Grounded.{old_met}
use Rattle.shop_soundness.proofs.Lefts.{left_key, left_ident, was_there}
use Rattle.shop_soundness.proofs.Lists.{no_some, put_find, put_has, put_of, find_of, finds}
use Rattle.shop_soundness.proofs.Ones.{one_at, one_alone}
use Rattle.shop_soundness.proofs.Places.{AtOnePlace, at_one_place, same_row, place_on, place_back, place_stands}

-- ---- upserts that give a parent

module _ (rows : List Row) (new : Row) where
  -- a row that isn't below the new one
  record IsClear (row : Row) : Type 0 where
    is_in : IsIn row (with_row rows new)
    above : is_below REFERENCES (with_row rows new) new row ≡ false

  abbrev Clear : Option Row → Type 0
  Clear None = Unit {0}
  Clear (Some row) = IsClear row

  -- it has the parent that it had
  same_parent : (row : Row) → IsClear row → parent_row REFERENCES (with_row rows new) row ≡ parent_row REFERENCES rows row
  same_parent row c = by (parent_id REFERENCES row) refl
    where
      other_one : (id : ℕ) → parent_id REFERENCES row ≡ Some id → (other : Row) → AtOnePlace other.key new.key → is_one row.key.entity id other ≡ true → ⊥
      other_one id e other s one =
          let both = and_parts (is_entity row.key.entity other.key.entity) (id == other.key.id) one in
          let child = child_at row new id e (and_from _ _ (eq-eqb _ _ (eqb-true _ _ both.0 ∙ s.entity)) (eq-eqb _ _ (eqb-true _ _ both.1 ∙ s.id))) in
          both_ways (is_below REFERENCES (with_row rows new) new row) c.above (reached_start (is_child REFERENCES) (with_row rows new) (λ r. is_child REFERENCES r new) row child)

      by : (o : Option ℕ) → parent_id REFERENCES row ≡ o → option_and_then (λ id. find (is_one row.key.entity id) (with_row rows new)) o ≡ option_and_then (λ id. find (is_one row.key.entity id) rows) o
      by None e = refl
      by (Some id) e = put_find place_cmp row_key (is_one row.key.entity id) rows new
          (false_from_ne_true (is_one row.key.entity id new) (other_one id e new (record { entity = refl; id = refl; second = refl })))
          (λ other f. false_from_ne_true (is_one row.key.entity id other) (other_one id e other (at_one_place other.key new.key f)))

  -- and its parent isn't below the new one either
  clear_parent : (row : Row) → IsClear row → Clear (parent_row REFERENCES (with_row rows new) row)
  clear_parent row c = by_id (parent_id REFERENCES row) refl
    where
      by : (id : ℕ) → parent_id REFERENCES row ≡ Some id → (o : Option Row) → find (is_one row.key.entity id) (with_row rows new) ≡ o → Clear o
      by id e None f = tt
      by id e (Some parent) f =
          let found = find_of (is_one row.key.entity id) (with_row rows new) parent f in
          let child = child_at row parent id e found.passes in
          record { is_in = found.is_in; above = false_from_ne_true (is_below REFERENCES (with_row rows new) new parent) (λ below. both_ways (is_below REFERENCES (with_row rows new) new row) c.above (reached_closed (is_child REFERENCES) (with_row rows new) (λ r. is_child REFERENCES r new) row parent c.is_in found.is_in below child)) }

      by_id : (o : Option ℕ) → parent_id REFERENCES row ≡ o → Clear (option_and_then (λ id. find (is_one row.key.entity id) (with_row rows new)) o)
      by_id None e = tt
      by_id (Some id) e = by id e (find (is_one row.key.entity id) (with_row rows new)) refl

  same_walk : (n : ℕ) (o : Option Row) → Clear o → walk REFERENCES (with_row rows new) n o ≡ walk REFERENCES rows n o
  same_walk zero o c = refl
  same_walk (suc n) None c = refl
  same_walk (suc n) (Some row) c = ap (λ rest. row ∷ rest) (same_walk n (parent_row REFERENCES (with_row rows new) row) (clear_parent row c) ∙ ap (walk REFERENCES rows n) (same_parent row c))

  same_deep : (row : Row) → IsClear row → is_deep REFERENCES LEVEL_LIMITS (with_row rows new) row ≡ is_deep REFERENCES LEVEL_LIMITS rows row
  unfolding is_deep
  same_deep row c = any_agree _ _ LEVEL_LIMITS (λ level i. ap (λ (w : List Row). is_entity level.entity row.key.entity && nat_le level.most (length w)) (same_walk level.most (parent_row REFERENCES (with_row rows new) row) (clear_parent row c) ∙ ap (walk REFERENCES rows level.most) (same_parent row c)))

  -- of the new row and those below it none stands too low
  none_sinks : find (sinks (with_row rows new) new) (with_row rows new) ≡ None → (row : Row) → IsIn row (with_row rows new) → (stands_at new.key row || is_below REFERENCES (with_row rows new) new row) ≡ true → is_deep REFERENCES LEVEL_LIMITS (with_row rows new) row ≡ true → ⊥
  none_sinks none row i below deep =
      both_ways (sinks (with_row rows new) new row) (none_passes (sinks (with_row rows new) new) (with_row rows new) row (ap is_some none) i) (and_from _ _ below deep)

  given_shallow : AreShallow rows → find (sinks (with_row rows new) new) (with_row rows new) ≡ None → AreShallow (with_row rows new)
  given_shallow shallow none = all_shallow (with_row rows new) (λ row i deep. by row i deep (put_of place_cmp row_key rows new row i))
    where
      itself : (row : Row) → new ≡ row → stands_at new.key row ≡ true
      itself row e = place_stands new.key row (subst (λ (r : Row). AtOnePlace new.key r.key) e (record { entity = refl; id = refl; second = refl }))

      old : (row : Row) → IsIn row (with_row rows new) → IsIn row rows → is_deep REFERENCES LEVEL_LIMITS (with_row rows new) row ≡ true → (b : Bool) → is_below REFERENCES (with_row rows new) new row ≡ b → ⊥
      old row i j deep true e = none_sinks none row i (or_right (stands_at new.key row) _ e) deep
      old row i j deep false e = both_ways (is_deep REFERENCES LEVEL_LIMITS (with_row rows new) row) (same_deep row (record { is_in = i; above = e }) ∙ not_deep rows row shallow j) deep

      by : (row : Row) → IsIn row (with_row rows new) → is_deep REFERENCES LEVEL_LIMITS (with_row rows new) row ≡ true → (new ≡ row) ⊎ IsIn row rows → ⊥
      by row i deep (inl e) = none_sinks none row i (or_left (stands_at new.key row) _ (itself row e)) deep
      by row i deep (inr j) = old row i j deep (is_below REFERENCES (with_row rows new) new row) refl

-- ---- rows that a parent names

-- the row that has the parent's id
record IsParentRow (rows : List Row) (entity : Entity) (id : ℕ) : Type 0 where
  one : Row
  found : find (is_one entity id) rows ≡ Some one
  is_in : IsIn one rows
  is : is_one entity id one ≡ true

parent_there : (rows : List Row) (row : Row) (id : ℕ) → are_grounded REFERENCES rows ≡ true → IsIn row rows → HasParent row id → IsParentRow rows row.key.entity id
parent_there rows row id grounded i parent = by (any_of (is_one parent.reference.of id) rows (subst (λ o. is_there rows parent.reference.of o ≡ true) parent.name (old_met rows row parent.reference grounded i parent.is_in)))
  where
    by : Found (is_one parent.reference.of id) rows → IsParentRow rows row.key.entity id
    by f =
        let own : is_one row.key.entity id f.one ≡ true = subst (λ (e : Entity). is_one e id f.one ≡ true) parent.of f.passes in
        let there = finds (is_one row.key.entity id) rows f.one f.is_in own in
        let one = find_of (is_one row.key.entity id) rows there.one there.found in
        record { one = there.one; found = there.found; is_in = one.is_in; is = one.passes }

-- ---- upserts that give no parent

module _ (rows : List Row) (key : Key) (op : Op) (up : IsInPlaceOrder rows) (keys : AreFormed rows) (grounded : are_grounded REFERENCES rows ≡ true) (shallow : AreShallow rows) (fits : row_key_fits (left rows key op).key ≡ true) (place : AtOnePlace (left rows key op).key key) (same : key.entity ≡ op.entity) where
  abbrev new : Row
  new = left rows key op

  here : new.key.entity ≡ op.entity
  here = same_entity new.key.entity key.entity place.entity ∙ same

  -- a new row's parent isn't given
  not_given : gives_parent op ≡ false → (id : ℕ) (parent : HasParent new id) → gives_part op parent.reference.part ≡ false
  not_given free id parent = false_from_ne_true (gives_part op parent.reference.part) (λ g. both_ways (gives_parent op) free (any_is (λ reference. is_parental op.entity reference && gives_part op reference.part) REFERENCES parent.reference parent.is_in (and_from _ _ parental g)))
    where
      parental : is_parental op.entity parent.reference ≡ true
      parental = and_from _ _ (eq-eqb _ _ (ap (λ (e : Entity). entity_number e) (parent.entity ∙ here))) (eq-eqb _ _ (ap (λ (e : Entity). entity_number e) (parent.of ∙ here)))

  -- so it is that of the row before
  before_names : gives_parent op ≡ false → (id : ℕ) (parent : HasParent new id) (before : Row) → row_in rows key ≡ Some before → named parent.reference before ≡ Some id
  before_names free id parent before e = by parent.reference.part refl
    where
      own : new.key ≡ before.key
      own = left_key rows key op ∙ ap (λ (o : Option Row). (unwrap_or o (bare_row key)).key) e

      is : is_entity parent.reference.entity before.key.entity ≡ true
      is = eq-eqb _ _ (ap (λ (e : Entity). entity_number e) (parent.entity ∙ ap (λ (k : Key). k.entity) own))

      by : (part : Part) → parent.reference.part ≡ part → named parent.reference before ≡ Some id
      by P.Id p = absurd (true≢false (sym (ap (gives_part op) p) ∙ not_given free id parent))
      by P.Second p = absurd (true≢false (sym (ap (gives_part op) p) ∙ not_given free id parent))
      by (P.Field number) p =
          let now : part_of (P.Field number) new ≡ Some id = subst (λ (part : Part). part_of part new ≡ Some id) p (named_part parent.reference new id parent.name).part in
          let then_too = left_ident rows key op number id (sym (ap (gives_part op) p) ∙ not_given free id parent) now in
          let there : part_of (P.Field number) before ≡ Some id = subst (λ (o : Option Row). part_of (P.Field number) (unwrap_or o (bare_row key)) ≡ Some id) e then_too in
          part_named parent.reference before id is (subst (λ (part : Part). part_of part before ≡ Some id) (sym p) there)

  parent_before : gives_parent op ≡ false → (id : ℕ) → parent_id REFERENCES new ≡ Some id → (before : Row) → row_in rows key ≡ Some before → parent_id REFERENCES before ≡ Some id
  parent_before free id e before f =
      let parent = has_parent new id e in
      has_same_parent new before id (ap (λ (k : Key). k.entity) (left_key rows key op ∙ ap (λ (o : Option Row). (unwrap_or o (bare_row key)).key) f)) parent (before_names free id parent before f)

  -- where there was no row, the new one has no parent
  no_parent : gives_parent op ≡ false → row_in rows key ≡ None → (id : ℕ) → parent_id REFERENCES new ≡ Some id → ⊥
  no_parent free none id e = by parent.reference.part refl
    where
      parent : HasParent new id
      parent = has_parent new id e

      by : (part : Part) → parent.reference.part ≡ part → ⊥
      by P.Id p = true≢false (sym (ap (gives_part op) p) ∙ not_given free id parent)
      by P.Second p = true≢false (sym (ap (gives_part op) p) ∙ not_given free id parent)
      by (P.Field number) p =
          let now : part_of (P.Field number) new ≡ Some id = subst (λ (part : Part). part_of part new ≡ Some id) p (named_part parent.reference new id parent.name).part in
          let then_too = left_ident rows key op number id (sym (ap (gives_part op) p) ∙ not_given free id parent) now in
          let there : part_of (P.Field number) (bare_row key) ≡ Some id = subst (λ (o : Option Row). part_of (P.Field number) (unwrap_or o (bare_row key)) ≡ Some id) none then_too in
          no_some id there

  -- a row after the upsert, and the one that stood at its place
  record StoodAt (row before : Row) : Type 0 where
    is_in : IsIn row (with_row rows new)
    was_in : IsIn before rows
    at : AtOnePlace row.key before.key
    parents : (id : ℕ) → parent_id REFERENCES row ≡ Some id → parent_id REFERENCES before ≡ Some id

  stood_new : gives_parent op ≡ false → (before : Row) → row_in rows key ≡ Some before → StoodAt new before
  stood_new free before e =
      let was = was_there rows key before e in
      record {
        is_in = put_has place_cmp row_key rows new;
        was_in = was.is_in;
        at = place_on new.key key before.key place (place_back before.key key was.place);
        parents = λ id f. parent_before free id f before e;
      }

  stood_old : (row : Row) → IsIn row (with_row rows new) → IsIn row rows → StoodAt row row
  stood_old row i j = record { is_in = i; was_in = j; at = record { entity = refl; id = refl; second = refl }; parents = λ id f. f }

  all_keys : (row : Row) → IsIn row (with_row rows new) → row_key_fits row.key ≡ true
  all_keys row i = by (put_of place_cmp row_key rows new row i)
    where
      by : (new ≡ row) ⊎ IsIn row rows → row_key_fits row.key ≡ true
      by (inl e) = subst (λ (r : Row). row_key_fits r.key ≡ true) e fits
      by (inr j) = all_at (λ r. row_key_fits r.key) rows row keys j

  -- the one that stands at the place of a row that was there is what stood there
  stood_where : gives_parent op ≡ false → (row before : Row) → IsIn row (with_row rows new) → IsIn before rows → AtOnePlace row.key before.key → StoodAt row before
  stood_where free row before i j at = by (put_of place_cmp row_key rows new row i)
    where
      by_new : new ≡ row → (there : Row) → row_in rows key ≡ Some there → StoodAt row before
      by_new e there f =
          let was = was_there rows key there f in
          let new_at : AtOnePlace new.key before.key = subst (λ (r : Row). AtOnePlace r.key before.key) (sym e) at in
          let one : there ≡ before = same_row rows there before up was.is_in j (place_on there.key key before.key was.place (place_on key new.key before.key (place_back new.key key place) new_at)) in
          subst (λ (r : Row). StoodAt r before) e (subst (λ (r : Row). StoodAt new r) one (stood_new free there f))

      by : (new ≡ row) ⊎ IsIn row rows → StoodAt row before
      by (inl e) =
          let new_at : AtOnePlace new.key before.key = subst (λ (r : Row). AtOnePlace r.key before.key) (sym e) at in
          let there = finds (stands_at key) rows before j (place_stands key before (place_on key new.key before.key (place_back new.key key place) new_at)) in
          by_new e there.one there.found
      by (inr k) =
          let one : row ≡ before = same_row rows row before up k j at in
          subst (λ (r : Row). StoodAt row r) one (stood_old row i k)

  stood_parents : gives_parent op ≡ false → (row before : Row) → StoodAt row before → StandsFor StoodAt (parent_row REFERENCES (with_row rows new) row) (parent_row REFERENCES rows before)
  stood_parents free row before stood = by_id (parent_id REFERENCES row) refl
    where
      entity : row.key.entity ≡ before.key.entity
      entity = same_entity row.key.entity before.key.entity stood.at.entity

      by : (id : ℕ) → parent_id REFERENCES before ≡ Some id → (parent : Option Row) → find (is_one row.key.entity id) (with_row rows new) ≡ parent → StandsFor StoodAt parent (find (is_one before.key.entity id) rows)
      by id e None f = tt
      by id e (Some one) f =
          let found = find_of (is_one row.key.entity id) (with_row rows new) one f in
          let parent = has_parent before id e in
          let there = parent_there rows before id grounded stood.was_in parent in
          let one_is : is_one parent.reference.of id one ≡ true = subst (λ (e : Entity). is_one e id one ≡ true) (entity ∙ sym parent.of) found.passes in
          let there_is : is_one parent.reference.of id there.one ≡ true = subst (λ (e : Entity). is_one e id there.one ≡ true) (sym parent.of) there.is in
          let at = one_at parent.reference parent.is_in id one there.one (all_keys one found.is_in) (all_at (λ r. row_key_fits r.key) rows there.one keys there.is_in) one_is there_is in
          subst (StandsFor StoodAt (Some one)) (sym there.found) (stood_where free one there.one found.is_in there.is_in at)

      by_id : (name : Option ℕ) → parent_id REFERENCES row ≡ name → StandsFor StoodAt (option_and_then (λ id. find (is_one row.key.entity id) (with_row rows new)) name) (parent_row REFERENCES rows before)
      by_id None e = tt
      by_id (Some id) e =
          let was = stood.parents id e in
          subst (λ o. StandsFor StoodAt (find (is_one row.key.entity id) (with_row rows new)) (option_and_then (λ id. find (is_one before.key.entity id) rows) o)) (sym was) (by id was (find (is_one row.key.entity id) (with_row rows new)) refl)

  not_given_shallow : gives_parent op ≡ false → AreShallow (with_row rows new)
  not_given_shallow free = all_shallow (with_row rows new) (λ row i deep. by row i deep (put_of place_cmp row_key rows new row i))
    where
      stood_deep : (row before : Row) → StoodAt row before → is_deep REFERENCES LEVEL_LIMITS (with_row rows new) row ≡ true → ⊥
      stood_deep row before stood deep =
          let was = deep_before (with_row rows new) rows StoodAt (stood_parents free) row before stood (same_entity row.key.entity before.key.entity stood.at.entity) deep in
          both_ways (is_deep REFERENCES LEVEL_LIMITS rows before) (not_deep rows before shallow stood.was_in) was

      no_row : row_in rows key ≡ None → (name : Option ℕ) → parent_id REFERENCES new ≡ name → option_and_then (λ id. find (is_one new.key.entity id) (with_row rows new)) name ≡ None
      no_row none None e = refl
      no_row none (Some id) e = absurd (no_parent free none id e)

      by_new : (before : Option Row) → row_in rows key ≡ before → is_deep REFERENCES LEVEL_LIMITS (with_row rows new) new ≡ true → ⊥
      by_new None e deep = root_not_deep (with_row rows new) new (no_row e (parent_id REFERENCES new) refl) deep
      by_new (Some before) e deep = stood_deep new before (stood_new free before e) deep

      by : (row : Row) → IsIn row (with_row rows new) → is_deep REFERENCES LEVEL_LIMITS (with_row rows new) row ≡ true → (new ≡ row) ⊎ IsIn row rows → ⊥
      by row i deep (inl e) = by_new (row_in rows key) refl (subst (λ (r : Row). is_deep REFERENCES LEVEL_LIMITS (with_row rows new) r ≡ true) (sym e) deep)
      by row i deep (inr j) = stood_deep row row (stood_old row i j) deep

  pub upsert_shallow : parent_too_deep (with_row rows (left rows key op)) op (left rows key op) ≡ None → AreShallow (with_row rows (left rows key op))
  upsert_shallow checked = by (gives_parent op) refl checked
    where
      by : (b : Bool) → gives_parent op ≡ b → (if b then option_map (λ other. B.ParentTooDeep other.key.id) (find (sinks (with_row rows new) new) (with_row rows new)) else None) ≡ None → AreShallow (with_row rows new)
      by true e none = given_shallow rows new shallow (map_none _ _ none)
      by false e none = not_given_shallow e

-- ---- deletes

module _ (rows : List Row) (key : Key) (up : IsInPlaceOrder rows) (keys : AreFormed rows) (grounded : are_grounded REFERENCES rows ≡ true) (shallow : AreShallow rows) where
  -- a row that a delete leaves, and what it was
  record WasBefore (row before : Row) : Type 0 where
    is_in : IsIn before rows
    image : emptied REFERENCES (gone REFERENCES rows key) before ≡ row

  left_parents : (row before : Row) → WasBefore row before → StandsFor WasBefore (parent_row REFERENCES (deleted REFERENCES rows key) row) (parent_row REFERENCES rows before)
  left_parents row before was = by_id (parent_id REFERENCES row) refl
    where
      entity : row.key.entity ≡ before.key.entity
      entity = ap (λ (r : Row). r.key.entity) (sym was.image)

      parent_was : (id : ℕ) → parent_id REFERENCES row ≡ Some id → parent_id REFERENCES before ≡ Some id
      parent_was id e =
          let parent = has_parent row id e in
          let name : named parent.reference (emptied REFERENCES (gone REFERENCES rows key) before) ≡ Some id = subst (λ (r : Row). named parent.reference r ≡ Some id) (sym was.image) parent.name in
          has_same_parent row before id entity parent (named_then REFERENCES (gone REFERENCES rows key) before parent.reference id name)

      by : (id : ℕ) → parent_id REFERENCES before ≡ Some id → (parent : Option Row) → find (is_one row.key.entity id) (deleted REFERENCES rows key) ≡ parent → StandsFor WasBefore parent (find (is_one before.key.entity id) rows)
      by id e None f = tt
      by id e (Some one) f =
          let found = find_of (is_one row.key.entity id) (deleted REFERENCES rows key) one f in
          let left_one = of_deleted REFERENCES rows key one found.is_in in
          let parent = has_parent before id e in
          let there = parent_there rows before id grounded was.is_in parent in
          let image_is : is_one row.key.entity id (emptied REFERENCES (gone REFERENCES rows key) left_one.one) ≡ true = subst (λ (r : Row). is_one row.key.entity id r ≡ true) (sym left_one.image) found.passes in
          let one_is : is_one parent.reference.of id left_one.one ≡ true = subst (λ (e : Entity). is_one e id left_one.one ≡ true) (entity ∙ sym parent.of) image_is in
          let there_is : is_one parent.reference.of id there.one ≡ true = subst (λ (e : Entity). is_one e id there.one ≡ true) (sym parent.of) there.is in
          let same : left_one.one ≡ there.one = one_alone rows up keys parent.reference parent.is_in id left_one.one there.one left_one.is_in there.is_in one_is there_is in
          subst (StandsFor WasBefore (Some one)) (sym there.found) (record { is_in = there.is_in; image = subst (λ (r : Row). emptied REFERENCES (gone REFERENCES rows key) r ≡ one) same left_one.image })

      by_id : (name : Option ℕ) → parent_id REFERENCES row ≡ name → StandsFor WasBefore (option_and_then (λ id. find (is_one row.key.entity id) (deleted REFERENCES rows key)) name) (parent_row REFERENCES rows before)
      by_id None e = tt
      by_id (Some id) e =
          let had = parent_was id e in
          subst (λ o. StandsFor WasBefore (find (is_one row.key.entity id) (deleted REFERENCES rows key)) (option_and_then (λ id. find (is_one before.key.entity id) rows) o)) (sym had) (by id had (find (is_one row.key.entity id) (deleted REFERENCES rows key)) refl)

  pub delete_shallow : AreShallow (deleted REFERENCES rows key)
  delete_shallow = all_shallow (deleted REFERENCES rows key) (λ row i deep. by row deep (of_deleted REFERENCES rows key row i))
    where
      by : (row : Row) → is_deep REFERENCES LEVEL_LIMITS (deleted REFERENCES rows key) row ≡ true → IsLeft REFERENCES rows key row → ⊥
      by row deep was =
          let deep_then = deep_before (deleted REFERENCES rows key) rows WasBefore left_parents row was.one (record { is_in = was.is_in; image = was.image }) (ap (λ (r : Row). r.key.entity) (sym was.image)) deep in
          both_ways (is_deep REFERENCES LEVEL_LIMITS rows was.one) (not_deep rows was.one shallow was.is_in) deep_then
