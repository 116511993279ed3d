-- What rows name is there after an accepted operation.
use Rattle.std.proofs.Common.{◌≡◌, ℕ, Bool, true, false, ◌&&◌, ◌||◌, ◌⊎◌, inl, inr, List, refl, sym, ap, subst, ◌∙◌, Option, Some, None}
use Rattle.std.specs.Prelude.{◌==◌, not, IsNone, unwrap_or, if◌then◌else◌}
use Rattle.std.specs.List.{list_any}
use Rattle.std.specs.declared.cmp.Ordering.TheVariants.{Equal}
use Rattle.std.proofs.lemmas.Bool.{and_from, and_parts, both_ways, eqb-true, eq-eqb, false≢true}
use Rattle.shop_defs.specs.declared.entity.Entity.{Entity}
use Rattle.shop_defs.specs.declared.key.Key.{Key}
use Rattle.shop_defs.specs.declared.row.Row.{Row}
use Rattle.shop_defs.specs.declared.op.Op.{Op}
use Rattle.shop_defs.specs.declared.table.OnDelete.{OnDelete}
use Rattle.shop_defs.specs.declared.table.OnDelete.TheVariants as O
use Rattle.shop_defs.specs.declared.table.Part.{Part}
use Rattle.shop_defs.specs.declared.table.Part.TheVariants as P
use Rattle.shop_defs.specs.declared.table.Reference.{Reference}
use Rattle.shop_defs.specs.declared.table.TheConstants.{REFERENCES}
use Rattle.shop_defs.specs.Fitting.{is_writable}
use Rattle.shop_defs.specs.References.{acts_on_delete}
use Rattle.shop_defs.specs.Rows.{row_key}
use Rattle.shop_defs.proofs.TableLaws.{kept_are_not_written}
use Rattle.shop_defs.proofs.EachLine.{same_entity}
use Rattle.shop_operations.specs.References.{is_entity, is_id, part_of, named, is_one, ties, cascades, restricts, sets_null, falls_at, falls_with, holds_back, is_there, is_met, is_grounded, are_grounded}
use Rattle.shop_operations.specs.Deletes.{stands_at, goes, gone, kept, in_use, is_field, is_emptied, emptied, deleted}
use Rattle.shop_operations.specs.Upserts.{place_cmp, row_in, with_row, left, bare_row, gives, gives_part, missing_reference}
use Rattle.closure.specs.Closure.{IsIn}
use Rattle.closure.proofs.Members.{Found, any_is, any_of, all_at, all_from, in_filter, in_map, none_passes}
use Rattle.closure.specs.Least.{IsClosed}
use Rattle.closure.proofs.Laws.{reached_closed, reached_least}
use Rattle.shop_soundness.proofs.Accepted.{given_met}
use Rattle.shop_soundness.proofs.Emptied.{named_part, named_then, ident_kept, id_of_tie, IsLeft, of_deleted}
use Rattle.shop_soundness.proofs.Lefts.{left_key, left_ident, was_there}
use Rattle.shop_soundness.proofs.Lists.{no_some, put_has, put_keeps, put_of}
use Rattle.shop_soundness.proofs.Places.{at_one_place, stands_place}
use Rattle.shop_soundness.proofs.Tables.{is_in_field, emptied_are_fields, cascades_are_written}

-- what an old row names
pub old_met : (rows : List Row) (row : Row) (reference : Reference) → are_grounded REFERENCES rows ≡ true → IsIn row rows → IsIn reference REFERENCES → is_met reference rows row ≡ true
unfolding are_grounded is_grounded
old_met rows row reference grounded i j = all_at (λ s. is_met s rows row) REFERENCES reference (all_at (is_grounded REFERENCES rows) rows row grounded i) j

-- all that each row names by each reference
pub all_grounded : (rows : List Row) → ((row : Row) (reference : Reference) → IsIn row rows → IsIn reference REFERENCES → is_met reference rows row ≡ true) → are_grounded REFERENCES rows ≡ true
unfolding are_grounded is_grounded
all_grounded rows met = all_from (is_grounded REFERENCES rows) rows (λ row i. all_from (λ s. is_met s rows row) REFERENCES (λ reference j. met row reference i j))

-- ---- upserts

-- what is there stays
there_then : (rows : List Row) (new : Row) (of : Entity) (name : Option ℕ) → is_there rows of name ≡ true → is_there (with_row rows new) of name ≡ true
there_then rows new of None h = refl
there_then rows new of (Some id) h = by (any_of (is_one of id) rows h)
  where
    stays : (f : Found (is_one of id) rows) → IsIn f.one (with_row rows new) ⊎ (place_cmp f.one.key new.key ≡ Equal) → list_any (is_one of id) (with_row rows new) ≡ true
    stays f (inl i) = any_is (is_one of id) (with_row rows new) f.one i f.passes
    stays f (inr e) =
        let s = at_one_place f.one.key new.key e in
        let both = and_parts (is_entity of f.one.key.entity) (id == f.one.key.id) f.passes in
        any_is (is_one of id) (with_row rows new) new (put_has place_cmp row_key rows new) (and_from _ _ (eq-eqb _ _ (eqb-true _ _ both.0 ∙ s.entity)) (eq-eqb _ _ (eqb-true _ _ both.1 ∙ s.id)))

    by : Found (is_one of id) rows → list_any (is_one of id) (with_row rows new) ≡ true
    by f = stays f (put_keeps place_cmp row_key rows new f.one f.is_in)

module _ (rows : List Row) (key : Key) (op : Op) (grounded : are_grounded REFERENCES rows ≡ true) where
  -- what isn't given was there
  not_given_met : (reference : Reference) → IsIn reference REFERENCES → (number : ℕ) → reference.part ≡ P.Field number → gives op number ≡ false → is_met reference (with_row rows (left rows key op)) (left rows key op) ≡ true
  not_given_met reference i number p free = by_entity (is_entity reference.entity (left rows key op).key.entity) refl
    where
      by_row : (id : ℕ) → is_entity reference.entity (left rows key op).key.entity ≡ true → (row : Option Row) → row_in rows key ≡ row → (unwrap_or row (bare_row key)).key ≡ (left rows key op).key → part_of (P.Field number) (unwrap_or row (bare_row key)) ≡ Some id → is_there rows reference.of (Some id) ≡ true
      by_row id k None f same n = absurd (no_some id n)
      by_row id k (Some row) f same n =
          let entity : is_entity reference.entity row.key.entity ≡ true = subst (λ (q : Key). is_entity reference.entity q.entity ≡ true) (sym same) k in
          let names : named reference row ≡ Some id = rw (entity, p) n in
          subst (λ q. is_there rows reference.of q ≡ true) names (old_met rows row reference grounded (was_there rows key row f).is_in i)

      by_id : is_entity reference.entity (left rows key op).key.entity ≡ true → (q : Option ℕ) → part_of (P.Field number) (left rows key op) ≡ q → is_there (with_row rows (left rows key op)) reference.of q ≡ true
      by_id k None e = refl
      by_id k (Some id) e = there_then rows (left rows key op) reference.of (Some id) (by_row id k (row_in rows key) refl (sym (left_key rows key op)) (left_ident rows key op number id free e))

      by_entity : (b : Bool) → is_entity reference.entity (left rows key op).key.entity ≡ b → is_there (with_row rows (left rows key op)) reference.of (if b then part_of reference.part (left rows key op) else None) ≡ true
      by_entity false k = refl
      by_entity true k = rw p (by_id k (part_of (P.Field number) (left rows key op)) refl)

  module _ (checked : missing_reference (with_row rows (left rows key op)) op (left rows key op) ≡ None) where
    is_given_met : (reference : Reference) → IsIn reference REFERENCES → gives_part op reference.part ≡ true → is_met reference (with_row rows (left rows key op)) (left rows key op) ≡ true
    is_given_met reference i given = by (is_entity reference.entity (left rows key op).key.entity) refl
      where
        by : (b : Bool) → is_entity reference.entity (left rows key op).key.entity ≡ b → is_met reference (with_row rows (left rows key op)) (left rows key op) ≡ true
        by false k = rw k refl
        by true k = (given_met (with_row rows (left rows key op)) op (left rows key op) reference checked i k given).met

    -- what the row that is left names is there
    left_met : (reference : Reference) → IsIn reference REFERENCES → is_met reference (with_row rows (left rows key op)) (left rows key op) ≡ true
    left_met reference i = by reference.part refl
      where
        by_given : (number : ℕ) → reference.part ≡ P.Field number → (b : Bool) → gives op number ≡ b → is_met reference (with_row rows (left rows key op)) (left rows key op) ≡ true
        by_given number e true g = is_given_met reference i (ap (gives_part op) e ∙ g)
        by_given number e false g = not_given_met reference i number e g

        by : (part : Part) → reference.part ≡ part → is_met reference (with_row rows (left rows key op)) (left rows key op) ≡ true
        by P.Id e = is_given_met reference i (ap (gives_part op) e)
        by P.Second e = is_given_met reference i (ap (gives_part op) e)
        by (P.Field number) e = by_given number e (gives op number) refl

    -- after an upsert whose references are met
    pub upsert_grounded : are_grounded REFERENCES (with_row rows (left rows key op)) ≡ true
    upsert_grounded = all_grounded (with_row rows (left rows key op)) (λ row reference i j. by row reference j (put_of place_cmp row_key rows (left rows key op) row i))
      where
        by : (row : Row) (reference : Reference) → IsIn reference REFERENCES → (left rows key op ≡ row) ⊎ IsIn row rows → is_met reference (with_row rows (left rows key op)) row ≡ true
        by row reference j (inl e) = subst (λ (r : Row). is_met reference (with_row rows (left rows key op)) r ≡ true) e (left_met reference j)
        by row reference j (inr i) = there_then rows (left rows key op) reference.of (named reference row) (old_met rows row reference grounded i j)

-- ---- deletes

-- a row that goes with another is of an entity that operations may write
falls_writable : (row other : Row) → falls_with REFERENCES row other ≡ true → is_writable row.key.entity ≡ true
unfolding falls_at
falls_writable row other e = by (any_of (λ reference. cascades reference.on_delete && (is_entity reference.of other.key.entity && is_id (named reference row) other.key.id)) REFERENCES e)
  where
    by : Found (λ reference. cascades reference.on_delete && (is_entity reference.of other.key.entity && is_id (named reference row) other.key.id)) REFERENCES → is_writable row.key.entity ≡ true
    by f =
        let parts = and_parts (cascades f.one.on_delete) (is_entity f.one.of other.key.entity && is_id (named f.one row) other.key.id) f.passes in
        let name = id_of_tie (named f.one row) other.key.id (and_parts (is_entity f.one.of other.key.entity) (is_id (named f.one row) other.key.id) parts.1).1 in
        let entity = same_entity f.one.entity row.key.entity (eqb-true _ _ (named_part f.one row other.key.id name).entity) in
        let rule : (not (cascades f.one.on_delete) || is_writable f.one.entity) ≡ true = all_at (λ r. not (cascades r.on_delete) || is_writable r.entity) REFERENCES f.one cascades_are_written f.is_in in
        let written : is_writable f.one.entity ≡ true = rw parts.0 at rule in
        subst (λ (e : Entity). is_writable e ≡ true) entity written

-- so is each row that goes with a delete of one that is
pub goes_writable : (rows : List Row) (key : Key) (row : Row) → is_writable key.entity ≡ true → IsIn row rows → goes REFERENCES rows key row ≡ true → is_writable row.key.entity ≡ true
goes_writable rows key row w i e = reached_least (falls_with REFERENCES) rows (stands_at key) (λ r. is_writable r.key.entity) closed row i e
  where
    closed : IsClosed (falls_with REFERENCES) rows (stands_at key) (λ r. is_writable r.key.entity)
    closed = record {
      has_start = λ r j s. subst (λ (e : Entity). is_writable e ≡ true) (same_entity key.entity r.key.entity (stands_place key r s).entity) w;
      has_next = λ r other j k h f. falls_writable r other f;
    }

module _ (rows : List Row) (key : Key) (grounded : are_grounded REFERENCES rows ≡ true) (writable : is_writable key.entity ≡ true) (free : IsNone (in_use REFERENCES rows key)) where
  -- a row that is still named by one that stays doesn't go
  named_stays : (reference : Reference) → IsIn reference REFERENCES → (y : Row) (row : IsLeft REFERENCES rows key y) (other : Row) → IsIn other rows → (id : ℕ) → named reference (emptied REFERENCES (gone REFERENCES rows key) row.one) ≡ Some id → is_one reference.of id other ≡ true → goes REFERENCES rows key other ≡ false
  unfolding falls_at holds_back is_emptied
  named_stays reference within y row other j id e one = by (goes REFERENCES rows key other) refl
    where
      tie : ties reference row.one other ≡ true
      tie = subst (λ o. (is_entity reference.of other.key.entity && is_id o other.key.id) ≡ true) (sym (named_then REFERENCES (gone REFERENCES rows key) row.one reference id e)) one

      by_part : goes REFERENCES rows key other ≡ true → sets_null reference.on_delete ≡ true → is_in_field reference.part ≡ true → (part : Part) → reference.part ≡ part → ⊥
      by_part h f m P.Id p = false≢true (ap is_in_field (sym p) ∙ m)
      by_part h f m P.Second p = false≢true (ap is_in_field (sym p) ∙ m)
      by_part h f m (P.Field number) p =
          let n = named_part reference (emptied REFERENCES (gone REFERENCES rows key) row.one) id e in
          let k = ident_kept REFERENCES (gone REFERENCES rows key) row.one number id (subst (λ (at : Part). part_of at (emptied REFERENCES (gone REFERENCES rows key) row.one) ≡ Some id) p n.part) in
          let t : is_field reference.part number ≡ true = rw p (eq-eqb number number refl) in
          let a : list_any (ties reference row.one) (gone REFERENCES rows key) ≡ true = any_is (ties reference row.one) (gone REFERENCES rows key) other (in_filter (goes REFERENCES rows key) rows other j h) tie in
          both_ways (is_emptied REFERENCES (gone REFERENCES rows key) row.one number) k.stays
          (any_is (λ r. sets_null r.on_delete && is_field r.part number && list_any (ties r row.one) (gone REFERENCES rows key)) REFERENCES reference within (and_from _ _ (and_from _ _ f t) a))

      by_fate : goes REFERENCES rows key other ≡ true → (fate : OnDelete) → reference.on_delete ≡ fate → ⊥
      by_fate h O.Cascade f =
          let falls : falls_with REFERENCES row.one other ≡ true = any_is (λ r. cascades r.on_delete && ties r row.one other) REFERENCES reference within (and_from _ _ (ap cascades f) tie) in
          both_ways (goes REFERENCES rows key row.one) row.stays (reached_closed (falls_with REFERENCES) rows (stands_at key) row.one other row.is_in j h falls)
      by_fate h O.Restrict f =
          let holds : holds_back REFERENCES row.one other ≡ true = any_is (λ r. restricts r.on_delete && ties r row.one other) REFERENCES reference within (and_from _ _ (ap restricts f) tie) in
          both_ways (list_any (holds_back REFERENCES row.one) (gone REFERENCES rows key)) (none_passes (λ r. list_any (holds_back REFERENCES r) (gone REFERENCES rows key)) (kept REFERENCES rows key) row.one free row.is_kept) (any_is (holds_back REFERENCES row.one) (gone REFERENCES rows key) other (in_filter (goes REFERENCES rows key) rows other j h) holds)
      by_fate h O.SetNull f =
          let rule : (not (sets_null reference.on_delete) || is_in_field reference.part) ≡ true = all_at (λ r. not (sets_null r.on_delete) || is_in_field r.part) REFERENCES reference emptied_are_fields within in
          by_part h (ap sets_null f) (rw f at rule) reference.part refl
      by_fate h O.NeverDeleted f =
          let entity = same_entity reference.of other.key.entity (eqb-true _ _ (and_parts (is_entity reference.of other.key.entity) (is_id (named reference row.one) other.key.id) tie).0) in
          let written : is_writable reference.of ≡ true = subst (λ (e : Entity). is_writable e ≡ true) (sym entity) (goes_writable rows key other writable j h) in
          let rule : (acts_on_delete reference || not (is_writable reference.of)) ≡ true = all_at (λ r. acts_on_delete r || not (is_writable r.of)) REFERENCES reference kept_are_not_written within in
          false≢true (rw (f, written) at rule)

      by : (b : Bool) → goes REFERENCES rows key other ≡ b → b ≡ false
      by true h = absurd (by_fate h reference.on_delete refl)
      by false h = refl

  left_is_met : (reference : Reference) → IsIn reference REFERENCES → (y : Row) (row : IsLeft REFERENCES rows key y) → is_met reference (deleted REFERENCES rows key) (emptied REFERENCES (gone REFERENCES rows key) row.one) ≡ true
  left_is_met reference within y row = by (named reference (emptied REFERENCES (gone REFERENCES rows key) row.one)) refl
    where
      found : (id : ℕ) → named reference (emptied REFERENCES (gone REFERENCES rows key) row.one) ≡ Some id → Found (is_one reference.of id) rows → list_any (is_one reference.of id) (deleted REFERENCES rows key) ≡ true
      found id e f =
          let stays = named_stays reference within y row f.one f.is_in id e f.passes in
          any_is (is_one reference.of id) (deleted REFERENCES rows key) (emptied REFERENCES (gone REFERENCES rows key) f.one)
          (in_map (emptied REFERENCES (gone REFERENCES rows key)) (kept REFERENCES rows key) f.one (in_filter (λ r. not (goes REFERENCES rows key r)) rows f.one f.is_in (ap not stays))) f.passes

      by : (o : Option ℕ) → named reference (emptied REFERENCES (gone REFERENCES rows key) row.one) ≡ o → is_there (deleted REFERENCES rows key) reference.of o ≡ true
      by None e = refl
      by (Some id) e =
          let met : is_met reference rows row.one ≡ true = old_met rows row.one reference grounded row.is_in within in
          found id e (any_of (is_one reference.of id) rows (subst (λ o. is_there rows reference.of o ≡ true) (named_then REFERENCES (gone REFERENCES rows key) row.one reference id e) met))

  -- after a delete that nothing holds back
  pub delete_grounded : are_grounded REFERENCES (deleted REFERENCES rows key) ≡ true
  delete_grounded = all_grounded (deleted REFERENCES rows key) (λ y reference i j. each y reference j (of_deleted REFERENCES rows key y i))
    where
      each : (y : Row) (reference : Reference) → IsIn reference REFERENCES → IsLeft REFERENCES rows key y → is_met reference (deleted REFERENCES rows key) y ≡ true
      each y reference j row = subst (λ (r : Row). is_met reference (deleted REFERENCES rows key) r ≡ true) row.image (left_is_met reference j y row)
