-- What operations changed of a draft's rows, and the commit, made one delta.
use Rattle.std.proofs.Common.{◌≡◌, ℕ, Bool, true, false, not, List, [], ◌∷◌, ◌++◌, refl, sym, ap, ◌∙◌, Option, Some, None, if◌then◌else◌}
use Rattle.std.specs.Prelude.{◌==◌}
use Rattle.std.specs.List.{AllByRecursion, fold}
use Rattle.std.specs.declared.cmp.Ordering.{Ordering}
use Rattle.std.specs.declared.cmp.Ordering.TheVariants.{Less, Equal, Greater}
use Rattle.std.specs.Ordering.{is_eq}
use Rattle.std.proofs.lemmas.Bool.{eq-eqb, false≢true}
use Rattle.std.proofs.lemmas.Grind.{flat_map-append}
use Rattle.std.proofs.lemmas.List.{append-nil}
use Rattle.shop_defs.specs.declared.delta.Delta.{Delta}
use Rattle.shop_defs.specs.declared.key.Key.{Key}
use Rattle.shop_defs.specs.declared.row.Row.{Row}
use Rattle.shop_defs.specs.Joined.{Change, change_key, joined, all_changes, add_changes, last_in, later_of}
use Rattle.shop_defs.specs.Keys.{key_cmp}
use Rattle.shop_defs.specs.Rows.{row_key, row_at, change_row, change_rows, IsInKeyOrder}
use Rattle.shop_defs.proofs.Keys.{key_cmp_total}
use Rattle.shop_defs.proofs.LastChanges.{joined_has_last}
use Rattle.shop_drafts.specs.Making.{with_rows}
use Rattle.shop_drafts.specs.Writing.{without_version}
use Rattle.shop_operations.specs.References.{of_version}
use Rattle.shop_rows.specs.Changing.{row_after, StandsUnderItsKey, StandUnderTheirKeys, HasAscendingKeys}
use Rattle.shop_rows.proofs.ChangedRows.{in_order-change_rows, row_at-change_rows, last_in-ascending}
use Rattle.shop_rows.proofs.Mentioning.{found_key}
use Rattle.shop_write.proofs.InOrder.{guard, later, all_puts, ascends_filter, ascends_puts, find_filter, find_puts, same_from_find}
use Rattle.shop_write.proofs.LivePlaces.{same_version}
use Rattle.shop_version.specs.DraftSteps.{AreOwn, StandAll}

pub change_append : (changes more : List Change) (rows : List Row) → change_rows rows (changes ++ more) ≡ change_rows (change_rows rows changes) more
change_append [] more rows = refl
change_append (change ∷ changes) more rows = change_append changes more (change_row rows change.0 change.1)

pub all_append : (P : Change → Type 0) (xs ys : List Change) → AllByRecursion P xs → AllByRecursion P ys → AllByRecursion P (xs ++ ys)
all_append P [] ys all more = more
all_append P (x ∷ xs) ys all more = (all.0, all_append P xs ys all.1 more)

-- ---- deltas made one

joined_from : (deltas : List Delta) (all : List Change) → StandUnderTheirKeys all → StandAll deltas → StandUnderTheirKeys (fold (λ all (delta : Delta). add_changes all delta.changes) all deltas)
joined_from [] all stand each = stand
joined_from (delta ∷ deltas) all stand each = joined_from deltas (add_changes all delta.changes) (all_puts key_cmp change_key key_cmp_total StandsUnderItsKey delta.changes all stand each.0) each.1

pub joined_stand : (deltas : List Delta) → StandAll deltas → StandUnderTheirKeys (joined deltas)
joined_stand deltas each = joined_from deltas [] tt each

pub all_stand : (deltas : List Delta) → StandAll deltas → StandUnderTheirKeys (all_changes deltas)
all_stand [] each = tt
all_stand (delta ∷ deltas) each = all_append StandsUnderItsKey delta.changes (all_changes deltas) each.0 (all_stand deltas each.1)

-- the deltas made one change what they change one after the other
pub joined_rows : (rows : List Row) (deltas : List Delta) → IsInKeyOrder rows → StandAll deltas → HasAscendingKeys (joined deltas) → change_rows rows (joined deltas) ≡ change_rows rows (all_changes deltas)
joined_rows rows deltas up each ascends =
    same_from_find key_cmp row_key key_cmp_total _ _ (in_order-change_rows (joined deltas) rows up) (in_order-change_rows (all_changes deltas) rows up)
    (λ key. row_at-change_rows (joined deltas) rows up (joined_stand deltas each) key
    ∙ (ap (λ change. row_after change (row_at rows key)) (last_in-ascending (joined deltas) key ascends ∙ joined_has_last deltas key)
    ∙ sym (row_at-change_rows (all_changes deltas) rows up (all_stand deltas each) key)))

-- one delta more, behind the others
pub changes_more : (deltas : List Delta) (delta : Delta) → all_changes (deltas ++ delta ∷ []) ≡ all_changes deltas ++ delta.changes
changes_more deltas delta = flat_map-append (λ (d : Delta). d.changes) deltas (delta ∷ []) ∙ ap (λ more. all_changes deltas ++ more) (append-nil delta.changes)

pub stand_more : (deltas : List Delta) (delta : Delta) → StandAll deltas → StandUnderTheirKeys delta.changes → StandAll (deltas ++ delta ∷ [])
stand_more [] delta each stand = (stand, tt)
stand_more (first ∷ deltas) delta each stand = (each.0, stand_more deltas delta each.1 stand)

-- ---- changes of the rows of a version

-- the last change at a key has a key of the version
last_version : (version : ℕ) (changes : List Change) (key : Key) (change : Change) → AreOwn version changes → last_in changes key ≡ Some change → key.version ≡ version
last_version version [] key change own e = cc
last_version version (first ∷ rest) key change own e = by (λ last f. last_version version rest key last own.1 f) (last_in rest key) refl (is_eq (key_cmp first.0 key)) refl e
  where
    equal : (o : Ordering) → is_eq o ≡ true → o ≡ Equal
    equal Less e = absurd (false≢true e)
    equal Equal e = refl
    equal Greater e = absurd (false≢true e)

    by : ((last : Change) → last_in rest key ≡ Some last → key.version ≡ version) → (found : Option Change) → last_in rest key ≡ found → (b : Bool) → is_eq (key_cmp first.0 key) ≡ b → later_of (if b then Some first else None) found ≡ Some change → key.version ≡ version
    by more (Some last) f b g h = more last f
    by more None f true g h = sym (same_version first.0 key (equal _ g)) ∙ own.0
    by more None f false g h = cc

module _ (rows : List Row) (version : ℕ) (changes : List Change) (up : IsInKeyOrder rows) (own : AreOwn version changes) (stand : StandUnderTheirKeys changes) where
  of_draft : Row → Bool
  of_draft row = row.key.version == version

  own_up : IsInKeyOrder (of_version version rows)
  own_up = ascends_filter key_cmp row_key key_cmp_total (λ row. row.key.version == version) rows up

  rest_up : IsInKeyOrder (without_version rows version)
  rest_up = ascends_filter key_cmp row_key key_cmp_total (λ row. not (row.key.version == version)) rows up

  after_up : IsInKeyOrder (change_rows (of_version version rows) changes)
  after_up = in_order-change_rows changes (of_version version rows) own_up

  -- what is found at a key, by what was there and what changed
  parts : (key : Key) (found : Option Row) → row_at rows key ≡ found → (change : Option Change) → last_in changes key ≡ change
      → row_after change found ≡ later (guard (λ row. not (row.key.version == version)) found) (row_after change (guard (λ row. row.key.version == version) found))
  parts key None e None f = refl
  parts key None e (Some (at, None)) f = refl
  parts key None e (Some (at, Some row)) f = refl
  parts key (Some old) e None f = by (old.key.version == version) refl
    where
      by : (b : Bool) → (old.key.version == version) ≡ b → Some old ≡ later (guard (λ row. not (row.key.version == version)) (Some old)) (guard (λ row. row.key.version == version) (Some old))
      by true g = rw g refl
      by false g = rw g refl
  parts key (Some old) e (Some (at, None)) f =
      let v : (old.key.version == version) ≡ true = eq-eqb _ _ (ap (λ (k : Key). k.version) (found_key rows key old e) ∙ last_version version changes key (at, None) own f) in
      rw v refl
  parts key (Some old) e (Some (at, Some row)) f = refl

  -- changes of the version's rows are made among them alone
  pub own_changed : change_rows rows changes ≡ with_rows (without_version rows version) (change_rows (of_version version rows) changes)
  own_changed =
      same_from_find key_cmp row_key key_cmp_total _ _ (in_order-change_rows changes rows up) (ascends_puts key_cmp row_key key_cmp_total (change_rows (of_version version rows) changes) (without_version rows version) rest_up)
      (λ key. row_at-change_rows changes rows up stand key
      ∙ (parts key (row_at rows key) refl (last_in changes key) refl
      ∙ sym (find_puts key_cmp row_key key_cmp_total (change_rows (of_version version rows) changes) (without_version rows version) key after_up
      ∙ (ap (λ (found : Option Row). later found (row_at (change_rows (of_version version rows) changes) key)) (find_filter key_cmp row_key key_cmp_total (λ row. not (row.key.version == version)) rows key up)
      ∙ ap (later (guard (λ row. not (row.key.version == version)) (row_at rows key)))
      (row_at-change_rows changes (of_version version rows) own_up stand key
      ∙ ap (row_after (last_in changes key)) (find_filter key_cmp row_key key_cmp_total (λ row. row.key.version == version) rows key up))))))
