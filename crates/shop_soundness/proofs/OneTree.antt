-- Nodes and their parents are of one tree after an accepted operation.
use Rattle.std.proofs.Common.{◌≡◌, ℕ, Bool, true, false, ◌&&◌, ◌||◌, ◌⊎◌, inl, inr, List, refl, sym, ap, subst, ◌∙◌, Option, Some, None}
use Rattle.std.specs.Prelude.{◌==◌, not, unwrap_or}
use Rattle.std.specs.List.{list_all}
use Rattle.std.proofs.lemmas.Bool.{and_from, and_parts, eqb-true, eq-eqb}
use Rattle.shop_defs.specs.declared.entity.Entity.{Entity}
use Rattle.shop_defs.specs.declared.key.Key.{Key}
use Rattle.shop_defs.specs.declared.row.Row.{Row}
use Rattle.shop_defs.specs.declared.op.Op.{Op}
use Rattle.shop_defs.specs.declared.table.Part.{Part}
use Rattle.shop_defs.specs.declared.table.Part.TheVariants as P
use Rattle.shop_defs.specs.declared.table.Reference.{Reference}
use Rattle.shop_defs.specs.declared.table.TheConstants.{REFERENCES}
use Rattle.shop_defs.specs.Entities.{entity_number}
use Rattle.shop_defs.specs.Fitting.{row_key_fits}
use Rattle.shop_defs.specs.Rows.{field_of, row_key}
use Rattle.shop_defs.specs.Tables.{fields_of}
use Rattle.shop_defs.proofs.EachLine.{same_entity}
use Rattle.shop_operations.specs.References.{is_entity, is_id, part_of, named, is_one, ties, is_there, are_grounded}
use Rattle.shop_operations.specs.Deletes.{stands_at, gone, emptied, deleted}
use Rattle.shop_operations.specs.Upserts.{place_cmp, row_in, with_row, left, bare_row, gives, gives_part, agree_in, agree_within, is_of_tree, fixed_field, missing_reference}
use Rattle.shop_operations.specs.Views.{IsInPlaceOrder}
use Rattle.closure.specs.Closure.{IsIn}
use Rattle.closure.proofs.Members.{Found, any_of, all_at, all_from}
use Rattle.shop_soundness.proofs.Places.{AreFormed}
use Rattle.shop_soundness.proofs.Accepted.{given_met, fixed_agrees}
use Rattle.shop_soundness.proofs.Emptied.{AreTied, are_tied, stays_whole, named_part, part_named, ties_then, never_emptied, IsLeft, of_deleted}
use Rattle.shop_soundness.proofs.Grounded.{old_met}
use Rattle.shop_soundness.proofs.Lefts.{left_key, left_ident, was_there}
use Rattle.shop_soundness.proofs.Lists.{or_not, no_some, put_of, finds}
use Rattle.shop_soundness.proofs.Ones.{one_at}
use Rattle.shop_soundness.proofs.Places.{AtOnePlace, place_stands, place_back, place_on}
use Rattle.shop_soundness.proofs.Tables.{is_fixed, is_never_emptied, tree_is_fixed, trees_are_fixed}
use Rattle.shop_soundness.proofs.Values.{value_same, same_from}

-- each row that names another by a reference is of its tree
abbrev pub AreOfOneTree : List Row → Type 0
AreOfOneTree rows = list_all (λ row. list_all (λ reference. is_of_tree reference rows row) REFERENCES) rows ≡ true

either : (a b : Bool) → (not a || b) ≡ true → a ≡ true → b ≡ true
either true b e h = e
either false b e h = cc

tied_within : (rows : List Row) (row other : Row) (reference : Reference) → is_of_tree reference rows row ≡ true → IsIn other rows → ties reference row other ≡ true → agree_within reference.within row other ≡ true
tied_within rows row other reference tree i tie = either (ties reference row other) (agree_within reference.within row other) (all_at (λ o. not (ties reference row o) || agree_within reference.within row o) rows other tree i) tie

-- the tree of what an old row names
old_tree : (rows : List Row) (row other : Row) (reference : Reference) → AreOfOneTree rows → IsIn row rows → IsIn other rows → IsIn reference REFERENCES → ties reference row other ≡ true → agree_within reference.within row other ≡ true
old_tree rows row other reference trees i j k tie =
    tied_within rows row other reference (all_at (λ r. is_of_tree r rows row) REFERENCES reference (all_at (λ r. list_all (λ s. is_of_tree s rows r) REFERENCES) rows row trees i) k) j tie

all_of_one_tree : (rows : List Row) → ((row other : Row) (reference : Reference) → IsIn row rows → IsIn other rows → IsIn reference REFERENCES → ties reference row other ≡ true → agree_within reference.within row other ≡ true) → AreOfOneTree rows
all_of_one_tree rows trees = all_from (λ row. list_all (λ reference. is_of_tree reference rows row) REFERENCES) rows
    (λ row i. all_from (λ reference. is_of_tree reference rows row) REFERENCES
    (λ reference k. all_from (λ other. not (ties reference row other) || agree_within reference.within row other) rows
    (λ other j. or_not (ties reference row other) (agree_within reference.within row other) (trees row other reference i j k))))

-- what the table says of a reference between nodes
record IsTreeField (reference : Reference) (number : ℕ) : Type 0 where
  entity : reference.entity ≡ reference.of
  fixed : is_fixed reference.of number ≡ true
  stays : is_never_emptied reference.of number ≡ true

tree_field : (reference : Reference) (number : ℕ) → IsIn reference REFERENCES → reference.within ≡ Some number → IsTreeField reference number
tree_field reference number i e =
    let line : tree_is_fixed reference reference.within ≡ true = all_at (λ r. tree_is_fixed r r.within) REFERENCES reference trees_are_fixed i in
    let all : (is_entity reference.entity reference.of && is_fixed reference.of number && is_never_emptied reference.of number) ≡ true = subst (λ w. tree_is_fixed reference w ≡ true) e line in
    let parts = and_parts (is_entity reference.entity reference.of && is_fixed reference.of number) (is_never_emptied reference.of number) all in
    let front = and_parts (is_entity reference.entity reference.of) (is_fixed reference.of number) parts.0 in
    record { entity = same_entity reference.entity reference.of (eqb-true _ _ front.0); fixed = front.1; stays = parts.1 }

-- a row that names the id names the row that has it
tie_from : (reference : Reference) (row other : Row) (id : ℕ) → named reference row ≡ Some id → is_one reference.of id other ≡ true → ties reference row other ≡ true
tie_from reference row other id name one = subst (λ o. (is_entity reference.of other.key.entity && is_id o other.key.id) ≡ true) (sym name) one

-- ---- upserts

-- a fixed field of the row that was there is as it was
kept_fixed : (before new : Row) (number : ℕ) → fixed_field (Some before) new ≡ None → is_fixed new.key.entity number ≡ true → field_of before number ≡ field_of new number
kept_fixed before new number none fixed = by (any_of (λ field. field.marks.fixed && (field.number == number)) (fields_of new.key.entity) fixed)
  where
    by : Found (λ field. field.marks.fixed && (field.number == number)) (fields_of new.key.entity) → field_of before number ≡ field_of new number
    by f =
        let parts = and_parts f.one.marks.fixed (f.one.number == number) f.passes in
        let agree : agree_in f.one.number before new ≡ true = fixed_agrees before new f.one none f.is_in parts.0 in
        subst (λ n. field_of before n ≡ field_of new n) (eqb-true f.one.number number parts.1) (value_same _ _ agree)

module _ (rows : List Row) (key : Key) (op : Op) (up : IsInPlaceOrder rows) (keys : AreFormed rows) (grounded : are_grounded REFERENCES rows ≡ true) (trees : AreOfOneTree rows) where
  abbrev new : Row
  new = left rows key op

  module _ (fits : row_key_fits (left rows key op).key ≡ true) (place : AtOnePlace (left rows key op).key key) (fixed : fixed_field (row_in rows key) (left rows key op) ≡ None) (checked : missing_reference (with_row rows (left rows key op)) op (left rows key op) ≡ None) where
    -- a node that names the new row: of its tree, as it was of that of the row before
    named_new : (row : Row) (reference : Reference) (number : ℕ) → IsIn row rows → IsIn reference REFERENCES → reference.within ≡ Some number → ties reference row new ≡ true → agree_in number row new ≡ true
    named_new row reference number i k within tie =
        let are = are_tied reference row new tie in
        by_one (any_of (is_one reference.of new.key.id) rows (subst (λ o. is_there rows reference.of o ≡ true) are.name (old_met rows row reference grounded i k)))
      where
        tree : IsTreeField reference number
        tree = tree_field reference number k within

        new_is : is_one reference.of new.key.id new ≡ true
        new_is = and_from _ _ (and_parts (is_entity reference.of new.key.entity) (is_id (named reference row) new.key.id) tie).0 (eq-eqb _ _ refl)

        by_before : (one : Row) → IsIn one rows → is_one reference.of new.key.id one ≡ true → AtOnePlace one.key new.key → (before : Row) → row_in rows key ≡ Some before → agree_in number row new ≡ true
        by_before one j is at before e =
            let was = was_there rows key before e in
            let are = are_tied reference row new tie in
            let same_place : AtOnePlace new.key before.key = place_on new.key key before.key place (place_back before.key key was.place) in
            let one_is = and_parts (is_entity reference.of new.key.entity) (new.key.id == new.key.id) new_is in
            let before_is : is_one reference.of new.key.id before ≡ true = and_from _ _ (eq-eqb _ _ (eqb-true _ _ one_is.0 ∙ same_place.entity)) (eq-eqb _ _ same_place.id) in
            let agree : agree_in number row before ≡ true = subst (λ w. agree_within w row before ≡ true) within (old_tree rows row before reference trees i was.is_in k (tie_from reference row before new.key.id are.name before_is)) in
            let fixed_there : is_fixed new.key.entity number ≡ true = subst (λ (entity : Entity). is_fixed entity number ≡ true) are.of tree.fixed in
            same_from _ _ (value_same _ _ agree ∙ kept_fixed before new number (subst (λ r. fixed_field r new ≡ None) e fixed) fixed_there)

        by_one : Found (is_one reference.of new.key.id) rows → agree_in number row new ≡ true
        by_one f =
            let at = one_at reference k new.key.id f.one new (all_at (λ r. row_key_fits r.key) rows f.one keys f.is_in) fits f.passes new_is in
            let stands : stands_at key f.one ≡ true = place_stands key f.one (place_back f.one.key key (place_on f.one.key new.key key at place)) in
            let there = finds (stands_at key) rows f.one f.is_in stands in
            by_before f.one f.is_in f.passes at there.one there.found

    -- a node that the new row names, though the operation doesn't give it: the row before named it
    not_given : (other : Row) (reference : Reference) (number at : ℕ) → IsIn other rows → IsIn reference REFERENCES → reference.within ≡ Some number → ties reference new other ≡ true → reference.part ≡ P.Field at → gives op at ≡ false → agree_in number new other ≡ true
    not_given other reference number at i k within tie p free = by (row_in rows key) refl (left_key rows key op) (left_ident rows key op at other.key.id free (subst (λ (part : Part). part_of part new ≡ Some other.key.id) p (named_part reference new other.key.id are.name).part))
      where
        are : AreTied reference new other
        are = are_tied reference new other tie

        tree : IsTreeField reference number
        tree = tree_field reference number k within

        by : (row : Option Row) → row_in rows key ≡ row → new.key ≡ (unwrap_or row (bare_row key)).key → part_of (P.Field at) (unwrap_or row (bare_row key)) ≡ Some other.key.id → agree_in number new other ≡ true
        by None e same n = absurd (no_some other.key.id n)
        by (Some before) e same n =
            let was = was_there rows key before e in
            let entity : reference.entity ≡ before.key.entity = are.entity ∙ ap (λ (key : Key). key.entity) same in
            let is : is_entity reference.entity before.key.entity ≡ true = eq-eqb _ _ (ap (λ (entity : Entity). entity_number entity) entity) in
            let names : named reference before ≡ Some other.key.id = part_named reference before other.key.id is (subst (λ (part : Part). part_of part before ≡ Some other.key.id) (sym p) n) in
            let tie_before : ties reference before other ≡ true = and_from _ _ (and_parts (is_entity reference.of other.key.entity) (is_id (named reference new) other.key.id) tie).0 (subst (λ o. is_id o other.key.id ≡ true) (sym names) (eq-eqb _ _ refl)) in
            let agree : agree_in number before other ≡ true = subst (λ w. agree_within w before other ≡ true) within (old_tree rows before other reference trees was.is_in i k tie_before) in
            let fixed_there : is_fixed new.key.entity number ≡ true = subst (λ (entity : Entity). is_fixed entity number ≡ true) (sym tree.entity ∙ are.entity) tree.fixed in
            same_from _ _ (sym (kept_fixed before new number (subst (λ r. fixed_field r new ≡ None) e fixed) fixed_there) ∙ value_same _ _ agree)

    -- a node that the new row names
    new_names : (other : Row) (reference : Reference) (number : ℕ) → IsIn other (with_row rows new) → IsIn other rows → IsIn reference REFERENCES → reference.within ≡ Some number → ties reference new other ≡ true → agree_in number new other ≡ true
    new_names other reference number j i k within tie = by_part reference.part refl
      where
        is_given : gives_part op reference.part ≡ true → agree_in number new other ≡ true
        is_given g =
            let are = are_tied reference new other tie in
            let met = given_met (with_row rows new) op new reference checked k (named_part reference new other.key.id are.name).entity g in
            subst (λ w. agree_within w new other ≡ true) within (tied_within (with_row rows new) new other reference met.of_tree j tie)

        by_field : (at : ℕ) → reference.part ≡ P.Field at → (b : Bool) → gives op at ≡ b → agree_in number new other ≡ true
        by_field at p true g = is_given (ap (gives_part op) p ∙ g)
        by_field at p false g = not_given other reference number at i k within tie p g

        by_part : (part : Part) → reference.part ≡ part → agree_in number new other ≡ true
        by_part P.Id p = is_given (ap (gives_part op) p)
        by_part P.Second p = is_given (ap (gives_part op) p)
        by_part (P.Field at) p = by_field at p (gives op at) refl

    pub upsert_of_one_tree : AreOfOneTree (with_row rows (left rows key op))
    upsert_of_one_tree = all_of_one_tree (with_row rows new) (λ row other reference i j k tie. by_within row other reference i j k tie reference.within refl)
      where
        by : (row other : Row) (reference : Reference) (number : ℕ) → IsIn other (with_row rows new) → IsIn reference REFERENCES → reference.within ≡ Some number → ties reference row other ≡ true → (new ≡ row) ⊎ IsIn row rows → (new ≡ other) ⊎ IsIn other rows → agree_in number row other ≡ true
        by row other reference number j k within tie (inl e) (inl f) = same_from _ _ (ap (λ (r : Row). field_of r number) (sym e ∙ f))
        by row other reference number j k within tie (inl e) (inr m) = subst (λ (r : Row). agree_in number r other ≡ true) e (new_names other reference number j m k within (subst (λ (r : Row). ties reference r other ≡ true) (sym e) tie))
        by row other reference number j k within tie (inr l) (inl f) = subst (λ (r : Row). agree_in number row r ≡ true) f (named_new row reference number l k within (subst (λ (r : Row). ties reference row r ≡ true) (sym f) tie))
        by row other reference number j k within tie (inr l) (inr m) = subst (λ w. agree_within w row other ≡ true) within (old_tree rows row other reference trees l m k tie)

        by_within : (row other : Row) (reference : Reference) → IsIn row (with_row rows new) → IsIn other (with_row rows new) → IsIn reference REFERENCES → ties reference row other ≡ true → (within : Option ℕ) → reference.within ≡ within → agree_within within row other ≡ true
        by_within row other reference i j k tie None e = refl
        by_within row other reference i j k tie (Some number) e = by row other reference number j k e tie (put_of place_cmp row_key rows new row i) (put_of place_cmp row_key rows new other j)

-- ---- deletes

pub delete_of_one_tree : (rows : List Row) (key : Key) → AreOfOneTree rows → AreOfOneTree (deleted REFERENCES rows key)
delete_of_one_tree rows key trees = all_of_one_tree (deleted REFERENCES rows key) (λ row other reference i j k tie. by row other reference k tie (of_deleted REFERENCES rows key row i) (of_deleted REFERENCES rows key other j))
  where
    by_within : (row other : Row) (reference : Reference) → IsIn reference REFERENCES → AreTied reference row other → (within : Option ℕ) → reference.within ≡ within → agree_within within row other ≡ true → agree_within within (emptied REFERENCES (gone REFERENCES rows key) row) (emptied REFERENCES (gone REFERENCES rows key) other) ≡ true
    by_within row other reference k are None e agree = refl
    by_within row other reference k are (Some number) e agree =
        let tree = tree_field reference number k e in
        let one : is_never_emptied row.key.entity number ≡ true = subst (λ (entity : Entity). is_never_emptied entity number ≡ true) (sym tree.entity ∙ are.entity) tree.stays in
        let two : is_never_emptied other.key.entity number ≡ true = subst (λ (entity : Entity). is_never_emptied entity number ≡ true) are.of tree.stays in
        same_from _ _ (never_emptied REFERENCES (gone REFERENCES rows key) row number (stays_whole (gone REFERENCES rows key) row number one) ∙ (value_same _ _ agree ∙ sym (never_emptied REFERENCES (gone REFERENCES rows key) other number (stays_whole (gone REFERENCES rows key) other number two))))

    both : (reference : Reference) → IsIn reference REFERENCES → (a b : Row) → IsIn a rows → IsIn b rows → ties reference (emptied REFERENCES (gone REFERENCES rows key) a) (emptied REFERENCES (gone REFERENCES rows key) b) ≡ true → agree_within reference.within (emptied REFERENCES (gone REFERENCES rows key) a) (emptied REFERENCES (gone REFERENCES rows key) b) ≡ true
    both reference k a b i j tie =
        let tie_before : ties reference a b ≡ true = ties_then REFERENCES (gone REFERENCES rows key) a b reference tie in
        by_within a b reference k (are_tied reference a b tie_before) reference.within refl (old_tree rows a b reference trees i j k tie_before)

    by : (row other : Row) (reference : Reference) → IsIn reference REFERENCES → ties reference row other ≡ true → IsLeft REFERENCES rows key row → IsLeft REFERENCES rows key other → agree_within reference.within row other ≡ true
    by row other reference k tie one two =
        let tie_one : ties reference (emptied REFERENCES (gone REFERENCES rows key) one.one) (emptied REFERENCES (gone REFERENCES rows key) two.one) ≡ true = subst (λ (r : Row). ties reference r (emptied REFERENCES (gone REFERENCES rows key) two.one) ≡ true) (sym one.image) (subst (λ (r : Row). ties reference row r ≡ true) (sym two.image) tie) in
        let agree = both reference k one.one two.one one.is_in two.is_in tie_one in
        subst (λ (r : Row). agree_within reference.within row r ≡ true) two.image (subst (λ (r : Row). agree_within reference.within r (emptied REFERENCES (gone REFERENCES rows key) two.one) ≡ true) one.image agree)
