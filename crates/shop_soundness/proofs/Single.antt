-- No two rows have the same unique fields after an accepted operation.
use Rattle.std.proofs.Common.{◌≡◌, ℕ, true, false, ◌&&◌, ◌||◌, ◌⊎◌, inl, inr, List, refl, sym, ap, subst, Option, Some, None}
use Rattle.std.specs.Prelude.{not, is_some}
use Rattle.std.specs.List.{list_any, list_all}
use Rattle.std.proofs.lemmas.Bool.{and_from, and_parts, both_ways, eqb-true, eq-eqb, false_from_ne_true, not-true}
use Rattle.shop_defs.specs.declared.entity.Entity.{Entity}
use Rattle.shop_defs.specs.declared.key.Key.{Key}
use Rattle.shop_defs.specs.declared.row.Row.{Row}
use Rattle.shop_defs.specs.declared.table.FieldInfo.{FieldInfo}
use Rattle.shop_defs.specs.declared.table.TheConstants.{REFERENCES}
use Rattle.shop_defs.specs.declared.value.Value.{Value}
use Rattle.shop_defs.specs.Entities.{entity_number}
use Rattle.shop_defs.specs.Rows.{field_of, row_key}
use Rattle.shop_defs.specs.Tables.{fields_of}
use Rattle.shop_defs.proofs.EachLine.{same_entity}
use Rattle.shop_operations.specs.References.{is_entity}
use Rattle.shop_operations.specs.Deletes.{stands_at, gone, emptied, deleted}
use Rattle.shop_operations.specs.Upserts.{place_cmp, with_row, same_given, has_unique, agree_in_unique, is_twin, duplicate}
use Rattle.closure.specs.Closure.{IsIn}
use Rattle.closure.proofs.Members.{Found, any_is, any_of, all_at, all_from, none_passes}
use Rattle.shop_soundness.proofs.Accepted.{map_none}
use Rattle.shop_soundness.proofs.Emptied.{value_kept, IsLeft, of_deleted}
use Rattle.shop_soundness.proofs.Lists.{or_not, put_of}
use Rattle.shop_soundness.proofs.Places.{stands_place, place_stands, place_back}
use Rattle.shop_soundness.proofs.Values.{value_same, same_from}

-- no row has a twin among them
abbrev pub AreSingle : List Row → Type 0
AreSingle rows = list_all (λ row. not (list_any (is_twin row) rows)) rows ≡ true

-- both have the same value in the field
record HasBoth (number : ℕ) (row other : Row) : Type 0 where
  value : Value
  one : field_of row number ≡ Some value
  two : field_of other number ≡ Some value

same_both : (a b : Option Value) → same_given a b ≡ true → record { value : Value; one : a ≡ Some value; two : b ≡ Some value }
same_both None b e = cc
same_both (Some value) b e = record { value = value; one = refl; two = sym (value_same (Some value) b e) }

both_same : (number : ℕ) (row other : Row) → HasBoth number row other → same_given (field_of row number) (field_of other number) ≡ true
both_same number row other b = rw (b.one, b.two) (same_from (Some b.value) (Some b.value) refl)

-- two rows of one entity, at two places, that have the same unique fields
record AreTwins (row other : Row) : Type 0 where
  entity : row.key.entity ≡ other.key.entity
  apart : stands_at row.key other ≡ false
  some : has_unique row.key.entity ≡ true
  fields : (field : FieldInfo) → IsIn field (fields_of row.key.entity) → field.marks.unique ≡ true → HasBoth field.number row other

twins : (row other : Row) → is_twin row other ≡ true → AreTwins row other
unfolding is_twin
twins row other e =
    let parts = and_parts (is_entity row.key.entity other.key.entity && not (stands_at row.key other) && has_unique row.key.entity) (agree_in_unique row.key.entity row other) e in
    let front = and_parts (is_entity row.key.entity other.key.entity && not (stands_at row.key other)) (has_unique row.key.entity) parts.0 in
    let two = and_parts (is_entity row.key.entity other.key.entity) (not (stands_at row.key other)) front.0 in
    record {
      entity = same_entity row.key.entity other.key.entity (eqb-true _ _ two.0);
      apart = not-true (stands_at row.key other) two.1;
      some = front.1;
      fields = λ field i unique. by field unique (all_at (λ f. not f.marks.unique || same_given (field_of row f.number) (field_of other f.number)) (fields_of row.key.entity) field parts.1 i);
    }
  where
    by : (field : FieldInfo) → field.marks.unique ≡ true → (not field.marks.unique || same_given (field_of row field.number) (field_of other field.number)) ≡ true → HasBoth field.number row other
    by field unique agree =
        let same : same_given (field_of row field.number) (field_of other field.number) ≡ true = rw unique at agree in
        let b = same_both (field_of row field.number) (field_of other field.number) same in
        record { value = b.value; one = b.one; two = b.two }

of_twins : (row other : Row) → AreTwins row other → is_twin row other ≡ true
unfolding is_twin
of_twins row other t =
    let agree : agree_in_unique row.key.entity row other ≡ true = all_from (λ f. not f.marks.unique || same_given (field_of row f.number) (field_of other f.number)) (fields_of row.key.entity) (λ f i. or_not f.marks.unique (same_given (field_of row f.number) (field_of other f.number)) (λ u. both_same f.number row other (t.fields f i u))) in
    and_from _ _ (and_from _ _ (and_from _ _ (eq-eqb _ _ (ap (λ (entity : Entity). entity_number entity) t.entity)) (ap not t.apart)) t.some) agree

-- twins are twins of one another
twins_back : (row other : Row) → AreTwins row other → AreTwins other row
twins_back row other t = record {
  entity = sym t.entity;
  apart = false_from_ne_true (stands_at other.key row) (λ e. both_ways (stands_at row.key other) t.apart (place_stands row.key other (place_back other.key row.key (stands_place other.key row e))));
  some = subst (λ (entity : Entity). has_unique entity ≡ true) t.entity t.some;
  fields = λ field i unique. let b = t.fields field (subst (λ (entity : Entity). IsIn field (fields_of entity)) (sym t.entity) i) unique in record { value = b.value; one = b.two; two = b.one };
}

no_twins : (rows : List Row) (row other : Row) → AreSingle rows → IsIn row rows → IsIn other rows → is_twin row other ≡ true → ⊥
no_twins rows row other single i j t = both_ways (list_any (is_twin row) rows) (not-true _ (all_at (λ r. not (list_any (is_twin r) rows)) rows row single i)) (any_is (is_twin row) rows other j t)

all_single : (rows : List Row) → ((row other : Row) → IsIn row rows → IsIn other rows → is_twin row other ≡ true → ⊥) → AreSingle rows
all_single rows none = all_from (λ row. not (list_any (is_twin row) rows)) rows (λ row i. ap not (false_from_ne_true (list_any (is_twin row) rows) (λ e. by row i (any_of (is_twin row) rows e))))
  where
    by : (row : Row) → IsIn row rows → Found (is_twin row) rows → ⊥
    by row i f = none row f.one i f.is_in f.passes

-- ---- upserts

pub upsert_single : (rows : List Row) (new : Row) → AreSingle rows → duplicate (with_row rows new) new ≡ None → AreSingle (with_row rows new)
upsert_single rows new single checked = all_single (with_row rows new) (λ row other i j t. by row other i j t (put_of place_cmp row_key rows new row i) (put_of place_cmp row_key rows new other j))
  where
    none : (other : Row) → IsIn other (with_row rows new) → is_twin new other ≡ true → ⊥
    none other j t = both_ways (is_twin new other) (none_passes (is_twin new) (with_row rows new) other (ap is_some (map_none _ _ checked)) j) t

    by : (row other : Row) → IsIn row (with_row rows new) → IsIn other (with_row rows new) → is_twin row other ≡ true → (new ≡ row) ⊎ IsIn row rows → (new ≡ other) ⊎ IsIn other rows → ⊥
    by row other i j t (inl e) f = none other j (subst (λ (r : Row). is_twin r other ≡ true) (sym e) t)
    by row other i j t (inr k) (inl f) = none row i (subst (λ (r : Row). is_twin r row ≡ true) (sym f) (of_twins other row (twins_back row other (twins row other t))))
    by row other i j t (inr k) (inr l) = no_twins rows row other single k l t

-- ---- deletes

-- what emptied rows have in common they had
emptied_twins : (lost : List Row) (a b : Row) → AreTwins (emptied REFERENCES lost a) (emptied REFERENCES lost b) → AreTwins a b
emptied_twins lost a b t = record {
  entity = t.entity;
  apart = t.apart;
  some = t.some;
  fields = λ field i unique. let h = t.fields field i unique in record { value = h.value; one = (value_kept REFERENCES lost a field.number h.value h.one).before; two = (value_kept REFERENCES lost b field.number h.value h.two).before };
}

pub delete_single : (rows : List Row) (key : Key) → AreSingle rows → AreSingle (deleted REFERENCES rows key)
delete_single rows key single = all_single (deleted REFERENCES rows key) (λ row other i j t. by row other t (of_deleted REFERENCES rows key row i) (of_deleted REFERENCES rows key other j))
  where
    by : (row other : Row) → is_twin row other ≡ true → IsLeft REFERENCES rows key row → IsLeft REFERENCES rows key other → ⊥
    by row other t one two =
        let images : is_twin (emptied REFERENCES (gone REFERENCES rows key) one.one) (emptied REFERENCES (gone REFERENCES rows key) two.one) ≡ true = subst (λ (r : Row). is_twin r (emptied REFERENCES (gone REFERENCES rows key) two.one) ≡ true) (sym one.image) (subst (λ (r : Row). is_twin row r ≡ true) (sym two.image) t) in
        no_twins rows one.one two.one single one.is_in two.is_in (of_twins one.one two.one (emptied_twins (gone REFERENCES rows key) one.one two.one (twins _ _ images)))
