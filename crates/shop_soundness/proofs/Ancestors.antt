-- How rows stand below their parents, and what keeps them from standing lower.
use Rattle.std.proofs.Common.{◌≡◌, ℕ, zero, suc, ◌≤◌, true, false, ◌&&◌, List, length, refl, sym, ap, subst, ◌∙◌, Option, Some, None, arith}
use Rattle.std.specs.Prelude.{◌==◌, nat_le, not, find}
use Rattle.std.specs.List.{list_any, list_all}
use Rattle.std.specs.Option.{option_and_then}
use Rattle.std.proofs.lemmas.Bool.{and_from, and_parts, eqb-true, not-true, false_from_ne_true, leb-true, le-leb}
use Rattle.shop_defs.specs.declared.entity.Entity.{Entity}
use Rattle.shop_defs.specs.declared.row.Row.{Row}
use Rattle.shop_defs.specs.declared.table.Reference.{Reference}
use Rattle.shop_defs.specs.declared.table.TheConstants.{REFERENCES, LEVEL_LIMITS}
use Rattle.shop_defs.proofs.EachLine.{same_entity}
use Rattle.shop_operations.specs.References.{is_entity, is_id, named, is_one}
use Rattle.shop_operations.specs.Parents.{is_parental, parent_id, parent_row, walk, is_child, is_past, is_deep}
use Rattle.closure.specs.Closure.{IsIn}
use Rattle.closure.proofs.Members.{Found, any_is, any_of, all_at, all_from}
use Rattle.shop_soundness.proofs.Lists.{no_some, find_of}
use Rattle.shop_soundness.proofs.Tables.{levels_have_room}

-- ---- parents

-- the reference by which a row names its parent
pub record HasParent (row : Row) (id : ℕ) : Type 0 where
  pub reference : Reference
  pub found : find (is_parental row.key.entity) REFERENCES ≡ Some reference
  pub is_in : IsIn reference REFERENCES
  pub entity : reference.entity ≡ row.key.entity
  pub of : reference.of ≡ row.key.entity
  pub name : named reference row ≡ Some id

pub has_parent : (row : Row) (id : ℕ) → parent_id REFERENCES row ≡ Some id → HasParent row id
unfolding parent_id
has_parent row id e = by (find (is_parental row.key.entity) REFERENCES) refl e
  where
    by : (o : Option Reference) → find (is_parental row.key.entity) REFERENCES ≡ o → option_and_then (λ r. named r row) o ≡ Some id → HasParent row id
    by None f g = absurd (no_some id g)
    by (Some r) f g =
        let one = find_of (is_parental row.key.entity) REFERENCES r f in
        let parts = and_parts (is_entity r.entity row.key.entity) (is_entity r.of row.key.entity) one.passes in
        record {
          reference = r;
          found = f;
          is_in = one.is_in;
          entity = same_entity r.entity row.key.entity (eqb-true _ _ parts.0);
          of = same_entity r.of row.key.entity (eqb-true _ _ parts.1);
          name = g;
        }

-- a row of that entity that names the id by that reference has that parent
pub has_same_parent : (row other : Row) (id : ℕ) → row.key.entity ≡ other.key.entity → (parent : HasParent row id) → named parent.reference other ≡ Some id → parent_id REFERENCES other ≡ Some id
unfolding parent_id
has_same_parent row other id same parent name =
    let found : find (is_parental other.key.entity) REFERENCES ≡ Some parent.reference = subst (λ (e : Entity). find (is_parental e) REFERENCES ≡ Some parent.reference) same parent.found in
    ap (option_and_then (λ r. named r other)) found ∙ name

-- the row with the parent's id is the parent
pub child_at : (row other : Row) (id : ℕ) → parent_id REFERENCES row ≡ Some id → is_one row.key.entity id other ≡ true → is_child REFERENCES row other ≡ true
unfolding is_child
child_at row other id e one =
    let both = and_parts (is_entity row.key.entity other.key.entity) (id == other.key.id) one in
    and_from _ _ both.0 (subst (λ o. is_id o other.key.id ≡ true) (sym e) both.1)

-- ---- levels

-- no row stands lower than it may
abbrev pub AreShallow : List Row → Type 0
AreShallow rows = list_all (λ row. not (is_deep REFERENCES LEVEL_LIMITS rows row)) rows ≡ true

pub not_deep : (rows : List Row) (row : Row) → AreShallow rows → IsIn row rows → is_deep REFERENCES LEVEL_LIMITS rows row ≡ false
not_deep rows row shallow i = not-true _ (all_at (λ r. not (is_deep REFERENCES LEVEL_LIMITS rows r)) rows row shallow i)

pub all_shallow : (rows : List Row) → ((row : Row) → IsIn row rows → is_deep REFERENCES LEVEL_LIMITS rows row ≡ true → ⊥) → AreShallow rows
all_shallow rows none = all_from (λ row. not (is_deep REFERENCES LEVEL_LIMITS rows row)) rows (λ row i. ap not (false_from_ne_true (is_deep REFERENCES LEVEL_LIMITS rows row) (none row i)))

-- a row without a parent stands on the first level
pub root_not_deep : (rows : List Row) (row : Row) → parent_row REFERENCES rows row ≡ None → is_deep REFERENCES LEVEL_LIMITS rows row ≡ true → ⊥
unfolding is_deep
root_not_deep rows row root deep = by (any_of (λ limit. is_entity limit.entity row.key.entity && is_past REFERENCES rows limit.most row) LEVEL_LIMITS deep)
  where
    no_way : (n : ℕ) → length (walk REFERENCES rows n None) ≡ 0
    no_way zero = refl
    no_way (suc n) = refl

    by : Found (λ limit. is_entity limit.entity row.key.entity && is_past REFERENCES rows limit.most row) LEVEL_LIMITS → ⊥
    by f =
        let past : is_past REFERENCES rows f.one.most row ≡ true = (and_parts (is_entity f.one.entity row.key.entity) (is_past REFERENCES rows f.one.most row) f.passes).1 in
        let none : nat_le f.one.most (length (walk REFERENCES rows f.one.most None)) ≡ true = subst (λ (at : Option Row). nat_le f.one.most (length (walk REFERENCES rows f.one.most at)) ≡ true) root past in
        let few = leb-true f.one.most (length (walk REFERENCES rows f.one.most None)) none in
        let room = leb-true 1 f.one.most (all_at (λ limit. nat_le 1 limit.most) LEVEL_LIMITS f.one levels_have_room f.is_in) in
        omega (arith, few, room, no_way f.one.most)

-- the first row stands for the second, if there is a first
abbrev pub StandsFor : (Row → Row → Type 0) → Option Row → Option Row → Type 0
StandsFor Is None other = Unit {0}
StandsFor Is (Some row) None = ⊥
StandsFor Is (Some row) (Some other) = Is row other

-- where the parents of rows that stand for others stand for theirs, the rows stand no lower
module _ (after before : List Row) (Is : Row → Row → Type 0) (step : (row other : Row) → Is row other → StandsFor Is (parent_row REFERENCES after row) (parent_row REFERENCES before other)) where
  walk_shorter : (n : ℕ) (row other : Option Row) → StandsFor Is row other → length (walk REFERENCES after n row) ≤ length (walk REFERENCES before n other)
  walk_shorter zero row other is = omega arith
  walk_shorter (suc n) None None is = omega arith
  walk_shorter (suc n) None (Some other) is = omega arith
  walk_shorter (suc n) (Some row) None is = absurd is
  walk_shorter (suc n) (Some row) (Some other) is = let more = walk_shorter n (parent_row REFERENCES after row) (parent_row REFERENCES before other) (step row other is) in omega (arith, more)

  pub deep_before : (row other : Row) → Is row other → row.key.entity ≡ other.key.entity → is_deep REFERENCES LEVEL_LIMITS after row ≡ true → is_deep REFERENCES LEVEL_LIMITS before other ≡ true
  unfolding is_deep
  deep_before row other is entity deep = by (any_of (λ limit. is_entity limit.entity row.key.entity && is_past REFERENCES after limit.most row) LEVEL_LIMITS deep)
    where
      by : Found (λ limit. is_entity limit.entity row.key.entity && is_past REFERENCES after limit.most row) LEVEL_LIMITS → list_any (λ limit. is_entity limit.entity other.key.entity && is_past REFERENCES before limit.most other) LEVEL_LIMITS ≡ true
      by f =
          let parts = and_parts (is_entity f.one.entity row.key.entity) (is_past REFERENCES after f.one.most row) f.passes in
          let few = leb-true f.one.most (length (walk REFERENCES after f.one.most (parent_row REFERENCES after row))) parts.1 in
          let more = walk_shorter f.one.most (parent_row REFERENCES after row) (parent_row REFERENCES before other) (step row other is) in
          let past = le-leb f.one.most (length (walk REFERENCES before f.one.most (parent_row REFERENCES before other))) (omega (arith, few, more)) in
          any_is (λ limit. is_entity limit.entity other.key.entity && is_past REFERENCES before limit.most other) LEVEL_LIMITS f.one f.is_in (and_from _ _ (subst (λ (e : Entity). is_entity f.one.entity e ≡ true) entity parts.0) past)
