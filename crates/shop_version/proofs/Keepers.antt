-- The rows that keep drafts bear on none of the rules on how rows stand to one another.
use Rattle.std.proofs.Common.{◌≡◌, ℕ, zero, suc, ◌≤◌, Bool, true, false, not, ◌&&◌, ◌||◌, ◌==◌, nat_lt, nat_le, inl, inr, cond, List, [], ◌∷◌, length, refl, sym, ap, subst, ◌∙◌, Option, Some, None}
use Rattle.std.specs.Prelude.{filter, find, count_by}
use Rattle.std.specs.List.{list_all, list_any}
use Rattle.std.specs.Option.{option_and_then}
use Rattle.std.proofs.lemmas.Bool.{and_parts, eqb-true, false≢true, false_from_ne_true}
use Rattle.std.proofs.lemmas.List.Sums.{length-filter}
use Rattle.closure.specs.Closure.{IsIn}
use Rattle.closure.proofs.Members.{Found, all_at, all_from, any_of, in_filter, of_filter}
use Rattle.shop_defs.specs.declared.entity.Entity.{Entity}
use Rattle.shop_defs.specs.declared.entity.Entity.TheVariants as E
use Rattle.shop_defs.specs.declared.row.Row.{Row}
use Rattle.shop_defs.specs.declared.table.LevelLimit.{LevelLimit}
use Rattle.shop_defs.specs.declared.table.OwnerLimit.{OwnerLimit}
use Rattle.shop_defs.specs.declared.table.Reference.{Reference}
use Rattle.shop_defs.specs.declared.table.TheConstants.{REFERENCES, LEVEL_LIMITS, OWNER_LIMITS, MOST_ROWS}
use Rattle.shop_defs.specs.Fitting.{row_key_fits}
use Rattle.shop_defs.specs.Tables.{fields_of}
use Rattle.shop_defs.proofs.EachLine.{each_entity, same_entity}
use Rattle.shop_operations.specs.Deletes.{stands_at}
use Rattle.shop_operations.specs.Parents.{is_deep, is_past, parent_id, parent_row, walk}
use Rattle.shop_operations.specs.References.{are_grounded, is_entity, is_grounded, is_met, is_one, is_there, named, ties, is_id}
use Rattle.shop_operations.specs.Soundness.{IsCoherent}
use Rattle.shop_operations.specs.Upserts.{agree_in_unique, agree_within, count_of, has_unique, is_of_owner, is_of_tree, is_twin, owner_is_full}
use Rattle.shop_operations.specs.Views.{View, IsInPlaceOrder}
use Rattle.shop_soundness.proofs.Lists.{find_of}

-- rows of the entity keep no drafts
abbrev pub is_plain_entity : Entity → Bool
is_plain_entity entity = not (is_entity E.Draft entity) && not (is_entity E.DraftCommit entity)

abbrev pub is_plain : Row → Bool
is_plain row = is_plain_entity row.key.entity

-- the rows that keep no drafts
abbrev pub plain : List Row → List Row
plain rows = filter is_plain rows

-- ---- the tables name none of those entities

references_plain : list_all (λ (reference : Reference). is_plain_entity reference.entity && is_plain_entity reference.of) REFERENCES ≡ true
references_plain = refl

levels_plain : list_all (λ (limit : LevelLimit). is_plain_entity limit.entity) LEVEL_LIMITS ≡ true
levels_plain = refl

owners_plain : list_all (λ (limit : OwnerLimit). is_plain_entity limit.entity) OWNER_LIMITS ≡ true
owners_plain = refl

unique_plain : (entity : Entity) → (not (has_unique entity) || is_plain_entity entity) ≡ true
unfolding fields_of
unique_plain entity = each_entity (λ entity. not (has_unique entity) || is_plain_entity entity) refl entity

reference_at : (reference : Reference) → IsIn reference REFERENCES → (is_plain_entity reference.entity ≡ true) × (is_plain_entity reference.of ≡ true)
reference_at reference i = and_parts _ _ (all_at (λ (reference : Reference). is_plain_entity reference.entity && is_plain_entity reference.of) REFERENCES reference references_plain i)

level_at : (limit : LevelLimit) → IsIn limit LEVEL_LIMITS → is_plain_entity limit.entity ≡ true
level_at limit i = all_at (λ (limit : LevelLimit). is_plain_entity limit.entity) LEVEL_LIMITS limit levels_plain i

owner_at : (limit : OwnerLimit) → IsIn limit OWNER_LIMITS → is_plain_entity limit.entity ≡ true
owner_at limit i = all_at (λ (limit : OwnerLimit). is_plain_entity limit.entity) OWNER_LIMITS limit owners_plain i

same_plain : (of entity : Entity) → is_entity of entity ≡ true → is_plain_entity of ≡ true → is_plain_entity entity ≡ true
same_plain of entity e p = subst (λ (entity : Entity). is_plain_entity entity ≡ true) (same_entity of entity (eqb-true _ _ e)) p

-- of another entity than a keeper's
other_entity : (of entity : Entity) → is_plain_entity of ≡ true → is_plain_entity entity ≡ false → is_entity of entity ≡ false
other_entity of entity p q = false_from_ne_true (is_entity of entity) (λ e. false≢true (sym q ∙ same_plain of entity e p))

-- ---- searches among plain rows

module _ (p q : Row → Bool) (within : (row : Row) → q row ≡ true → p row ≡ true) where
  any_within : (rows : List Row) → list_any q (filter p rows) ≡ list_any q rows
  any_within [] = refl
  any_within (row ∷ rows) = by (any_within rows) (p row) refl (q row) refl
    where
      by : list_any q (filter p rows) ≡ list_any q rows → (a : Bool) → p row ≡ a → (b : Bool) → q row ≡ b → list_any q (filter p (row ∷ rows)) ≡ list_any q (row ∷ rows)
      by more true e b f = rw e (ap (λ x. q row || x) more)
      by more false e true f = absurd (false≢true (sym e ∙ within row f))
      by more false e false f = rw (e, f) more

  find_within : (rows : List Row) → find q (filter p rows) ≡ find q rows
  find_within [] = refl
  find_within (row ∷ rows) = by (find_within rows) (p row) refl (q row) refl
    where
      by : find q (filter p rows) ≡ find q rows → (a : Bool) → p row ≡ a → (b : Bool) → q row ≡ b → find q (filter p (row ∷ rows)) ≡ find q (row ∷ rows)
      by more true e b f = rw e (ap (λ x. cond (q row) (Some row) x) more)
      by more false e true f = absurd (false≢true (sym e ∙ within row f))
      by more false e false f = rw (e, f) more

  pub filter_within : (rows : List Row) → filter q (filter p rows) ≡ filter q rows
  filter_within [] = refl
  filter_within (row ∷ rows) = by (filter_within rows) (p row) refl (q row) refl
    where
      by : filter q (filter p rows) ≡ filter q rows → (a : Bool) → p row ≡ a → (b : Bool) → q row ≡ b → filter q (filter p (row ∷ rows)) ≡ filter q (row ∷ rows)
      by more true e true f = rw (e, f) (ap (λ ys. row ∷ ys) more)
      by more true e false f = rw (e, f) more
      by more false e true f = absurd (false≢true (sym e ∙ within row f))
      by more false e false f = rw (e, f) more

  count_within : (rows : List Row) → count_by q (filter p rows) ≡ count_by q rows
  count_within rows = sym (length-filter q (filter p rows)) ∙ (ap length (filter_within rows) ∙ length-filter q rows)

all_within : (p q : Row → Bool) → ((row : Row) → p row ≡ false → q row ≡ true) → (rows : List Row) → list_all q (filter p rows) ≡ list_all q rows
all_within p q holds [] = refl
all_within p q holds (row ∷ rows) = by (all_within p q holds rows) (p row) refl
  where
    by : list_all q (filter p rows) ≡ list_all q rows → (a : Bool) → p row ≡ a → list_all q (filter p (row ∷ rows)) ≡ list_all q (row ∷ rows)
    by more true e = rw e (ap (λ x. q row && x) more)
    by more false e = rw (e, holds row e) more

all_agree : {X : Type 0} (p q : X → Bool) (xs : List X) → ((x : X) → IsIn x xs → p x ≡ q x) → list_all p xs ≡ list_all q xs
all_agree p q [] same = refl
all_agree p q (x ∷ xs) same = ap (λ b. b && list_all p xs) (same x (inl refl)) ∙ ap (λ b. q x && b) (all_agree p q xs (λ y i. same y (inr i)))

any_agree : {X : Type 0} (p q : X → Bool) (xs : List X) → ((x : X) → IsIn x xs → p x ≡ q x) → list_any p xs ≡ list_any q xs
any_agree p q [] same = refl
any_agree p q (x ∷ xs) same = ap (λ b. b || list_any p xs) (same x (inl refl)) ∙ ap (λ b. q x || b) (any_agree p q xs (λ y i. same y (inr i)))

-- ---- rows with the same plain rows

module _ (before after : List Row) (same : plain before ≡ plain after) where
  any_same : (q : Row → Bool) → ((row : Row) → q row ≡ true → is_plain row ≡ true) → list_any q before ≡ list_any q after
  any_same q within = sym (any_within is_plain q within before) ∙ (ap (list_any q) same ∙ any_within is_plain q within after)

  find_same : (q : Row → Bool) → ((row : Row) → q row ≡ true → is_plain row ≡ true) → find q before ≡ find q after
  find_same q within = sym (find_within is_plain q within before) ∙ (ap (find q) same ∙ find_within is_plain q within after)

  count_same : (q : Row → Bool) → ((row : Row) → q row ≡ true → is_plain row ≡ true) → count_by q before ≡ count_by q after
  count_same q within = sym (count_within is_plain q within before) ∙ (ap (count_by q) same ∙ count_within is_plain q within after)

  all_same : (q : Row → Bool) → ((row : Row) → is_plain row ≡ false → q row ≡ true) → list_all q before ≡ list_all q after
  all_same q holds = sym (all_within is_plain q holds before) ∙ (ap (list_all q) same ∙ all_within is_plain q holds after)

  is_plain_one : (of : Entity) (id : ℕ) → is_plain_entity of ≡ true → (row : Row) → is_one of id row ≡ true → is_plain row ≡ true
  is_plain_one of id p row e = same_plain of row.key.entity (and_parts (is_entity of row.key.entity) (id == row.key.id) e).0 p

  grounded_same : (row : Row) → is_grounded REFERENCES before row ≡ is_grounded REFERENCES after row
  unfolding is_grounded
  grounded_same row = all_agree (λ reference. is_met reference before row) (λ reference. is_met reference after row) REFERENCES (λ reference i. by reference (reference_at reference i).1 (named reference row))
    where
      by : (reference : Reference) → is_plain_entity reference.of ≡ true → (name : Option ℕ) → is_there before reference.of name ≡ is_there after reference.of name
      by reference p None = refl
      by reference p (Some id) = any_same (is_one reference.of id) (is_plain_one reference.of id p)

  tree_same : (reference : Reference) → IsIn reference REFERENCES → (row : Row) → is_of_tree reference before row ≡ is_of_tree reference after row
  tree_same reference i row = all_same (λ other. not (ties reference row other) || agree_within reference.within row other) (λ other e. ap (λ b. not (b && is_id (named reference row) other.key.id) || agree_within reference.within row other) (other_entity reference.of other.key.entity (reference_at reference i).1 e))

  trees_same : (row : Row) → list_all (λ reference. is_of_tree reference before row) REFERENCES ≡ list_all (λ reference. is_of_tree reference after row) REFERENCES
  trees_same row = all_agree (λ reference. is_of_tree reference before row) (λ reference. is_of_tree reference after row) REFERENCES (λ reference i. tree_same reference i row)

  parent_same : (row : Row) → is_plain row ≡ true → parent_row REFERENCES before row ≡ parent_row REFERENCES after row
  parent_same row p = by (parent_id REFERENCES row)
    where
      by : (name : Option ℕ) → option_and_then (λ id. find (is_one row.key.entity id) before) name ≡ option_and_then (λ id. find (is_one row.key.entity id) after) name
      by None = refl
      by (Some id) = find_same (is_one row.key.entity id) (is_plain_one row.key.entity id p)

  parent_plain : (row parent : Row) → is_plain row ≡ true → parent_row REFERENCES after row ≡ Some parent → is_plain parent ≡ true
  parent_plain row parent p e = by (parent_id REFERENCES row) e
    where
      by : (name : Option ℕ) → option_and_then (λ id. find (is_one row.key.entity id) after) name ≡ Some parent → is_plain parent ≡ true
      by None f = cc
      by (Some id) f = is_plain_one row.key.entity id p parent (find_of (is_one row.key.entity id) after parent f).passes

  walk_same : (n : ℕ) (row : Row) → is_plain row ≡ true → walk REFERENCES before n (parent_row REFERENCES before row) ≡ walk REFERENCES after n (parent_row REFERENCES after row)
  walk_same zero row p = refl
  walk_same (suc n) row p = ap (walk REFERENCES before (suc n)) (parent_same row p) ∙ by (walk_same n) (parent_row REFERENCES after row) refl
    where
      by : ((parent : Row) → is_plain parent ≡ true → walk REFERENCES before n (parent_row REFERENCES before parent) ≡ walk REFERENCES after n (parent_row REFERENCES after parent))
          → (parent : Option Row) → parent_row REFERENCES after row ≡ parent → walk REFERENCES before (suc n) parent ≡ walk REFERENCES after (suc n) parent
      by more None e = refl
      by more (Some parent) e = ap (λ rest. parent ∷ rest) (more parent (parent_plain row parent p e))

  deep_same : (row : Row) → is_plain row ≡ true → is_deep REFERENCES LEVEL_LIMITS before row ≡ is_deep REFERENCES LEVEL_LIMITS after row
  unfolding is_deep
  deep_same row p = any_agree (λ limit. is_entity limit.entity row.key.entity && is_past REFERENCES before limit.most row) (λ limit. is_entity limit.entity row.key.entity && is_past REFERENCES after limit.most row) LEVEL_LIMITS
      (λ limit i. ap (λ rest. is_entity limit.entity row.key.entity && nat_le limit.most (length rest)) (walk_same limit.most row p))

  twin_plain : (row other : Row) → is_twin row other ≡ true → is_plain row ≡ true
  unfolding is_twin
  twin_plain row other e =
      let unique = (and_parts _ (has_unique row.key.entity) (and_parts _ (agree_in_unique row.key.entity row other) e).0).1 in
      sym (ap (λ b. not b || is_plain_entity row.key.entity) unique) ∙ unique_plain row.key.entity

  twin_other : (row other : Row) → is_twin row other ≡ true → is_plain other ≡ true
  unfolding is_twin
  twin_other row other e =
      let same = (and_parts (is_entity row.key.entity other.key.entity) (not (stands_at row.key other)) (and_parts _ (has_unique row.key.entity) (and_parts _ (agree_in_unique row.key.entity row other) e).0).0).0 in
      same_plain row.key.entity other.key.entity same (twin_plain row other e)

  twin_same : (row : Row) → list_any (is_twin row) before ≡ list_any (is_twin row) after
  twin_same row = any_same (is_twin row) (twin_other row)

  owner_same : (row : Row) → list_any (owner_is_full before row) OWNER_LIMITS ≡ list_any (owner_is_full after row) OWNER_LIMITS
  owner_same row = any_agree (owner_is_full before row) (owner_is_full after row) OWNER_LIMITS
      (λ limit i. ap (λ n. is_entity limit.entity row.key.entity && nat_lt limit.most n) (count_same (is_of_owner limit row) (λ other e. same_plain limit.entity other.key.entity (and_parts (is_entity limit.entity other.key.entity) _ e).0 (owner_at limit i))))

-- ---- a row that keeps a draft fits all

module _ (rows : List Row) (row : Row) (keeps : is_plain row ≡ false) where
  named_none : (reference : Reference) → IsIn reference REFERENCES → named reference row ≡ None
  named_none reference i = rw (other_entity reference.entity row.key.entity (reference_at reference i).0 keeps) refl

  keeper_grounded : is_grounded REFERENCES rows row ≡ true
  unfolding is_grounded
  keeper_grounded = all_from (λ reference. is_met reference rows row) REFERENCES (λ reference i. ap (is_there rows reference.of) (named_none reference i))

  keeper_trees : list_all (λ reference. is_of_tree reference rows row) REFERENCES ≡ true
  keeper_trees = all_from (λ reference. is_of_tree reference rows row) REFERENCES (λ reference i. all_from (λ other. not (ties reference row other) || agree_within reference.within row other) rows (λ other j. by other (is_entity reference.of other.key.entity) reference i))
    where
      by : (other : Row) (b : Bool) (reference : Reference) → IsIn reference REFERENCES → (not (b && is_id (named reference row) other.key.id) || agree_within reference.within row other) ≡ true
      by other true reference i = ap (λ (name : Option ℕ). not (is_id name other.key.id) || agree_within reference.within row other) (named_none reference i)
      by other false reference i = refl

  keeper_single : list_any (is_twin row) rows ≡ false
  keeper_single = false_from_ne_true (list_any (is_twin row) rows) (λ e. by (any_of (is_twin row) rows e))
    where
      by : Found (is_twin row) rows → ⊥
      by f = false≢true (sym keeps ∙ twin_plain [] [] refl row f.one f.passes)

  keeper_shallow : is_deep REFERENCES LEVEL_LIMITS rows row ≡ false
  unfolding is_deep
  keeper_shallow = false_from_ne_true _ (λ e. by (any_of (λ limit. is_entity limit.entity row.key.entity && is_past REFERENCES rows limit.most row) LEVEL_LIMITS e))
    where
      by : Found (λ (limit : LevelLimit). is_entity limit.entity row.key.entity && is_past REFERENCES rows limit.most row) LEVEL_LIMITS → ⊥
      by f = false≢true (sym (other_entity f.one.entity row.key.entity (level_at f.one f.is_in) keeps) ∙ (and_parts (is_entity f.one.entity row.key.entity) _ f.passes).0)

  keeper_few : list_any (owner_is_full rows row) OWNER_LIMITS ≡ false
  keeper_few = false_from_ne_true _ (λ e. by (any_of (owner_is_full rows row) OWNER_LIMITS e))
    where
      by : Found (owner_is_full rows row) OWNER_LIMITS → ⊥
      by f = false≢true (sym (other_entity f.one.entity row.key.entity (owner_at f.one f.is_in) keeps) ∙ (and_parts (is_entity f.one.entity row.key.entity) _ f.passes).0)

-- ---- so coherence is a matter of the others

module _ (before after : View) (fit : IsCoherent before) (same : plain before.rows ≡ plain after.rows) where
  was_in : (row : Row) → IsIn row after.rows → is_plain row ≡ true → IsIn row before.rows
  was_in row i p = (of_filter is_plain before.rows row (subst (λ (all : List Row). IsIn row all) (sym same) (in_filter is_plain after.rows row i p))).is_in

  grounded : (row : Row) → IsIn row after.rows → (b : Bool) → is_plain row ≡ b → is_grounded REFERENCES after.rows row ≡ true
  unfolding are_grounded
  grounded row i true p = sym (grounded_same before.rows after.rows same row) ∙ all_at (is_grounded REFERENCES before.rows) before.rows row fit.grounded (was_in row i p)
  grounded row i false p = keeper_grounded after.rows row p

  of_one_tree : (row : Row) → IsIn row after.rows → (b : Bool) → is_plain row ≡ b → list_all (λ reference. is_of_tree reference after.rows row) REFERENCES ≡ true
  of_one_tree row i true p = sym (trees_same before.rows after.rows same row) ∙ all_at (λ row. list_all (λ reference. is_of_tree reference before.rows row) REFERENCES) before.rows row fit.of_one_tree (was_in row i p)
  of_one_tree row i false p = keeper_trees after.rows row p

  single : (row : Row) → IsIn row after.rows → (b : Bool) → is_plain row ≡ b → not (list_any (is_twin row) after.rows) ≡ true
  single row i true p = ap not (sym (twin_same before.rows after.rows same row)) ∙ all_at (λ row. not (list_any (is_twin row) before.rows)) before.rows row fit.single (was_in row i p)
  single row i false p = ap not (keeper_single after.rows row p)

  shallow : (row : Row) → IsIn row after.rows → (b : Bool) → is_plain row ≡ b → not (is_deep REFERENCES LEVEL_LIMITS after.rows row) ≡ true
  shallow row i true p = ap not (sym (deep_same before.rows after.rows same row p)) ∙ all_at (λ row. not (is_deep REFERENCES LEVEL_LIMITS before.rows row)) before.rows row fit.shallow (was_in row i p)
  shallow row i false p = ap not (keeper_shallow after.rows row p)

  few : (row : Row) → IsIn row after.rows → (b : Bool) → is_plain row ≡ b → not (list_any (owner_is_full after.rows row) OWNER_LIMITS) ≡ true
  few row i true p = ap not (sym (owner_same before.rows after.rows same row)) ∙ all_at (λ row. not (list_any (owner_is_full before.rows row) OWNER_LIMITS)) before.rows row fit.few (was_in row i p)
  few row i false p = ap not (keeper_few after.rows row p)

  pub plain_coherent : IsInPlaceOrder after.rows → list_all (λ row. row_key_fits row.key) after.rows ≡ true → ((entity : Entity) → count_of after.hidden after.rows entity ≤ MOST_ROWS) → IsCoherent after
  unfolding are_grounded
  plain_coherent up formed bounded = record {
    in_order = up;
    formed = formed;
    grounded = all_from (is_grounded REFERENCES after.rows) after.rows (λ row i. grounded row i (is_plain row) refl);
    of_one_tree = all_from (λ row. list_all (λ reference. is_of_tree reference after.rows row) REFERENCES) after.rows (λ row i. of_one_tree row i (is_plain row) refl);
    single = all_from (λ row. not (list_any (is_twin row) after.rows)) after.rows (λ row i. single row i (is_plain row) refl);
    shallow = all_from (λ row. not (is_deep REFERENCES LEVEL_LIMITS after.rows row)) after.rows (λ row i. shallow row i (is_plain row) refl);
    bounded = bounded;
    few = all_from (λ row. not (list_any (owner_is_full after.rows row) OWNER_LIMITS)) after.rows (λ row i. few row i (is_plain row) refl);
  }
