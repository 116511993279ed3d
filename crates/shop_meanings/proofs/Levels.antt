-- How high a category stands: the walk up ends, within as many steps as there may be levels and as there are categories.
use Rattle.std.proofs.Common.{◌≡◌, ℕ, zero, suc, ◌≤◌, ◌<◌, Bool, true, false, ◌&&◌, ◌⊎◌, inl, inr, List, [], ◌∷◌, length, Option, Some, None, refl, sym, ap, subst, ◌∙◌, arith}
use Rattle.std.specs.Prelude.{◌==◌, nat_le, find, filter, is_some}
use Rattle.std.specs.List.{list_all, list_any}
use Rattle.std.specs.Option.{option_and_then}
use Rattle.std.proofs.lemmas.Bool.{and_from, both_ways, eqb-true, eq-eqb, false_from_ne_true, leb-false, leb-true, le-leb}
use Rattle.std.proofs.lemmas.List.Folds.{list_all-append}
use Rattle.closure.specs.Closure.{IsIn}
use Rattle.closure.proofs.Laws.{Agree, filter_short, grown}
use Rattle.closure.proofs.Members.{all_at, any_is, any_of, in_filter, of_filter}
use Rattle.shop_defs.specs.declared.entity.Entity.{Entity}
use Rattle.shop_defs.specs.declared.entity.Entity.TheVariants as E
use Rattle.shop_defs.specs.declared.key.Key.{Key}
use Rattle.shop_defs.specs.declared.row.Row.{Row}
use Rattle.shop_defs.specs.declared.table.LevelLimit.{LevelLimit}
use Rattle.shop_defs.specs.declared.table.TheConstants.{REFERENCES, LEVEL_LIMITS}
use Rattle.shop_defs.specs.Entities.{entity_number}
use Rattle.shop_defs.specs.Fitting.{row_key_fits}
use Rattle.shop_defs.specs.Rows.{row_at}
use Rattle.shop_operations.specs.Parents.{parent_id, parent_row, is_past, is_deep}
use Rattle.shop_operations.specs.Parents.{walk as row_walk}
use Rattle.shop_operations.specs.References.{is_entity, is_live, is_one, is_there, live}
use Rattle.shop_soundness.proofs.Ancestors.{has_parent, not_deep}
use Rattle.shop_soundness.proofs.Grounded.{old_met}
use Rattle.shop_soundness.proofs.Lists.{find_of, finds, no_some}
use Rattle.shop_soundness.proofs.Ones.{one_key}
use Rattle.shop_soundness.proofs.Tables.{has_one_part, named_have_one_part}
use Rattle.shop_meanings.specs.Live.{live_key, live_row, live_rows, AreOrderly}
use Rattle.shop_meanings.specs.Categories.{above, walk, path}
use Rattle.shop_meanings.proofs.Found.{stands_under, found_there}
use Rattle.shop_meanings.proofs.Walks.{walk_root, walk_step, length_step, walk_enough}

abbrev pub most_levels : ℕ
most_levels = 32

none_of : {X : Type 0} (p : X → Bool) (xs : List X) (x : X) → list_any p xs ≡ false → IsIn x xs → p x ≡ false
none_of p xs x e i = false_from_ne_true (p x) (λ f. both_ways (list_any p xs) e (any_is p xs x i f))

some_one : {X : Type 0} (xs : List X) (x : X) → IsIn x xs → 0 < length xs
some_one [] x i = absurd i
some_one (y ∷ xs) x i = omega arith

module _ (rows : List Row) (orderly : AreOrderly rows) where
  -- a live category
  pub record IsCategory (id : ℕ) (row : Row) : Type 0 where
    pub is_live : IsIn row (live rows)
    pub is_in : IsIn row (live_rows rows E.Category)
    pub same : row.key ≡ live_key E.Category id

  pub category_at : (id : ℕ) (row : Row) → live_row rows E.Category id ≡ Some row → IsCategory id row
  category_at id row e =
      let stands = stands_under rows (live_key E.Category id) row e in
      let version : is_live row ≡ true = ap (λ (k : Key). k.version == 0) stands.same in
      let entity : is_entity E.Category row.key.entity ≡ true = ap (λ (k : Key). is_entity E.Category k.entity) stands.same ∙ eq-eqb (entity_number E.Category) (entity_number E.Category) refl in
      record {
        is_live = in_filter is_live rows row stands.is_in version;
        is_in = in_filter (λ r. is_live r && is_entity E.Category r.key.entity) rows row stands.is_in (and_from _ _ version entity);
        same = stands.same;
      }

  -- the row that a category's row names as its parent
  record HasParentRow (row : Row) (id : ℕ) : Type 0 where
    one : Row
    found : find (is_one row.key.entity id) (live rows) ≡ Some one
    stands : live_row rows E.Category id ≡ Some one

  parent_stands : (row : Row) (id : ℕ) → IsIn row (live rows) → row.key.entity ≡ E.Category → parent_id REFERENCES row ≡ Some id → HasParentRow row id
  parent_stands row id i cat e =
      let parent = has_parent row id e in
      let met = old_met (live rows) row parent.reference orderly.coherent.grounded i parent.is_in in
      let there = any_of (is_one parent.reference.of id) (live rows) (subst (λ (o : Option ℕ). is_there (live rows) parent.reference.of o ≡ true) parent.name met) in
      let own : is_one row.key.entity id there.one ≡ true = subst (λ (of : Entity). is_one of id there.one ≡ true) parent.of there.passes in
      let find = finds (is_one row.key.entity id) (live rows) there.one there.is_in own in
      let one = find_of (is_one row.key.entity id) (live rows) find.one find.found in
      let is : is_one parent.reference.of id find.one ≡ true = subst (λ (of : Entity). is_one of id find.one ≡ true) (sym parent.of) one.passes in
      let key = one_key parent.reference.of id find.one (all_at (λ r. has_one_part r.of) REFERENCES parent.reference named_have_one_part parent.is_in) (all_at (λ r. row_key_fits r.key) (live rows) find.one orderly.coherent.formed one.is_in) is in
      let stood = of_filter is_live rows find.one one.is_in in
      let entity : find.one.key.entity ≡ E.Category = sym key.entity ∙ (parent.of ∙ cat) in
      let version : find.one.key.version ≡ 0 = eqb-true _ _ stood.passes in
      let number : find.one.key.id ≡ id = sym key.id_is in
      let second : find.one.key.second ≡ 0 = key.second in
      let same : find.one.key ≡ live_key E.Category id = λ j. record { entity = entity j; version = version j; id = number j; second = second j } in
      record { one = find.one; found = find.found; stands = ap (row_at rows) (sym same) ∙ found_there rows find.one orderly.order stood.is_in }

  up_is : (id : ℕ) (row : Row) → live_row rows E.Category id ≡ Some row → above rows id ≡ parent_id REFERENCES row
  up_is id row e = ap (option_and_then (parent_id REFERENCES)) e

  -- what a category names as its parent is a live category
  pub parent_is_live : (id parent : ℕ) → above rows id ≡ Some parent → is_some (live_row rows E.Category parent) ≡ true
  parent_is_live id parent e = by (live_row rows E.Category id) refl
    where
      by : (o : Option Row) → live_row rows E.Category id ≡ o → is_some (live_row rows E.Category parent) ≡ true
      by None f = absurd (no_some parent (sym (ap (option_and_then (parent_id REFERENCES)) f) ∙ e))
      by (Some row) f =
          let is = category_at id row f in
          let stands = parent_stands row parent is.is_live (ap (λ (k : Key). k.entity) is.same) (sym (up_is id row f) ∙ e) in
          ap is_some stands.stands

  -- the walk over rows that tells how deep a category stands is as long as the walk over ids
  same_length : (n id : ℕ) (row : Row) → live_row rows E.Category id ≡ Some row → length (row_walk REFERENCES (live rows) n (parent_row REFERENCES (live rows) row)) ≡ length (walk (above rows) n id)
  same_length zero id row e = refl
  same_length (suc n) id row e = by (same_length n) (parent_id REFERENCES row) refl
    where
      by : ((id : ℕ) (row : Row) → live_row rows E.Category id ≡ Some row → length (row_walk REFERENCES (live rows) n (parent_row REFERENCES (live rows) row)) ≡ length (walk (above rows) n id)) → (o : Option ℕ) → parent_id REFERENCES row ≡ o → length (row_walk REFERENCES (live rows) (suc n) (parent_row REFERENCES (live rows) row)) ≡ length (walk (above rows) (suc n) id)
      by more None f =
          let left : length (row_walk REFERENCES (live rows) (suc n) (parent_row REFERENCES (live rows) row)) ≡ 0 = ap (λ (o : Option ℕ). length (row_walk REFERENCES (live rows) (suc n) (option_and_then (λ id. find (is_one row.key.entity id) (live rows)) o))) f in
          left ∙ sym (ap length (walk_root (above rows) (suc n) id (up_is id row e ∙ f)))
      by more (Some parent) f =
          let is = category_at id row e in
          let stands = parent_stands row parent is.is_live (ap (λ (k : Key). k.entity) is.same) f in
          let named : length (row_walk REFERENCES (live rows) (suc n) (parent_row REFERENCES (live rows) row)) ≡ length (row_walk REFERENCES (live rows) (suc n) (find (is_one row.key.entity parent) (live rows))) = ap (λ (o : Option ℕ). length (row_walk REFERENCES (live rows) (suc n) (option_and_then (λ id. find (is_one row.key.entity id) (live rows)) o))) f in
          let found : length (row_walk REFERENCES (live rows) (suc n) (find (is_one row.key.entity parent) (live rows))) ≡ suc (length (row_walk REFERENCES (live rows) n (parent_row REFERENCES (live rows) stands.one))) = ap (λ (o : Option Row). length (row_walk REFERENCES (live rows) (suc n) o)) stands.found in
          named ∙ (found ∙ (ap suc (more parent stands.one stands.stands) ∙ sym (length_step (above rows) n id parent (up_is id row e ∙ f))))

  -- the walk up from a live category ends before it has as many steps as a category may have levels
  low : (id : ℕ) (row : Row) → live_row rows E.Category id ≡ Some row → length (walk (above rows) most_levels id) < most_levels
  unfolding is_deep
  low id row e =
      let is = category_at id row e in
      let limit : LevelLimit = record { entity = E.Category; most = most_levels } in
      let off = none_of (λ l. is_entity l.entity row.key.entity && is_past REFERENCES (live rows) l.most row) LEVEL_LIMITS limit (not_deep (live rows) row orderly.coherent.shallow is.is_live) (inr (inl refl)) in
      let entity : is_entity E.Category row.key.entity ≡ true = ap (λ (k : Key). is_entity E.Category k.entity) is.same ∙ eq-eqb (entity_number E.Category) (entity_number E.Category) refl in
      let past : is_past REFERENCES (live rows) most_levels row ≡ false = ap (λ (b : Bool). b && is_past REFERENCES (live rows) most_levels row) (sym entity) ∙ off in
      subst (λ (k : ℕ). k < most_levels) (same_length most_levels id row e) (leb-false most_levels (length (row_walk REFERENCES (live rows) most_levels (parent_row REFERENCES (live rows) row))) past)

  -- and from what is no live category there is none
  nowhere : (n id : ℕ) → live_row rows E.Category id ≡ None → walk (above rows) n id ≡ []
  nowhere n id e = walk_root (above rows) n id (ap (option_and_then (parent_id REFERENCES)) e)

  pub low_all : (id : ℕ) → length (walk (above rows) most_levels id) < most_levels
  low_all id = by (live_row rows E.Category id) refl
    where
      by : (o : Option Row) → live_row rows E.Category id ≡ o → length (walk (above rows) most_levels id) < most_levels
      by None e = let l : length (walk (above rows) most_levels id) ≡ 0 = ap length (nowhere most_levels id e) in subst (λ (k : ℕ). k < most_levels) (sym l) (omega arith)
      by (Some row) e = low id row e

  -- ---- as many steps as there are categories

  -- how many steps up there are
  abbrev pub height : ℕ → ℕ
  height id = length (walk (above rows) most_levels id)

  -- a parent stands a step higher
  height_step : (id parent : ℕ) → above rows id ≡ Some parent → height id ≡ suc (height parent)
  height_step id parent e = by 31 refl
    where
      by : (n : ℕ) → suc n ≡ most_levels → height id ≡ suc (height parent)
      by n m =
          let s : length (walk (above rows) (suc n) id) ≡ suc (length (walk (above rows) n parent)) = length_step (above rows) n id parent e in
          let h : height id ≡ suc (length (walk (above rows) n parent)) = ap (λ (k : ℕ). length (walk (above rows) k id)) (sym m) ∙ s in
          let l = low_all id in
          let k : length (walk (above rows) n parent) < n = omega (arith, h, l, m) in
          let same : walk (above rows) most_levels parent ≡ walk (above rows) n parent = walk_enough (above rows) n most_levels parent k (omega (arith, k, m)) in
          h ∙ ap (λ (ups : List ℕ). suc (length ups)) (sym same)

  -- it stands no higher than that
  abbrev is_within : ℕ → Row → Bool
  is_within h row = nat_le (height row.key.id) h

  -- as many categories stand no higher as a category has steps up, and one more
  crowd : (h id : ℕ) (row : Row) → live_row rows E.Category id ≡ Some row → height id ≡ h → h < length (filter (is_within h) (live_rows rows E.Category))
  crowd zero id row e f =
      let is = category_at id row e in
      let own : is_within 0 row ≡ true = ap (λ (k : Key). nat_le (height k.id) 0) is.same ∙ le-leb (height id) 0 (omega (arith, f)) in
      some_one (filter (is_within 0) (live_rows rows E.Category)) row (in_filter (is_within 0) (live_rows rows E.Category) row is.is_in own)
  crowd (suc h) id row e f = by (crowd h) (above rows id) refl
    where
      is : IsCategory id row
      is = category_at id row e

      grow : h < length (filter (is_within h) (live_rows rows E.Category)) → Agree (is_within h) (is_within (suc h)) (live_rows rows E.Category) ⊎ (length (filter (is_within h) (live_rows rows E.Category)) < length (filter (is_within (suc h)) (live_rows rows E.Category))) → suc h < length (filter (is_within (suc h)) (live_rows rows E.Category))
      grow l (inl agree) =
          let own : is_within (suc h) row ≡ true = ap (λ (k : Key). nat_le (height k.id) (suc h)) is.same ∙ le-leb (height id) (suc h) (omega (arith, f)) in
          let below : nat_le (height id) h ≡ true = sym (ap (λ (k : Key). nat_le (height k.id) h) is.same) ∙ (agree row is.is_in ∙ own) in
          let k = leb-true (height id) h below in
          absurd (omega (arith, f, k))
      grow l (inr m) = omega (arith, l, m)

      by : ((id : ℕ) (row : Row) → live_row rows E.Category id ≡ Some row → height id ≡ h → h < length (filter (is_within h) (live_rows rows E.Category))) → (o : Option ℕ) → above rows id ≡ o → suc h < length (filter (is_within (suc h)) (live_rows rows E.Category))
      by more None g = let l : height id ≡ 0 = ap length (walk_root (above rows) most_levels id g) in absurd (omega (arith, l, f))
      by more (Some parent) g =
          let stands = parent_stands row parent is.is_live (ap (λ (k : Key). k.entity) is.same) (sym (up_is id row e) ∙ g) in
          let s = height_step id parent g in
          let l = more parent stands.one stands.stands (omega (arith, s, f)) in
          grow l (grown (is_within h) (is_within (suc h)) (live_rows rows E.Category) (λ r i w. le-leb (height r.key.id) (suc h) (let k = leb-true (height r.key.id) h w in omega (arith, k))))

  -- a live category has fewer steps up than there are categories
  pub fewer : (id : ℕ) (row : Row) → live_row rows E.Category id ≡ Some row → height id < length (live_rows rows E.Category)
  fewer id row e = let l = crowd (height id) id row e refl in let k = filter_short (is_within (height id)) (live_rows rows E.Category) in omega (arith, l, k)

  -- so a walk of as many steps as a category may have levels, or of more, is the path
  pub enough : (n id : ℕ) → 31 ≤ n → walk (above rows) n id ≡ path rows id
  enough n id k = by (live_row rows E.Category id) refl
    where
      by : (o : Option Row) → live_row rows E.Category id ≡ o → walk (above rows) n id ≡ path rows id
      by None e = nowhere n id e ∙ sym (nowhere (length (live_rows rows E.Category)) id e)
      by (Some row) e =
          let l = low id row e in
          let f = fewer id row e in
          walk_enough (above rows) most_levels n id l (omega (arith, l, k)) ∙ sym (walk_enough (above rows) most_levels (length (live_rows rows E.Category)) id l (omega (arith, f)))

  -- all above a category are live categories
  pub all_live : (n id : ℕ) → list_all (λ up. is_some (live_row rows E.Category up)) (walk (above rows) n id) ≡ true
  all_live zero id = refl
  all_live (suc n) id = by (all_live n) (above rows id) refl
    where
      by : ((id : ℕ) → list_all (λ up. is_some (live_row rows E.Category up)) (walk (above rows) n id) ≡ true) → (o : Option ℕ) → above rows id ≡ o → list_all (λ up. is_some (live_row rows E.Category up)) (walk (above rows) (suc n) id) ≡ true
      by more None e = ap (list_all (λ up. is_some (live_row rows E.Category up))) (walk_root (above rows) (suc n) id e)
      by more (Some parent) e =
          ap (list_all (λ up. is_some (live_row rows E.Category up))) (walk_step (above rows) n id parent e)
          ∙ (list_all-append (λ up. is_some (live_row rows E.Category up)) (walk (above rows) n parent) (parent ∷ [])
          ∙ and_from _ _ (more parent) (and_from _ true (parent_is_live id parent e) refl))
