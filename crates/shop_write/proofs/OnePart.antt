-- Rows whose keys have one part are found by their ids.
use Rattle.std.proofs.Common.{◌≡◌, ℕ, Bool, true, false, ◌&&◌, ◌||◌, List, refl, sym, ap, subst, ◌∙◌, Option, Some, None}
use Rattle.std.specs.Prelude.{◌==◌, not, find, nat_eq, is_some}
use Rattle.std.specs.List.{list_all}
use Rattle.std.specs.Option.{option_map_or}
use Rattle.std.proofs.lemmas.Bool.{false≢true, and_from, and_parts, eqb-true, eq-eqb}
use Rattle.shop_defs.specs.declared.entity.Entity.{Entity}
use Rattle.shop_defs.specs.declared.row.Row.{Row}
use Rattle.shop_defs.specs.declared.table.EntityInfo.{EntityInfo}
use Rattle.shop_defs.specs.declared.table.KeyForm.{KeyForm}
use Rattle.shop_defs.specs.declared.table.KeyForm.TheVariants.{OnePart, TwoParts}
use Rattle.shop_defs.specs.declared.table.Reference.{Reference}
use Rattle.shop_defs.specs.declared.table.TheConstants.{ENTITIES, REFERENCES}
use Rattle.shop_defs.specs.Entities.{entity_number}
use Rattle.shop_defs.specs.Fitting.{row_key_fits, line_key_fits}
use Rattle.shop_defs.specs.Rows.{row_key}
use Rattle.shop_defs.specs.Tables.{info_of}
use Rattle.shop_operations.specs.Deletes.{stands_at}
use Rattle.shop_operations.specs.References.{is_entity, is_one, is_met, named}
use Rattle.shop_operations.specs.Upserts.{place_cmp, with_row, row_in, is_of_tree, agree_within}
use Rattle.shop_operations.specs.Views.{View, IsInPlaceOrder}
use Rattle.closure.specs.Closure.{IsIn}
use Rattle.closure.proofs.Members.{all_at, all_from}
use Rattle.shop_write.specs.Writes.{IsWrite, has_one_part, line_has_one_part, name_one_part, id_key}
use Rattle.shop_write.proofs.WrittenRows.{find_agree, any_is_found, IsSingle, all_is_found, all_put, with_in_order, places_apart, place_same, same_place}

-- what the references of the table name has keys of one part
pub references_name_one_part : name_one_part REFERENCES ≡ true
unfolding has_one_part info_of
references_name_one_part = refl

-- the keys' form depends on the entity's number alone
same_info : (a b : Entity) → entity_number a ≡ entity_number b → info_of a ≡ info_of b
unfolding info_of
same_info a b e = ap (λ (n : ℕ). find (λ (info : EntityInfo). entity_number info.entity == n) ENTITIES) e

no_second : (line : Option EntityInfo) (id second : ℕ) → line_has_one_part line ≡ true → line_key_fits line id second ≡ true → 0 ≡ second
no_second None id second one fits = absurd (false≢true one)
no_second (Some info) id second one fits = by info.key one fits
  where
    by : (form : KeyForm) → line_has_one_part (Some (record info { key = form })) ≡ true → line_key_fits (Some (record info { key = form })) id second ≡ true → 0 ≡ second
    by OnePart o f = sym (eqb-true second 0 (and_parts _ _ f).1)
    by TwoParts o f = absurd (false≢true o)

-- where the keys have one part, the row with an id stands at the place of that id
pub one_stands : (of : Entity) (id : ℕ) (row : Row) → has_one_part of ≡ true → row_key_fits row.key ≡ true → is_one of id row ≡ stands_at (id_key of id) row
unfolding has_one_part
one_stands of id row one fits = by (is_one of id row) refl
  where
    by : (b : Bool) → is_one of id row ≡ b → b ≡ (is_one of id row && nat_eq 0 row.key.second)
    by true e =
        let both = and_parts (nat_eq (entity_number of) (entity_number row.key.entity)) (nat_eq id row.key.id) e in
        let same : info_of of ≡ info_of row.key.entity = same_info of row.key.entity (eqb-true _ _ both.0) in
        sym (and_from _ _ e (eq-eqb _ _ (no_second (info_of row.key.entity) row.key.id row.key.second (subst (λ (line : Option EntityInfo). line_has_one_part line ≡ true) same one) fits)))
    by false e = rw e refl

module _ (rows : List Row) (formed : list_all (λ row. row_key_fits row.key) rows ≡ true) (of : Entity) (one : has_one_part of ≡ true) (id : ℕ) where
  pub one_found : find (is_one of id) rows ≡ row_in rows (id_key of id)
  one_found = find_agree (is_one of id) (stands_at (id_key of id)) rows (λ row i. one_stands of id row one (all_at (λ (r : Row). row_key_fits r.key) rows row formed i))

  pub one_single : IsInPlaceOrder rows → IsSingle (is_one of id) rows
  one_single up a b i j p q = places_apart rows up a b i j (both_stand (stands a i p) (stands b j q))
    where
      stands : (row : Row) → IsIn row rows → is_one of id row ≡ true → stands_at (id_key of id) row ≡ true
      stands row k h = sym (one_stands of id row one (all_at (λ (r : Row). row_key_fits r.key) rows row formed k)) ∙ h

      both_stand : stands_at (id_key of id) a ≡ true → stands_at (id_key of id) b ≡ true → stands_at a.key b ≡ true
      both_stand h k =
          let s = same_place (id_key of id) a h in
          let t = same_place (id_key of id) b k in
          place_same a.key b (record { entity = sym s.entity ∙ t.entity; id = sym s.id ∙ t.id; second = sym s.second ∙ t.second })

-- ---- the view's rows with the row that is written

abbrev pub AreFormed : List Row → Type 0
AreFormed rows = list_all (λ row. row_key_fits row.key) rows ≡ true

pub with_formed : (view : View) (row : Row) → IsWrite view row → AreFormed (with_row view.rows row)
with_formed view row w = all_put place_cmp row_key (λ (r : Row). row_key_fits r.key) view.rows row w.keys_fit w.formed

pub one_with : (view : View) (row : Row) → IsWrite view row → (of : Entity) (id : ℕ) → has_one_part of ≡ true → find (is_one of id) (with_row view.rows row) ≡ row_in (with_row view.rows row) (id_key of id)
one_with view row w of id one = one_found (with_row view.rows row) (with_formed view row w) of one id

pub single_with : (view : View) (row : Row) → IsWrite view row → (of : Entity) (id : ℕ) → has_one_part of ≡ true → IsSingle (is_one of id) (with_row view.rows row)
single_with view row w of id one = one_single (with_row view.rows row) (with_formed view row w) of one id (with_in_order view.rows row w.in_order)

-- ---- what a row names, by the row that is found

joined : (a b : Bool) (q : Row → Bool) (found : Option Row) → a ≡ is_some found → b ≡ option_map_or q found true → (a && b) ≡ option_map_or q found false
joined a b q None e f = rw e refl
joined a b q (Some other) e f = rw (e, f) refl

module _ (view : View) (row : Row) (w : IsWrite view row) (reference : Reference) where
  not_tied : (a b : Bool) → (not (a && false) || b) ≡ true
  not_tied true b = refl
  not_tied false b = refl

  -- a reference that names nothing
  pub kept_none : named reference row ≡ None → true ≡ (is_met reference (with_row view.rows row) row && is_of_tree reference (with_row view.rows row) row)
  kept_none e = sym (and_from _ _ (rw e refl) (all_from _ (with_row view.rows row) (λ other i. rw e (not_tied (is_entity reference.of other.key.entity) _))))

  -- what it names, as it is found
  kept_some : (id : ℕ) (found : Option Row) → named reference row ≡ Some id → has_one_part reference.of ≡ true → found ≡ find (is_one reference.of id) (with_row view.rows row) → option_map_or (agree_within reference.within row) found false ≡ (is_met reference (with_row view.rows row) row && is_of_tree reference (with_row view.rows row) row)
  kept_some id found e one f = sym (joined _ _ (agree_within reference.within row) found (met ∙ ap is_some (sym f)) (tree ∙ ap (λ (o : Option Row). option_map_or (agree_within reference.within row) o true) (sym f)))
    where
      met : is_met reference (with_row view.rows row) row ≡ is_some (find (is_one reference.of id) (with_row view.rows row))
      met = rw e (any_is_found (is_one reference.of id) (with_row view.rows row))

      tree : is_of_tree reference (with_row view.rows row) row ≡ option_map_or (agree_within reference.within row) (find (is_one reference.of id) (with_row view.rows row)) true
      tree = rw e (all_is_found (is_one reference.of id) (agree_within reference.within row) (with_row view.rows row) (single_with view row w reference.of id one))

  pub kept_absent : (id : ℕ) → named reference row ≡ Some id → has_one_part reference.of ≡ true → None ≡ find (is_one reference.of id) (with_row view.rows row) → false ≡ (is_met reference (with_row view.rows row) row && is_of_tree reference (with_row view.rows row) row)
  kept_absent id e one f = kept_some id None e one f

  pub kept_there : (id : ℕ) (other : Row) → named reference row ≡ Some id → has_one_part reference.of ≡ true → Some other ≡ find (is_one reference.of id) (with_row view.rows row) → agree_within reference.within row other ≡ (is_met reference (with_row view.rows row) row && is_of_tree reference (with_row view.rows row) row)
  kept_there id other e one f = kept_some id (Some other) e one f
