-- Where a written row has the parent that it had, no row comes to stand lower.
use Rattle.std.proofs.Common.{◌≡◌, ℕ, zero, suc, Bool, true, false, ◌⊎◌, inl, inr, List, length, refl, sym, ap, subst, ◌∙◌, Option, Some, None}
use Rattle.std.specs.Prelude.{◌&&◌, not, find, nat_eq, nat_le, if◌then◌else◌}
use Rattle.std.specs.Option.{option_map, option_map_or, option_and_then}
use Rattle.std.proofs.lemmas.Bool.{false≢true, both_ways, and_parts, not-true, eqb-true}
use Rattle.closure.specs.Closure.{IsIn}
use Rattle.closure.proofs.Members.{all_at}
use Rattle.shop_defs.specs.declared.entity.Entity.{Entity}
use Rattle.shop_defs.specs.declared.key.Key.{Key}
use Rattle.shop_defs.specs.declared.row.Row.{Row}
use Rattle.shop_defs.specs.declared.table.TheConstants.{REFERENCES, LEVEL_LIMITS}
use Rattle.shop_defs.specs.Entities.{entity_number}
use Rattle.shop_defs.specs.Rows.{row_key}
use Rattle.shop_operations.specs.Deletes.{stands_at}
use Rattle.shop_operations.specs.Parents.{parent_id, parent_row, walk, is_past, is_deep}
use Rattle.shop_operations.specs.References.{is_one}
use Rattle.shop_operations.specs.Upserts.{place_cmp, with_row, row_in, sinks}
use Rattle.shop_operations.specs.Views.{View}
use Rattle.shop_write.specs.Steps.{is_same_id, keeps_parent}
use Rattle.shop_write.specs.Writes.{IsWrite, are_shallow, has_one_part, limit_of, id_key}
use Rattle.shop_write.proofs.IdsDown.{none_found}
use Rattle.shop_write.proofs.LevelTable.{parent_one_part, deep_is, same_limit}
use Rattle.shop_write.proofs.OnePart.{one_found, one_with}
use Rattle.shop_write.proofs.ParentWalks.{hit}
use Rattle.shop_write.proofs.WrittenRows.{SamePlace, same_place, find_agree, put_of, row_in_with}

-- two rows of one entity with one parent, or none
record Alike (a b : Row) : Type 0 where
  entity : entity_number a.key.entity ≡ entity_number b.key.entity
  parent : parent_id REFERENCES a ≡ parent_id REFERENCES b

abbrev AreAlike : Option Row → Option Row → Type 0
AreAlike None None = Unit {0}
AreAlike (Some a) (Some b) = Alike a b
AreAlike a b = ⊥

alike_itself : (o : Option Row) → AreAlike o o
alike_itself None = tt
alike_itself (Some a) = record { entity = refl; parent = refl }

same_ids : (a b : Option ℕ) → is_same_id a b ≡ true → a ≡ b
same_ids None None h = refl
same_ids (Some a) (Some b) h = ap Some (eqb-true a b h)
same_ids None (Some b) h = absurd (false≢true h)
same_ids (Some a) None h = absurd (false≢true h)

-- the row at a place is the same by any key of that place
row_in_place : (rows : List Row) (a b : Key) → SamePlace a b → row_in rows a ≡ row_in rows b
row_in_place rows a b s = find_agree (stands_at a) (stands_at b) rows (λ row i. rw (s.entity, s.id, s.second) refl)

module _ (view : View) (row : Row) (w : IsWrite view row) (before : Row) (found : row_in view.rows row.key ≡ Some before) (same : parent_id REFERENCES before ≡ parent_id REFERENCES row) (shallow : are_shallow view.rows ≡ true) where
  alike : Alike row before
  alike = record { entity = (same_place row.key before (hit (stands_at row.key) view.rows before found).passes).entity; parent = sym same }

  alike_found : (entity : Entity) (id : ℕ) → has_one_part entity ≡ true → AreAlike (find (is_one entity id) (with_row view.rows row)) (find (is_one entity id) view.rows)
  alike_found entity id one =
      subst (λ (o : Option Row). AreAlike o (find (is_one entity id) view.rows)) (sym (one_with view row w entity id one ∙ row_in_with view.rows row (id_key entity id)))
      (subst (λ (o : Option Row). AreAlike (if stands_at (id_key entity id) row then Some row else row_in view.rows (id_key entity id)) o) (sym (one_found view.rows w.keys_fit entity one id))
      (by (stands_at (id_key entity id) row) refl))
    where
      by : (b : Bool) → stands_at (id_key entity id) row ≡ b → AreAlike (if b then Some row else row_in view.rows (id_key entity id)) (row_in view.rows (id_key entity id))
      by true e = subst (λ (o : Option Row). AreAlike (Some row) o) (sym (row_in_place view.rows (id_key entity id) row.key (same_place (id_key entity id) row e) ∙ found)) alike
      by false e = alike_itself (row_in view.rows (id_key entity id))

  alike_up : (a b : Row) → Alike a b → AreAlike (parent_row REFERENCES (with_row view.rows row) a) (parent_row REFERENCES view.rows b)
  alike_up a b l =
      subst (λ (o : Option ℕ). AreAlike (option_and_then (λ id. find (is_one a.key.entity id) (with_row view.rows row)) o) (parent_row REFERENCES view.rows b)) (sym l.parent)
      (subst (λ (n : ℕ). AreAlike (option_and_then (λ id. find (λ (r : Row). nat_eq n (entity_number r.key.entity) && nat_eq id r.key.id) (with_row view.rows row)) (parent_id REFERENCES b)) (parent_row REFERENCES view.rows b)) (sym l.entity)
      (by (parent_id REFERENCES b) refl))
    where
      by : (o : Option ℕ) → parent_id REFERENCES b ≡ o → AreAlike (option_and_then (λ id. find (is_one b.key.entity id) (with_row view.rows row)) o) (option_and_then (λ id. find (is_one b.key.entity id) view.rows) o)
      by None e = tt
      by (Some id) e = alike_found b.key.entity id (parent_one_part b id e)

  alike_walk : (n : ℕ) (a b : Option Row) → AreAlike a b → length (walk REFERENCES (with_row view.rows row) n a) ≡ length (walk REFERENCES view.rows n b)
  alike_walk zero a b l = refl
  alike_walk (suc n) None None l = refl
  alike_walk (suc n) (Some a) (Some b) l = ap (λ k. suc k) (alike_walk n (parent_row REFERENCES (with_row view.rows row) a) (parent_row REFERENCES view.rows b) (alike_up a b l))
  alike_walk (suc n) None (Some b) l = absurd l
  alike_walk (suc n) (Some a) None l = absurd l

  alike_deep : (a b : Row) → Alike a b → is_deep REFERENCES LEVEL_LIMITS (with_row view.rows row) a ≡ is_deep REFERENCES LEVEL_LIMITS view.rows b
  alike_deep a b l =
      deep_is (with_row view.rows row) a ∙
      (ap (λ (o : Option ℕ). option_map_or (λ n. is_past REFERENCES (with_row view.rows row) n a) o false) (same_limit a.key.entity b.key.entity l.entity) ∙
      (by (limit_of b.key.entity) ∙ sym (deep_is view.rows b)))
    where
      by : (o : Option ℕ) → option_map_or (λ n. is_past REFERENCES (with_row view.rows row) n a) o false ≡ option_map_or (λ n. is_past REFERENCES view.rows n b) o false
      by None = refl
      by (Some n) = ap (nat_le n) (alike_walk n (parent_row REFERENCES (with_row view.rows row) a) (parent_row REFERENCES view.rows b) (alike_up a b l))

  old_shallow : (x : Row) → IsIn x view.rows → is_deep REFERENCES LEVEL_LIMITS view.rows x ≡ false
  old_shallow x i = not-true _ (all_at (λ (r : Row). not (is_deep REFERENCES LEVEL_LIMITS view.rows r)) view.rows x shallow i)

  none_deep : (x : Row) → (row ≡ x) ⊎ IsIn x view.rows → is_deep REFERENCES LEVEL_LIMITS (with_row view.rows row) x ≡ false
  none_deep x (inl e) = subst (λ (r : Row). is_deep REFERENCES LEVEL_LIMITS (with_row view.rows row) r ≡ false) e (alike_deep row before alike ∙ old_shallow before (hit (stands_at row.key) view.rows before found).is_in)
  none_deep x (inr i) = alike_deep x x (record { entity = refl; parent = refl }) ∙ old_shallow x i

  none_sinks : None ≡ option_map (λ (x : Row). x.key.id) (find (sinks (with_row view.rows row) row) (with_row view.rows row))
  none_sinks = sym (ap (option_map (λ (x : Row). x.key.id)) (none_found (sinks (with_row view.rows row) row) (with_row view.rows row) none))
    where
      none : (x : Row) → IsIn x (with_row view.rows row) → sinks (with_row view.rows row) row x ≡ true → ⊥
      none x i h = both_ways _ (none_deep x (put_of place_cmp row_key view.rows row x i)) (and_parts _ (is_deep REFERENCES LEVEL_LIMITS (with_row view.rows row) x) h).1

-- where the parent is the one that the row had, and no row stood too low, none sinks
pub kept_parent : (view : View) (row : Row) → IsWrite view row → are_shallow view.rows ≡ true → keeps_parent view.rows row ≡ true → None ≡ option_map (λ (x : Row). x.key.id) (find (sinks (with_row view.rows row) row) (with_row view.rows row))
kept_parent view row w shallow h = by (row_in view.rows row.key) refl h
  where
    by : (o : Option Row) → row_in view.rows row.key ≡ o → option_map_or (λ (before : Row). is_same_id (parent_id REFERENCES before) (parent_id REFERENCES row)) o false ≡ true → None ≡ option_map (λ (x : Row). x.key.id) (find (sinks (with_row view.rows row) row) (with_row view.rows row))
    by None e k = absurd (false≢true k)
    by (Some before) e k = none_sinks view row w before e (same_ids (parent_id REFERENCES before) (parent_id REFERENCES row) k) shallow
