-- The ways up from rows.
use Rattle.std.proofs.Common.{◌≡◌, ℕ, Bool, true, false, ◌⊎◌, inl, inr, List, [], ◌∷◌, refl, sym, ap, subst, ◌∙◌, Option, Some, None}
use Rattle.std.specs.Prelude.{cond, find, nat_eq}
use Rattle.std.specs.Option.{option_and_then}
use Rattle.std.proofs.lemmas.Bool.{false≢true, both_ways, and_from, and_parts, eqb-true, eq-eqb}
use Rattle.shop_defs.specs.declared.row.Row.{Row}
use Rattle.shop_defs.specs.declared.table.TheConstants.{REFERENCES}
use Rattle.shop_defs.specs.Entities.{entity_number}
use Rattle.shop_operations.specs.Parents.{parent_id, parent_row, is_child}
use Rattle.shop_operations.specs.References.{is_entity, is_id, is_one}
use Rattle.shop_operations.specs.Views.{IsInPlaceOrder}
use Rattle.closure.specs.Closure.{IsIn}
use Rattle.shop_write.proofs.LevelTable.{parent_one_part}
use Rattle.shop_write.proofs.OnePart.{AreFormed, one_single}

-- ---- what a search finds

pub record IsHit {X : Type 0} (p : X → Bool) (xs : List X) (x : X) : Type 0 where
  pub is_in : IsIn x xs
  pub passes : p x ≡ true

pub hit : {X : Type 0} (p : X → Bool) (xs : List X) (x : X) → find p xs ≡ Some x → IsHit p xs x
hit p [] x e = cc
hit {X} p (y ∷ xs) x e = by (hit p xs x) (p y) refl e
  where
    onward : IsHit p xs x → IsHit p (y ∷ xs) x
    onward h = record { is_in = inr h.is_in; passes = h.passes }

    by : (find p xs ≡ Some x → IsHit p xs x) → (b : Bool) → p y ≡ b → cond b (Some y) (find p xs) ≡ Some x → IsHit p (y ∷ xs) x
    by more true f g = let same : y ≡ x = cc in record { is_in = inl same; passes = subst (λ z. p z ≡ true) same f }
    by more false f g = onward (more g)

-- where one alone passes, it is found
pub hits : {X : Type 0} (p : X → Bool) (xs : List X) (x : X) → ((a b : X) → IsIn a xs → IsIn b xs → p a ≡ true → p b ≡ true → a ≡ b) → IsIn x xs → p x ≡ true → find p xs ≡ Some x
hits {X} p xs x single i h = by (find p xs) refl
  where
    by : (found : Option X) → find p xs ≡ found → find p xs ≡ Some x
    by (Some y) e = let t = hit p xs y e in e ∙ ap Some (single y x t.is_in i t.passes h)
    by None e = absurd (none_hit xs i e)
      where
        none_hit : (ys : List X) → IsIn x ys → find p ys ≡ None → ⊥
        none_hit [] j f = j
        none_hit (y ∷ ys) j f = each (none_hit ys) (p y) refl j f
          where
            each : (IsIn x ys → find p ys ≡ None → ⊥) → (b : Bool) → p y ≡ b → (y ≡ x) ⊎ IsIn x ys → cond b (Some y) (find p ys) ≡ None → ⊥
            each more true g k f = cc
            each more false g (inl s) f = both_ways (p x) (ap p (sym s) ∙ g) h
            each more false g (inr k) f = more k f

-- ---- parents

some_id : (o : Option ℕ) (other : ℕ) → is_id o other ≡ true → o ≡ Some other
some_id None other h = absurd (false≢true h)
some_id (Some id) other h = ap Some (eqb-true id other h)

pub child_names : (row other : Row) → is_child REFERENCES row other ≡ true → parent_id REFERENCES row ≡ Some other.key.id
unfolding is_child
child_names row other h = some_id _ _ (and_parts _ _ h).1

pub child_entity : (row other : Row) → is_child REFERENCES row other ≡ true → entity_number row.key.entity ≡ entity_number other.key.entity
unfolding is_child
child_entity row other h = eqb-true _ _ (and_parts _ _ h).0

pub child_from : (row other : Row) → entity_number row.key.entity ≡ entity_number other.key.entity → parent_id REFERENCES row ≡ Some other.key.id → is_child REFERENCES row other ≡ true
unfolding is_child
child_from row other e n = and_from _ _ (eq-eqb _ _ e) (rw n (eq-eqb _ _ refl))

module _ (rows : List Row) where
  -- the row that is found as the parent is one of the rows, and the parent
  pub parent_hit : (row up : Row) → parent_row REFERENCES rows row ≡ Some up → IsHit (is_child REFERENCES row) rows up
  parent_hit row up e = by (parent_id REFERENCES row) refl e
    where
      found : (id : ℕ) → parent_id REFERENCES row ≡ Some id → IsHit (is_one row.key.entity id) rows up → IsHit (is_child REFERENCES row) rows up
      found id f h =
          let both = and_parts (is_entity row.key.entity up.key.entity) (nat_eq id up.key.id) h.passes in
          record { is_in = h.is_in; passes = child_from row up (eqb-true _ _ both.0) (f ∙ ap Some (eqb-true _ _ both.1)) }

      by : (o : Option ℕ) → parent_id REFERENCES row ≡ o → option_and_then (λ id. find (is_one row.key.entity id) rows) o ≡ Some up → IsHit (is_child REFERENCES row) rows up
      by None f g = cc
      by (Some id) f g = found id f (hit (is_one row.key.entity id) rows up g)

  module _ (formed : AreFormed rows) (up : IsInPlaceOrder rows) where
    -- the parent among the rows is the row that is found
    pub child_up : (row other : Row) → IsIn other rows → is_child REFERENCES row other ≡ true → parent_row REFERENCES rows row ≡ Some other
    child_up row other i h =
        let n = child_names row other h in
        let one = parent_one_part row other.key.id n in
        let found : find (is_one row.key.entity other.key.id) rows ≡ Some other = hits (is_one row.key.entity other.key.id) rows other (one_single rows formed row.key.entity one other.key.id up) i (and_from _ _ (eq-eqb _ _ (child_entity row other h)) (eq-eqb _ _ refl)) in
        ap (option_and_then (λ id. find (is_one row.key.entity id) rows)) n ∙ found
