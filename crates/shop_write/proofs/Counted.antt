-- How many rows there are with a row that is written at its place.
use Rattle.std.proofs.Common.{◌≡◌, ℕ, ◌+◌, Bool, true, false, ◌&&◌, List, [], ◌∷◌, refl, sym, ap, subst, ◌∙◌, Option, Some, None, Bor, arith}
use Rattle.std.specs.List.{find as seek}
use Rattle.std.specs.Prelude.{cond, count_by, nat_lt, not, is_some, is_none, if◌then◌else◌}
use Rattle.std.specs.Option.{option_map_or, option_copied}
use Rattle.std.specs.declared.cmp.Ordering.{Ordering}
use Rattle.std.specs.declared.cmp.Ordering.TheVariants.{Less, Equal, Greater}
use Rattle.std.specs.Cmp.{IsTotalOrder}
use Rattle.std.specs.Ordering.{match_ordering, is_eq, ordering_reverse}
use Rattle.std.specs.List.{AllByRecursion}
use Rattle.std.proofs.lemmas.Bool.{and_from, and_right, eq-eqb, le-ltb}
use Rattle.std.proofs.lemmas.List.Sums.{sum_by-cons}
use Rattle.keyed.specs.Keyed.{Ascends, find, put}
use Rattle.shop_defs.specs.declared.entity.Entity.{Entity}
use Rattle.shop_defs.specs.declared.row.Row.{Row}
use Rattle.shop_defs.specs.declared.table.OwnerLimit.{OwnerLimit}
use Rattle.shop_defs.specs.Rows.{row_key}
use Rattle.shop_operations.specs.Deletes.{stands_at}
use Rattle.shop_operations.specs.References.{is_entity, part_of}
use Rattle.shop_operations.specs.Upserts.{place_cmp, with_row, row_in, count_of, is_of_owner, owner_is_full, same_id}
use Rattle.shop_operations.specs.Views.{IsInPlaceOrder}
use Rattle.shop_rows.specs.Owners.{belongs, count_owned}
use Rattle.shop_write.proofs.WrittenRows.{place_cmp_total, row_in_is, same_place}

-- 1 where an element is there and passes
abbrev pub weight : {X : Type 0} → (X → Bool) → Option X → ℕ
weight p None = 0
weight p (Some x) = cond (p x) 1 0

module _ {K X : Type 0} (cmp : K → K → Ordering) (key : X → K) (order : IsTotalOrder cmp) (p : X → Bool) where
  count_cons : (x : X) (xs : List X) → count_by p (x ∷ xs) ≡ cond (p x) 1 0 + count_by p xs
  count_cons x xs = sum_by-cons (λ y. cond (p y) 1 0) x xs

  -- a key that is below all is not among them
  none_above : (xs : List X) (q : K) → AllByRecursion (λ z. cmp q (key z) ≡ Less) xs → find cmp key xs q ≡ None
  none_above [] q above = refl
  none_above (x ∷ xs) q above = rw (order.antisymm (key x) q, above.0) (none_above xs q above.1)

  below_all : (x : X) (xs : List X) (q : K) → cmp q (key x) ≡ Less → AllByRecursion (λ z. cmp (key x) (key z) ≡ Less) xs → AllByRecursion (λ z. cmp q (key z) ≡ Less) xs
  below_all x [] q l all = tt
  below_all x (z ∷ xs) q l all = (order.trans q (key x) (key z) l all.0, below_all x xs q l all.1)

  pub count_put : (xs : List X) (y : X) → Ascends cmp key xs → count_by p (put cmp key xs y) + weight p (find cmp key xs (key y)) ≡ count_by p xs + weight p (Some y)
  count_put [] y up = omega arith
  count_put (x ∷ xs) y up = by (count_put xs y up.1) (cmp (key x) (key y)) refl
    where
      by : count_by p (put cmp key xs y) + weight p (find cmp key xs (key y)) ≡ count_by p xs + weight p (Some y) → (o : Ordering) → cmp (key x) (key y) ≡ o → count_by p (match_ordering o (x ∷ put cmp key xs y) (y ∷ xs) (y ∷ x ∷ xs)) + weight p (if is_eq o then Some x else find cmp key xs (key y)) ≡ count_by p (x ∷ xs) + weight p (Some y)
      by more Less e = rw (count_cons x (put cmp key xs y), count_cons x xs) (omega (arith, more))
      by more Equal e = rw (count_cons y xs, count_cons x xs) (omega arith)
      by more Greater e =
          let l : cmp (key y) (key x) ≡ Less = order.antisymm (key y) (key x) ∙ ap ordering_reverse e in
          rw (none_above xs (key y) (below_all x xs (key y) l up.0), count_cons y (x ∷ xs), count_cons x xs) (omega arith)

found_passes : {X : Type 0} (p : X → Bool) (xs : List X) (x : X) → seek p xs ≡ Some x → p x ≡ true
found_passes p [] x e = cc
found_passes {X} p (y ∷ xs) x e = by (found_passes p xs x) (p y) refl e
  where
    by : (seek p xs ≡ Some x → p x ≡ true) → (b : Bool) → p y ≡ b → cond b (Some y) (seek p xs) ≡ Some x → p x ≡ true
    by more true f g = let same : y ≡ x = cc in subst (λ z. p z ≡ true) same f
    by more false f g = more g

-- one more than before, where what was replaced didn't count
settled : {X : Type 0} (p : X → Bool) (x : X) (before : Option X) (new old : ℕ) → p x ≡ true → new + weight p before ≡ old + weight p (Some x) → new ≡ old + (if option_map_or p before false then 0 else 1)
settled p x None new old h e = omega (arith, ap {B = ℕ} (λ b. cond b 1 0) h)
settled p x (Some y) new old h e = by (p y) e
  where
    by : (b : Bool) → new + cond b 1 0 ≡ old + cond (p x) 1 0 → new ≡ old + (if b then 0 else 1)
    by true f = omega (arith, f, ap {B = ℕ} (λ b. cond b 1 0) h)
    by false f = omega (arith, f, ap {B = ℕ} (λ b. cond b 1 0) h)

module _ (rows : List Row) (row : Row) (up : IsInPlaceOrder rows) where
  counted : (p : Row → Bool) → p row ≡ true → count_by p (with_row rows row) ≡ count_by p rows + (if option_map_or p (row_in rows row.key) false then 0 else 1)
  counted p h = settled p row (row_in rows row.key) _ _ h (rw (row_in_is rows row.key) (count_put place_cmp row_key place_cmp_total p rows row up))

  -- one more of its entity where none stood at its place
  pub count_with : (hidden : Entity → ℕ) → count_of hidden (with_row rows row) row.key.entity ≡ count_of hidden rows row.key.entity + (if is_none (row_in rows row.key) then 1 else 0)
  count_with hidden = by (row_in rows row.key) refl (counted (λ (r : Row). is_entity row.key.entity r.key.entity) (eq-eqb _ _ refl))
    where
      by : (before : Option Row) → row_in rows row.key ≡ before → count_by (λ (r : Row). is_entity row.key.entity r.key.entity) (with_row rows row) ≡ count_by (λ (r : Row). is_entity row.key.entity r.key.entity) rows + (if option_map_or (λ (r : Row). is_entity row.key.entity r.key.entity) before false then 0 else 1) → count_of hidden (with_row rows row) row.key.entity ≡ count_of hidden rows row.key.entity + (if is_none before then 1 else 0)
      by None e h = omega (arith, h)
      by (Some old) e h =
          let same : is_entity row.key.entity old.key.entity ≡ true = eq-eqb _ _ (same_place row.key old (found_passes (stands_at row.key) rows old e)).entity in
          omega (arith, h, ap {B = ℕ} (λ b. if b then 0 else 1) same)

  -- one more of its owner where none of them stood at its place
  pub owned_with : (limit : OwnerLimit) (owner : ℕ) → is_entity limit.entity row.key.entity ≡ true → part_of limit.owner row ≡ Some owner → owner_is_full (with_row rows row) row limit ≡ nat_lt limit.most (count_owned limit rows owner + (if option_map_or (belongs limit owner) (row_in rows row.key) false then 0 else 1))
  owned_with limit owner e f =
      let own : belongs limit owner row ≡ true = and_from _ _ e (rw f (eq-eqb owner owner refl)) in
      let same : count_by (is_of_owner limit row) (with_row rows row) ≡ count_by (belongs limit owner) (with_row rows row) = ap (λ (o : Option ℕ). count_by (λ other. is_entity limit.entity other.key.entity && same_id o (part_of limit.owner other)) (with_row rows row)) f in
      rw (e, same, counted (belongs limit owner) own) refl

-- a row that names no owner
pub ownerless : (rows : List Row) (row : Row) → (limit : OwnerLimit) → part_of limit.owner row ≡ None → owner_is_full (with_row rows row) row limit ≡ false
ownerless rows row limit f = and_right (is_entity limit.entity row.key.entity) (nat_lt limit.most (count_by (is_of_owner limit row) (with_row rows row))) (ap (nat_lt limit.most) none ∙ le-ltb limit.most 0 (omega arith))
  where
    no_one : (xs : List Row) → count_by (λ other. is_entity limit.entity other.key.entity && false) xs ≡ 0
    no_one [] = refl
    no_one (x ∷ xs) = count_cons place_cmp row_key place_cmp_total (λ other. is_entity limit.entity other.key.entity && false) x xs ∙ (ap (λ b. cond b 1 0 + count_by (λ other. is_entity limit.entity other.key.entity && false) xs) (and_right (is_entity limit.entity x.key.entity) false refl) ∙ (omega (arith, no_one xs)))

    none : count_by (is_of_owner limit row) (with_row rows row) ≡ 0
    none = ap (λ (o : Option ℕ). count_by (λ other. is_entity limit.entity other.key.entity && same_id o (part_of limit.owner other)) (with_row rows row)) f ∙ no_one (with_row rows row)

pub is_some_copied : (found : Option (Bor Row)) → is_some found ≡ is_some (option_copied found)
is_some_copied None = refl
is_some_copied (Some row) = refl

module _ (rows : List Row) (row : Row) (up : IsInPlaceOrder rows) where
  pub entity_above : (hidden : Entity → ℕ) (most count : ℕ) (found : Option (Bor Row)) (new : Bool) → count ≡ count_of hidden rows row.key.entity → option_copied found ≡ row_in rows row.key → is_some found ≡ not new → nat_lt most (count + (if new then 1 else 0)) ≡ nat_lt most (count_of hidden (with_row rows row) row.key.entity)
  entity_above hidden most count found new c r n = rw (count_with rows row up hidden, ← r, ← is_some_copied found, n, ← c) (by new)
    where
      by : (b : Bool) → nat_lt most (count + (if b then 1 else 0)) ≡ nat_lt most (count + (if not (not b) then 1 else 0))
      by true = refl
      by false = refl

  pub owner_above : (limit : OwnerLimit) (owner count : ℕ) (found : Option (Bor Row)) (owned : Bool) → is_entity limit.entity row.key.entity ≡ true → Some owner ≡ part_of limit.owner row → count ≡ count_owned limit rows owner → option_copied found ≡ row_in rows row.key → owned ≡ option_map_or (belongs limit owner) (option_copied found) false → nat_lt limit.most (count + (if not owned then 1 else 0)) ≡ owner_is_full (with_row rows row) row limit
  owner_above limit owner count found owned e f c r o = rw (owned_with rows row up limit owner e (sym f), ← r, ← o, ← c) (by owned)
    where
      by : (b : Bool) → nat_lt limit.most (count + (if not b then 1 else 0)) ≡ nat_lt limit.most (count + (if b then 0 else 1))
      by true = refl
      by false = refl
