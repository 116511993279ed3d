-- Changes of rows that are put one after the other.
use Rattle.std.proofs.Common.{◌≡◌, ℕ, ◌+◌, ◌<◌, Bool, true, false, ◌&&◌, ◌⊎◌, inl, inr, List, [], ◌∷◌, ◌++◌, length, get_or, take, Option, Some, None, refl, sym, ap, subst, ◌∙◌}
use Rattle.std.specs.Prelude.{◌==◌, not, filter, map}
use Rattle.std.specs.List.{list_any}
use Rattle.std.specs.declared.cmp.Ordering.{Ordering}
use Rattle.std.specs.declared.cmp.Ordering.TheVariants.{Less, Equal, Greater}
use Rattle.std.specs.Cmp.{both_tied, unsigned_ties}
use Rattle.std.specs.Ordering.{is_eq}
use Rattle.std.proofs.lemmas.Bool.{and_parts, or_parts, eqb-true}
use Rattle.std.proofs.lemmas.List.{take_more}
use Rattle.keyed.specs.Keyed.{put}
use Rattle.closure.specs.Closure.{IsIn}
use Rattle.closure.proofs.Members.{in_map}
use Rattle.shop_defs.specs.declared.key.Key.{Key}
use Rattle.shop_defs.specs.declared.row.Row.{Row}
use Rattle.shop_defs.specs.declared.table.Reference.{Reference}
use Rattle.shop_defs.specs.Entities.{entity_number}
use Rattle.shop_defs.specs.Joined.{Change, change_key}
use Rattle.shop_defs.specs.Keys.{key_cmp}
use Rattle.shop_operations.specs.Deletes.{stands_at}
use Rattle.shop_operations.specs.Views.{IsInPlaceOrder}
use Rattle.shop_write.specs.declared.place.Place.{Place}
use Rattle.shop_write.specs.Places.{is_at, stands_among}
use Rattle.shop_write.specs.Deleting.{empties, loses, without_lost, rest_of, change_to, PutsChange, changed, same, AreChangesOf, IsCovered, IsPut}
use Rattle.shop_write.proofs.Standing.{place_same, apart}
use Rattle.shop_write.proofs.Among.{push_cases}

module _ {K X : Type 0} (cmp : K → K → Ordering) (key : X → K) where
  -- what is in a list after a put is what was put, or was there
  in_put : (xs : List X) (y x : X) → IsIn x (put cmp key xs y) → (y ≡ x) ⊎ IsIn x xs
  in_put [] y x (inl e) = inl e
  in_put [] y x (inr i) = absurd i
  in_put (z ∷ zs) y x i = by (in_put zs y x) (cmp (key z) (key y)) refl i
    where
      ahead : (y ≡ x) ⊎ IsIn x zs → (y ≡ x) ⊎ IsIn x (z ∷ zs)
      ahead (inl e) = inl e
      ahead (inr j) = inr (inr j)

      less : (IsIn x (put cmp key zs y) → (y ≡ x) ⊎ IsIn x zs) → (z ≡ x) ⊎ IsIn x (put cmp key zs y) → (y ≡ x) ⊎ IsIn x (z ∷ zs)
      less more (inl f) = inr (inl f)
      less more (inr k) = ahead (more k)

      first : (y ≡ x) ⊎ ((z ≡ x) ⊎ IsIn x zs) → (y ≡ x) ⊎ IsIn x (z ∷ zs)
      first (inl f) = inl f
      first (inr k) = inr k

      by : (IsIn x (put cmp key zs y) → (y ≡ x) ⊎ IsIn x zs) → (o : Ordering) → cmp (key z) (key y) ≡ o → IsIn x (put cmp key (z ∷ zs) y) → (y ≡ x) ⊎ IsIn x (z ∷ zs)
      by more Less e j = less more (rw e at j)
      by more Equal e j = ahead (rw e at j)
      by more Greater e j = first (rw e at j)

  -- what was put is there
  new_in_put : (xs : List X) (y : X) → IsIn y (put cmp key xs y)
  new_in_put [] y = inl refl
  new_in_put (z ∷ zs) y = by (new_in_put zs y) (cmp (key z) (key y)) refl
    where
      by : IsIn y (put cmp key zs y) → (o : Ordering) → cmp (key z) (key y) ≡ o → IsIn y (put cmp key (z ∷ zs) y)
      by more Less e = rw e (inr more)
      by more Equal e = rw e (inl refl)
      by more Greater e = rw e (inl refl)

  -- what was there still is, unless it has the key of what was put and differs
  old_in_put : (xs : List X) (y x : X) → IsIn x xs → (cmp (key x) (key y) ≡ Equal → y ≡ x) → IsIn x (put cmp key xs y)
  old_in_put [] y x i h = absurd i
  old_in_put (z ∷ zs) y x i h = by (λ j. old_in_put zs y x j h) (cmp (key z) (key y)) refl i
    where
      less : (IsIn x zs → IsIn x (put cmp key zs y)) → (z ≡ x) ⊎ IsIn x zs → (z ≡ x) ⊎ IsIn x (put cmp key zs y)
      less more (inl f) = inl f
      less more (inr k) = inr (more k)

      equal : cmp (key z) (key y) ≡ Equal → (z ≡ x) ⊎ IsIn x zs → (y ≡ x) ⊎ IsIn x zs
      equal e (inl f) = inl (h (subst (λ (w : X). cmp (key w) (key y) ≡ Equal) f e))
      equal e (inr k) = inr k

      by : (IsIn x zs → IsIn x (put cmp key zs y)) → (o : Ordering) → cmp (key z) (key y) ≡ o → (z ≡ x) ⊎ IsIn x zs → IsIn x (put cmp key (z ∷ zs) y)
      by more Less e j = rw e (less more j)
      by more Equal e j = rw e (equal e j)
      by more Greater e j = rw e (inr j)

-- keys that tie are of one place
key_tied : (a b : Key) → is_eq (key_cmp a b) ≡ ((entity_number a.entity == entity_number b.entity) && ((a.version == b.version) && ((a.id == b.id) && (a.second == b.second))))
key_tied a b =
    sym (both_tied _ _ _ _ (unsigned_ties (entity_number a.entity) (entity_number b.entity))
    (both_tied _ _ _ _ (unsigned_ties a.version b.version)
    (both_tied _ _ _ _ (unsigned_ties a.id b.id) (unsigned_ties a.second b.second))))

pub stands_tied : (a b : Row) → key_cmp a.key b.key ≡ Equal → stands_at a.key b ≡ true
stands_tied a b e =
    let one = and_parts (entity_number a.key.entity == entity_number b.key.entity) ((a.key.version == b.key.version) && ((a.key.id == b.key.id) && (a.key.second == b.key.second))) (sym (key_tied a.key b.key) ∙ ap is_eq e) in
    let two = and_parts (a.key.version == b.key.version) ((a.key.id == b.key.id) && (a.key.second == b.key.second)) one.1 in
    let three = and_parts (a.key.id == b.key.id) (a.key.second == b.key.second) two.1 in
    place_same a.key b (record { entity = eqb-true _ _ one.0; id = eqb-true _ _ three.0; second = eqb-true _ _ three.1 })

-- ---- what is left of a row

pub rest_gone : (table : List Reference) (lost : List Place) (row : Row) → stands_among lost row ≡ true → rest_of table lost row ≡ None
rest_gone table lost row h = rw h refl

pub rest_left : (table : List Reference) (lost : List Place) (row : Row) → stands_among lost row ≡ false → rest_of table lost row ≡ Some (without_lost table lost row)
rest_left table lost row h = rw h refl

filter_none : {X : Type 0} (p : X → Bool) (xs : List X) → list_any p xs ≡ false → filter (λ x. not (p x)) xs ≡ xs
filter_none p [] h = refl
filter_none p (x ∷ xs) h = let parts = or_parts (p x) (list_any p xs) h in rw parts.0 (ap (λ ys. x ∷ ys) (filter_none p xs parts.1))

pub without_none : (table : List Reference) (lost : List Place) (row : Row) → loses table lost row ≡ false → without_lost table lost row ≡ row
without_none table lost row h = ap (λ fields. record row { fields = fields }) (filter_none (λ entry. empties table lost row entry.0) row.fields h)

pub rest_same : (table : List Reference) (lost : List Place) (row : Row) → stands_among lost row ≡ false → loses table lost row ≡ false → rest_of table lost row ≡ Some row
rest_same table lost row h l = rest_left table lost row h ∙ ap Some (without_none table lost row l)

-- ---- changes that are put

pub put_itself : (rest : Row → Option Row) (rows : List Row) (changes : List Change) → IsPut rest rows changes changes
put_itself rest rows changes = record { of_rows = λ of. of; keeps = λ row i c. c }

pub put_on : (rest : Row → Option Row) (rows : List Row) (a b c : List Change) → IsPut rest rows a b → IsPut rest rows b c → IsPut rest rows a c
put_on rest rows a b c p q = record { of_rows = λ of. q.of_rows (p.of_rows of); keeps = λ row i h. q.keeps row i (p.keeps row i h) }

pub put_one : (rest : Row → Option Row) (rows : List Row) (row : Row) (before after : List Change) → IsInPlaceOrder rows → IsIn row rows → PutsChange rest row before after → IsPut rest rows before after
put_one rest rows row before after up i (changed e) = record {
  of_rows = λ of change j. by of change (in_put key_cmp change_key before (change_to rest row) change (subst (IsIn change) e j));
  keeps = λ other j c. still other j c;
}
  where
    by : AreChangesOf rest rows before → (change : Change) → (change_to rest row ≡ change) ⊎ IsIn change before → IsIn change (map (change_to rest) rows)
    by of change (inl f) = subst (λ (x : Change). IsIn x (map (change_to rest) rows)) f (in_map (change_to rest) rows row i)
    by of change (inr j) = of change j

    still : (other : Row) → IsIn other rows → IsCovered rest before other → IsCovered rest after other
    still other j (inl s) = inl s
    still other j (inr k) = inr (subst (IsIn (change_to rest other)) (sym e) (old_in_put key_cmp change_key before (change_to rest row) (change_to rest other) k (λ t. ap (change_to rest) (sym (apart rows other row up j i (stands_tied other row t))))))
put_one rest rows row before after up i (same s e) = record {
  of_rows = λ of. subst (AreChangesOf rest rows) (sym e) of;
  keeps = λ other j c. subst (λ (changes : List Change). IsCovered rest changes other) (sym e) c;
}

pub covers_one : (rest : Row → Option Row) (row : Row) (before after : List Change) → PutsChange rest row before after → IsCovered rest after row
covers_one rest row before after (changed e) = inr (subst (IsIn (change_to rest row)) (sym e) (new_in_put key_cmp change_key before (change_to rest row)))
covers_one rest row before after (same s e) = inl s

-- the row at one more of the places is covered
pub covered_more : (rest : Row → Option Row) (rows : List Row) (places : List Place) (before after : List Change) (n : ℕ) (place : Place) → n < length places → get_or places n place ≡ place → IsPut rest rows before after → ((row : Row) → IsIn row rows → stands_among (take n places) row ≡ true → IsCovered rest before row) → ((row : Row) → IsIn row rows → is_at row place ≡ true → IsCovered rest after row) → (row : Row) → IsIn row rows → stands_among (take (n + 1) places) row ≡ true → IsCovered rest after row
covered_more rest rows places before after n place l e p earlier now row i h = by (push_cases (take n places) place row (subst (λ (ps : List Place). stands_among ps row ≡ true) (take_more places n place l ∙ ap (λ (x : Place). take n places ++ x ∷ []) e) h))
  where
    by : (stands_among (take n places) row ≡ true) ⊎ (is_at row place ≡ true) → IsCovered rest after row
    by (inl k) = p.keeps row i (earlier row i k)
    by (inr k) = now row i k
