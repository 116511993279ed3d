-- The live rows of an entity above a place stand together, right behind the place.
use Rattle.std.proofs.Common.{◌≡◌, ℕ, zero, suc, ◌<◌, ◌≤◌, Bool, true, false, ◌&&◌, List, [], ◌∷◌, ◌++◌, length, take, filter, refl, sym, ap, ◌∙◌, arith, nat_eq, cond}
use Rattle.std.specs.declared.cmp.Ordering.{Ordering}
use Rattle.std.specs.declared.cmp.Ordering.TheVariants.{Less, Equal, Greater}
use Rattle.std.specs.Cmp.{ranks}
use Rattle.std.specs.List.{AllByRecursion, take_while}
use Rattle.std.specs.Ordering.{MatchOrdering, nat_cmp, ordering_then, ordering_reverse, is_lt, is_gt}
use Rattle.std.proofs.lemmas.Bool.{eqb-true, eq-eqb}
use Rattle.std.proofs.lemmas.List.{append-nil, append_assoc, length-append, take-append-le}
use Rattle.std.proofs.lemmas.List.Sums.{take_while-cons}
use Rattle.shop_defs.specs.declared.entity.Entity.{Entity}
use Rattle.shop_defs.specs.declared.key.Key.{Key}
use Rattle.shop_defs.specs.declared.row.Row.{Row}
use Rattle.shop_defs.specs.Entities.{entity_number}
use Rattle.shop_defs.specs.Keys.{key_cmp}
use Rattle.shop_defs.specs.Rows.{IsInKeyOrder}
use Rattle.shop_defs.proofs.Keys.{key_cmp_total}
use Rattle.shop_operations.specs.References.{is_entity, is_live}
use Rattle.shop_rows.specs.Searches.{from_key}
use Rattle.shop_core.specs.Requests.{is_listed, most_listed}
use Rattle.shop_core.specs.Seeing.{is_of}

-- ---- the order of keys

at_most : (m n : ℕ) (rest : Ordering) → ordering_then (nat_cmp m n) rest ≡ Less → m ≤ n
at_most m n rest = by (nat_cmp m n) (ranks m n)
  where
    by : (o : Ordering) → MatchOrdering o (m < n) (m ≡ n) (n < m) → ordering_then o rest ≡ Less → m ≤ n
    by Less h e = omega arith
    by Equal h e = omega arith
    by Greater h e = absurd (cc)

then_rest : (m n : ℕ) (rest : Ordering) → m ≡ n → ordering_then (nat_cmp m n) rest ≡ rest
then_rest m n rest same = by (nat_cmp m n) (ranks m n)
  where
    by : (o : Ordering) → MatchOrdering o (m < n) (m ≡ n) (n < m) → ordering_then o rest ≡ rest
    by Less h = absurd (omega arith)
    by Equal h = refl
    by Greater h = absurd (omega arith)

-- the place that is asked for
abbrev pub place_of : Entity → ℕ → ℕ → Key
place_of entity id second = record { entity = entity; version = 0; id = id; second = second }

both : (a b : Bool) → a ≡ true → b ≡ true → (a && b) ≡ true
both a b e f = rw (e, f) refl

left : (a b : Bool) → (a && b) ≡ true → a ≡ true
left true b e = refl
left false b e = absurd (cc)

right : (a b : Bool) → (a && b) ≡ true → b ≡ true
right true b e = e
right false b e = absurd (cc)

-- between the place and a live row of the entity stand live rows of the entity alone
between : (entity : Entity) (id second : ℕ) (a b : Row) → key_cmp (place_of entity id second) a.key ≡ Less → key_cmp a.key b.key ≡ Less → is_of entity b ≡ true → is_of entity a ≡ true
between entity id second a b above below of_b =
    let e0 : ℕ = entity_number entity in
    let e1 : ℕ = entity_number a.key.entity in
    let e2 : ℕ = entity_number b.key.entity in
    let lower : e0 ≤ e1 = at_most e0 e1 _ above in
    let upper : e1 ≤ e2 = at_most e1 e2 _ below in
    let same : e2 ≡ e0 = eqb-true e2 e0 (left (nat_eq e2 e0) (nat_eq b.key.version 0) of_b) in
    let live : b.key.version ≡ 0 = eqb-true b.key.version 0 (right (nat_eq e2 e0) (nat_eq b.key.version 0) of_b) in
    let same_a : e1 ≡ e0 = omega arith in
    let same_b : e1 ≡ e2 = omega arith in
    let versions : a.key.version ≤ b.key.version = at_most a.key.version b.key.version _ (sym (then_rest e1 e2 _ same_b) ∙ below) in
    let live_a : a.key.version ≡ 0 = omega arith in
    both (nat_eq e1 e0) (nat_eq a.key.version 0) (eq-eqb e1 e0 same_a) (eq-eqb a.key.version 0 live_a)

lt_reversed : (o : Ordering) → is_lt (ordering_reverse o) ≡ is_gt o
lt_reversed Less = refl
lt_reversed Equal = refl
lt_reversed Greater = refl

less_reversed : (o : Ordering) → is_gt o ≡ true → ordering_reverse o ≡ Less
less_reversed Less e = absurd (cc)
less_reversed Equal e = absurd (cc)
less_reversed Greater e = refl

-- ---- the rows that are listed

module _ (entity : Entity) (id second : ℕ) where
  abbrev place : Key
  place = place_of entity id second

  -- the row is above the place
  abbrev above : Row → Bool
  above row = is_gt (from_key place row)

  flip : (a b : ℕ) → nat_eq a b ≡ nat_eq b a
  flip a b = by (nat_eq a b) (nat_eq b a) (λ e. eq-eqb _ _ (sym (eqb-true _ _ e))) (λ e. eq-eqb _ _ (sym (eqb-true _ _ e)))
    where
      by : (s t : Bool) → (s ≡ true → t ≡ true) → (t ≡ true → s ≡ true) → s ≡ t
      by true t there back = sym (there refl)
      by false true there back = back refl
      by false false there back = refl

  turn : (a b c : Bool) → (c && (a && b)) ≡ ((a && b) && c)
  turn true true true = refl
  turn true true false = refl
  turn true false true = refl
  turn true false false = refl
  turn false b true = refl
  turn false b false = refl

  -- a row is listed where it is above the place, and a live one of the entity
  listed_is : (row : Row) → (above row && is_of entity row) ≡ is_listed entity id second row
  listed_is row =
      ap (λ (same : Bool). above row && (same && nat_eq row.key.version 0)) (flip (entity_number row.key.entity) (entity_number entity))
      ∙ (turn (is_entity entity row.key.entity) (is_live row) (above row)
      ∙ ap (λ (is_above : Bool). (is_entity entity row.key.entity && is_live row) && is_above) (sym (lt_reversed (key_cmp row.key place)) ∙ ap is_lt (sym (key_cmp_total.antisymm place row.key))))

  -- above a row that is above the place and no live one of the entity, none is listed
  none_listed : (x : Row) → above x ≡ true → is_of entity x ≡ false → (ys : List Row) → AllByRecursion (λ y. key_cmp x.key y.key ≡ Less) ys → filter (is_listed entity id second) ys ≡ []
  none_listed x is_above other [] less = refl
  none_listed x is_above other (y ∷ ys) less = by (none_listed x is_above other ys less.1) (is_listed entity id second y) refl
    where
      by : filter (is_listed entity id second) ys ≡ [] → (b : Bool) → is_listed entity id second y ≡ b → filter (is_listed entity id second) (y ∷ ys) ≡ []
      by none true e =
          let of_y : is_of entity y ≡ true = right (above y) (is_of entity y) (listed_is y ∙ e) in
          let of_x : is_of entity x ≡ true = between entity id second x y (key_cmp_total.antisymm place x.key ∙ less_reversed (key_cmp x.key place) is_above) less.0 of_y in
          absurd (cc)
      by none false e = rw e none

  -- of the rows above the place those are listed that come before the first that is no live one of the entity
  pub listed_first : (rows : List Row) → IsInKeyOrder rows → take_while (is_of entity) (filter above rows) ≡ filter (is_listed entity id second) rows
  listed_first [] order = refl
  listed_first (x ∷ rows) order = by (listed_first rows order.1) (above x) (is_of entity x) refl refl
    where
      by : take_while (is_of entity) (filter above rows) ≡ filter (is_listed entity id second) rows → (a b : Bool) → above x ≡ a → is_of entity x ≡ b → take_while (is_of entity) (filter above (x ∷ rows)) ≡ filter (is_listed entity id second) (x ∷ rows)
      by more false b e f =
          let not_listed : is_listed entity id second x ≡ false = sym (listed_is x) ∙ ap (λ (a : Bool). a && is_of entity x) e in
          rw (e, not_listed) more
      by more true true e f =
          let is_in : is_listed entity id second x ≡ true = sym (listed_is x) ∙ (ap (λ (a : Bool). a && is_of entity x) e ∙ f) in
          rw (e, is_in) (take_while-cons (is_of entity) x (filter above rows) ∙ (ap (λ (b : Bool). cond b (x ∷ take_while (is_of entity) (filter above rows)) []) f ∙ ap (λ (ys : List Row). x ∷ ys) more))
      by more true false e f =
          let not_listed : is_listed entity id second x ≡ false = sym (listed_is x) ∙ (ap (λ (a : Bool). a && is_of entity x) e ∙ f) in
          rw (e, not_listed) (take_while-cons (is_of entity) x (filter above rows) ∙ (ap (λ (b : Bool). cond b (x ∷ take_while (is_of entity) (filter above rows)) []) f ∙ sym (none_listed x e f rows order.0)))

-- ---- the first so many, one after the other

taken_all : {X : Type 0} (n : ℕ) (xs : List X) → length xs ≤ n → take n xs ≡ xs
taken_all zero [] few = refl
taken_all zero (x ∷ xs) few = absurd (omega arith)
taken_all (suc n) [] few = refl
taken_all (suc n) (x ∷ xs) few = ap (λ (ys : List _). x ∷ ys) (taken_all n xs (omega arith))

-- of all rows these are listed so far, and the rest is still to be looked at
pub record AreListed (p : Row → Bool) (all listed rest : List Row) : Type 0 where
  pub few : length listed ≤ most_listed
  pub split : take most_listed (listed ++ take_while p rest) ≡ take most_listed (take_while p all)

module _ (p : Row → Bool) (all listed : List Row) where
  abbrev AreAll : Type 0
  AreAll = listed ≡ take most_listed (take_while p all)

  pub are_all_full : (rest : List Row) → AreListed p all listed rest → most_listed ≤ length listed → AreAll
  are_all_full rest so_far full =
      sym (taken_all most_listed listed so_far.few) ∙ (sym (take-append-le most_listed listed (take_while p rest) full) ∙ so_far.split)

  -- nothing passes any more
  are_all : (rest : List Row) → AreListed p all listed rest → take_while p rest ≡ [] → AreAll
  are_all rest so_far none =
      sym (taken_all most_listed listed so_far.few)
      ∙ (ap (take most_listed) (sym (append-nil listed) ∙ ap (λ (ys : List Row). listed ++ ys) (sym none)) ∙ so_far.split)

  pub are_all_ended : AreListed p all listed [] → AreAll
  are_all_ended so_far = are_all [] so_far refl

  pub are_all_before : (x : Row) (rest : List Row) → AreListed p all listed (x ∷ rest) → p x ≡ false → AreAll
  are_all_before x rest so_far other =
      are_all (x ∷ rest) so_far (take_while-cons p x rest ∙ ap (λ (b : Bool). cond b (x ∷ take_while p rest) []) other)

  pub one_more : (x : Row) (rest : List Row) → AreListed p all listed (x ∷ rest) → p x ≡ true → length listed < most_listed → AreListed p all (listed ++ x ∷ []) rest
  one_more x rest so_far passes room = record {
    few = omega (arith, length-append listed (x ∷ []));
    split =
        ap (take most_listed) (append_assoc listed (x ∷ []) (take_while p rest)
        ∙ ap (λ (ys : List Row). listed ++ ys) (sym (take_while-cons p x rest ∙ ap (λ (b : Bool). cond b (x ∷ take_while p rest) []) passes)))
        ∙ so_far.split;
  }
