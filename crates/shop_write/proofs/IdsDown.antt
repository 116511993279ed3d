-- The ids of rows that are so many steps below a row, and the least of them.
use Rattle.std.proofs.Common.{◌≡◌, ℕ, zero, suc, ◌+◌, ◌-◌, ◌<◌, ◌≤◌, Bool, true, false, ◌&&◌, ◌||◌, ◌⊎◌, inl, inr, List, [], ◌∷◌, ◌++◌, refl, sym, ap, subst, ◌∙◌, Option, Some, None, arith}
use Rattle.std.specs.Prelude.{not, nat_eq, nat_lt, nat_le, ◌==◌, cond, find, filter, min}
use Rattle.std.specs.List.{flat_map, fold}
use Rattle.std.specs.Option.{option_map, option_map_or}
use Rattle.std.specs.declared.cmp.Ordering.TheVariants.{Less, Equal, Greater}
use Rattle.std.specs.Ordering.{is_lt}
use Rattle.std.proofs.lemmas.Bool.{false≢true, both_ways, and_from, and_parts, or_cases, not-true, eqb-true, eq-eqb, ne_eqb, leb-true, leb-false, le-ltb, cases_lt, cases_order}
use Rattle.shop_defs.specs.declared.key.Key.{Key}
use Rattle.shop_defs.specs.declared.row.Row.{Row}
use Rattle.shop_defs.specs.declared.table.TheConstants.{REFERENCES, LEVEL_LIMITS}
use Rattle.shop_defs.specs.Entities.{entity_number}
use Rattle.shop_defs.specs.Rows.{row_key}
use Rattle.shop_operations.specs.Deletes.{stands_at}
use Rattle.shop_operations.specs.Parents.{parent_id, is_below, is_past, is_deep, children}
use Rattle.shop_operations.specs.References.{is_entity, is_id}
use Rattle.shop_operations.specs.Upserts.{place_cmp, with_row, sinks, count_of}
use Rattle.shop_operations.specs.Views.{View, IsInPlaceOrder}
use Rattle.closure.specs.Closure.{IsIn}
use Rattle.closure.proofs.Members.{in_filter, of_filter, in_map, of_map, Image}
use Rattle.shop_write.specs.Writes.{IsWrite, limit_of}
use Rattle.shop_write.specs.Steps.{IsDown, IsBetween, HasId, AreIdsOf, other_children, next_ids, lesser_id, least_id}
use Rattle.shop_write.proofs.Heights.{old_row}
use Rattle.shop_write.proofs.LevelTable.{limit_one_part, deep_is, same_limit}
use Rattle.shop_write.proofs.OnePart.{single_with}
use Rattle.shop_write.proofs.ParentWalks.{hit, child_names, child_from}
use Rattle.shop_write.proofs.Ranks.{few_down, kin_few}
use Rattle.shop_write.proofs.StepsDown.{down_entity, below_down, down_other, sinks_from, sinks_to, Sinks, above}
use Rattle.shop_write.proofs.WrittenRows.{stands_itself, with_in_order, put_has, put_keeps, same_place, equal_place, all_in}

-- ---- lists

pub in_front : {X : Type 0} (x : X) (xs ys : List X) → IsIn x xs → IsIn x (xs ++ ys)
in_front x [] ys i = absurd i
in_front x (y ∷ xs) ys (inl e) = inl e
in_front x (y ∷ xs) ys (inr i) = inr (in_front x xs ys i)

pub in_back : {X : Type 0} (x : X) (xs ys : List X) → IsIn x ys → IsIn x (xs ++ ys)
in_back x [] ys i = i
in_back x (y ∷ xs) ys i = inr (in_back x xs ys i)

pub in_either : {X : Type 0} (x : X) (xs ys : List X) → IsIn x (xs ++ ys) → IsIn x xs ⊎ IsIn x ys
in_either x [] ys i = inr i
in_either x (y ∷ xs) ys (inl e) = inl (inl e)
in_either {X} x (y ∷ xs) ys (inr i) = by (in_either x xs ys i)
  where
    by : IsIn x xs ⊎ IsIn x ys → IsIn x (y ∷ xs) ⊎ IsIn x ys
    by (inl j) = inl (inr j)
    by (inr j) = inr j

in_flat : {X A : Type 0} (f : X → List A) (xs : List X) (x : X) (a : A) → IsIn x xs → IsIn a (f x) → IsIn a (flat_map f xs)
in_flat f [] x a i j = absurd i
in_flat f (y ∷ xs) x a (inl e) j = in_front a (f y) (flat_map f xs) (subst (λ z. IsIn a (f z)) (sym e) j)
in_flat f (y ∷ xs) x a (inr i) j = in_back a (f y) (flat_map f xs) (in_flat f xs x a i j)

record Source {X A : Type 0} (f : X → List A) (xs : List X) (a : A) : Type 0 where
  one : X
  is_in : IsIn one xs
  gives : IsIn a (f one)

of_flat : {X A : Type 0} (f : X → List A) (xs : List X) (a : A) → IsIn a (flat_map f xs) → Source f xs a
of_flat f [] a i = absurd i
of_flat {X} {A} f (y ∷ xs) a i = by (of_flat f xs a) (in_either a (f y) (flat_map f xs) i)
  where
    onward : Source f xs a → Source f (y ∷ xs) a
    onward s = record { one = s.one; is_in = inr s.is_in; gives = s.gives }

    by : (IsIn a (flat_map f xs) → Source f xs a) → IsIn a (f y) ⊎ IsIn a (flat_map f xs) → Source f (y ∷ xs) a
    by more (inl j) = record { one = y; is_in = inl refl; gives = j }
    by more (inr j) = onward (more j)

-- ---- the search for the rows that sink

-- the ids of the rows so many steps below, and of those that sink and are fewer steps below
pub record Gathers (rows : List Row) (row : Row) (first steps : ℕ) (ids low_ids : List ℕ) : Type 0 where
  pub level : AreIdsOf rows (IsDown rows row steps) ids
  pub sinking : AreIdsOf rows (IsBetween rows row first steps) low_ids

-- ---- the least of the ids

record Least (best : ℕ) (ids : List ℕ) : Type 0 where
  id : ℕ
  is_fold : fold lesser_id (Some best) ids ≡ Some id
  is_in : (best ≡ id) ⊎ IsIn id ids
  is_least : (other : ℕ) → (best ≡ other) ⊎ IsIn other ids → id ≤ other

least_more : (best id : ℕ) (ids : List ℕ) → Least (min best id) ids → Least best (id ∷ ids)
least_more best id ids rest = record { id = rest.id; is_fold = rest.is_fold; is_in = where_in rest.is_in; is_least = λ other i. below other i }
  where
    first : min best id ≤ best
    first = omega arith

    second : min best id ≤ id
    second = omega arith

    one_of : (best < id) ⊎ (id ≤ best) → (min best id ≡ best) ⊎ (min best id ≡ id)
    one_of (inl l) = inl (omega (arith, l))
    one_of (inr l) = inr (omega (arith, l))

    joined : min best id ≡ rest.id → (min best id ≡ best) ⊎ (min best id ≡ id) → (best ≡ rest.id) ⊎ IsIn rest.id (id ∷ ids)
    joined e (inl f) = inl (sym f ∙ e)
    joined e (inr f) = inr (inl (sym f ∙ e))

    where_in : (min best id ≡ rest.id) ⊎ IsIn rest.id ids → (best ≡ rest.id) ⊎ IsIn rest.id (id ∷ ids)
    where_in (inr i) = inr (inr i)
    where_in (inl e) = joined e (one_of (cases_lt best id))

    below : (other : ℕ) → (best ≡ other) ⊎ IsIn other (id ∷ ids) → rest.id ≤ other
    below other (inl e) = omega (arith, rest.is_least (min best id) (inl refl), first, e)
    below other (inr (inl e)) = omega (arith, rest.is_least (min best id) (inl refl), second, e)
    below other (inr (inr i)) = rest.is_least other (inr i)

least_of : (best : ℕ) (ids : List ℕ) → Least best ids
least_of best [] = record { id = best; is_fold = refl; is_in = inl refl; is_least = λ other i. one other i }
  where
    one : (other : ℕ) → (best ≡ other) ⊎ IsIn other [] → best ≤ other
    one other (inl e) = omega (arith, e)
    one other (inr i) = absurd i
least_of best (id ∷ ids) = least_more best id ids (least_of (min best id) ids)

-- the first of the rows that pass is before each that passes, or is it
before_passing : (p : Row → Bool) (rows : List Row) (y x : Row) → IsInPlaceOrder rows → find p rows ≡ Some y → IsIn x rows → p x ≡ true → (y ≡ x) ⊎ (place_cmp y.key x.key ≡ Less)
before_passing p [] y x up e i h = absurd i
before_passing p (r ∷ rows) y x up e i h = by (before_passing p rows y x up.1) (p r) refl e i
  where
    by : (find p rows ≡ Some y → IsIn x rows → p x ≡ true → (y ≡ x) ⊎ (place_cmp y.key x.key ≡ Less)) → (b : Bool) → p r ≡ b → cond b (Some r) (find p rows) ≡ Some y → (r ≡ x) ⊎ IsIn x rows → (y ≡ x) ⊎ (place_cmp y.key x.key ≡ Less)
    by more true f g (inl s) = let same : r ≡ y = cc in inl (sym same ∙ s)
    by more true f g (inr j) = let same : r ≡ y = cc in inr (subst (λ (z : Row). place_cmp z.key x.key ≡ Less) same (all_in (λ z. place_cmp r.key z.key ≡ Less) rows x up.0 j))
    by more false f g (inl s) = absurd (both_ways (p x) (ap p (sym s) ∙ f) h)
    by more false f g (inr j) = more g j h

-- of two rows of an entity the one before has no greater id
lower_id : (a b : Key) → entity_number a.entity ≡ entity_number b.entity → place_cmp a b ≡ Less → a.id ≤ b.id
lower_id a b e l = by (cases_order a.id b.id)
  where
    by : (a.id ≡ b.id) ⊎ ((a.id < b.id) ⊎ (b.id < a.id)) → a.id ≤ b.id
    by (inl f) = omega (arith, f)
    by (inr (inl f)) = omega (arith, f)
    by (inr (inr f)) =
        let lt0 : nat_lt (entity_number a.entity) (entity_number b.entity) ≡ false = le-ltb _ _ (omega (arith, e)) in
        let eq0 : nat_eq (entity_number a.entity) (entity_number b.entity) ≡ true = eq-eqb _ _ e in
        let lt1 : nat_lt a.id b.id ≡ false = le-ltb _ _ (omega (arith, f)) in
        let eq1 : nat_eq a.id b.id ≡ false = ne_eqb _ _ (λ g. omega (arith, f, g)) in
        let greater : place_cmp a b ≡ Greater = rw (lt0, eq0, lt1, eq1) refl in
        absurd (false≢true (ap is_lt (sym greater ∙ l)))

pub none_found : {X : Type 0} (p : X → Bool) (xs : List X) → ((x : X) → IsIn x xs → p x ≡ true → ⊥) → find p xs ≡ None
none_found p [] n = refl
none_found {X} p (x ∷ xs) n = by (none_found p xs (λ y i. n y (inr i))) (p x) refl
  where
    by : find p xs ≡ None → (b : Bool) → p x ≡ b → cond b (Some x) (find p xs) ≡ None
    by more true e = absurd (n x (inl refl) e)
    by more false e = more

-- the first row that passes has the least id of those that pass, where they are of one entity
pub least_found : (p : Row → Bool) (rows : List Row) (number : ℕ) (ids : List ℕ) → IsInPlaceOrder rows → ((x : Row) → IsIn x rows → p x ≡ true → number ≡ entity_number x.key.entity) → AreIdsOf rows (λ x. p x ≡ true) ids → least_id ids ≡ option_map (λ (x : Row). x.key.id) (find p rows)
least_found p rows number [] up one a = sym (ap (option_map (λ (x : Row). x.key.id)) (none_found p rows (λ x i h. a.has x i h)))
least_found p rows number (id ∷ ids) up one a = least.is_fold ∙ by (a.real least.id least.is_in) (find p rows) refl
  where
    least : Least id ids
    least = least_of id ids

    first : (y : Row) → find p rows ≡ Some y → HasId rows (λ x. p x ≡ true) least.id → Some least.id ≡ option_map (λ (x : Row). x.key.id) (Some y)
    first y e h =
        let t = hit p rows y e in
        let low = least.is_least y.key.id (a.has y t.is_in t.passes) in
        ap Some (each low (before_passing p rows y h.row up e h.is_in h.is_part))
      where
        each : least.id ≤ y.key.id → (y ≡ h.row) ⊎ (place_cmp y.key h.row.key ≡ Less) → least.id ≡ y.key.id
        each low (inl f) = sym h.same ∙ ap (λ (r : Row). r.key.id) (sym f)
        each low (inr f) =
            let t = hit p rows y e in
            let l = lower_id y.key h.row.key (sym (one y t.is_in t.passes) ∙ one h.row h.is_in h.is_part) f in
            omega (arith, low, l, h.same)

    by : HasId rows (λ x. p x ≡ true) least.id → (found : Option Row) → find p rows ≡ found → Some least.id ≡ option_map (λ (x : Row). x.key.id) found
    by h (Some y) e = first y e h
    by h None e = absurd (no_hit rows h.is_in e)
      where
        no_hit : (xs : List Row) → IsIn h.row xs → find p xs ≡ None → ⊥
        no_hit [] i f = i
        no_hit (x ∷ xs) i f = each (no_hit xs) (p x) refl i f
          where
            each : (IsIn h.row xs → find p xs ≡ None → ⊥) → (b : Bool) → p x ≡ b → (x ≡ h.row) ⊎ IsIn h.row xs → cond b (Some x) (find p xs) ≡ None → ⊥
            each more true g k m = cc
            each more false g (inl s) m = both_ways (p h.row) (ap p (sym s) ∙ g) h.is_part
            each more false g (inr k) m = more k m

-- ---- one step further down

module _ (view : View) (row : Row) (w : IsWrite view row) (free : is_below REFERENCES (with_row view.rows row) row row ≡ false) (most : ℕ) (limited : limit_of row.key.entity ≡ Some most) where
  -- another row of the entity has another id
  other_id : (x : Row) → IsIn x (with_row view.rows row) → entity_number row.key.entity ≡ entity_number x.key.entity → stands_at row.key x ≡ false → nat_eq x.key.id row.key.id ≡ false
  other_id x i e n = ne_eqb _ _ (λ f. both_ways (stands_at row.key x) n (same f))
    where
      same : x.key.id ≡ row.key.id → stands_at row.key x ≡ true
      same f =
          let one = limit_one_part row.key.entity most limited in
          let both = single_with view row w row.key.entity row.key.id one row x (put_has place_cmp row_key view.rows row) i (and_from _ _ (eq-eqb (entity_number row.key.entity) (entity_number row.key.entity) refl) (eq-eqb row.key.id row.key.id refl)) (and_from _ _ (eq-eqb (entity_number row.key.entity) (entity_number x.key.entity) e) (eq-eqb row.key.id x.key.id (sym f))) in
          subst (λ (r : Row). stands_at row.key r ≡ true) both (stands_itself row)

  pub first_ids : AreIdsOf (with_row view.rows row) (IsDown (with_row view.rows row) row 0) (row.key.id ∷ [])
  first_ids = record {
    has = λ x i d. inl (ap (λ (r : Row). r.key.id) d);
    real = λ id i. one id i;
  }
    where
      one : (id : ℕ) → IsIn id (row.key.id ∷ []) → HasId (with_row view.rows row) (IsDown (with_row view.rows row) row 0) id
      one id (inl e) = record { row = row; is_in = put_has place_cmp row_key view.rows row; is_part = refl; same = e }
      one id (inr i) = absurd i

  module _ (k : ℕ) (ids : List ℕ) (level : AreIdsOf (with_row view.rows row) (IsDown (with_row view.rows row) row k) ids) where
    has_next : (x : Row) → IsIn x (with_row view.rows row) → IsDown (with_row view.rows row) row (suc k) x → IsIn x.key.id (next_ids view.rows row ids)
    has_next x i d =
        let n = down_other view row w free k x i d in
        let e = down_entity view row w (suc k) x d in
        let named = child_names x d.parent d.is_child in
        let old = old_row view row w x i n in
        let passes : (is_entity row.key.entity x.key.entity && is_id (parent_id REFERENCES x) d.parent.key.id) ≡ true = and_from _ _ (eq-eqb _ _ e) (rw named (eq-eqb _ _ refl)) in
        let child = in_map (λ (r : Row). r.key.id) _ x (in_filter (λ (r : Row). is_entity row.key.entity r.key.entity && is_id (parent_id REFERENCES r) d.parent.key.id) view.rows x old passes) in
        in_flat (other_children view.rows row) ids d.parent.key.id x.key.id (level.has d.parent d.is_in d.is_above)
        (in_filter (λ child. not (child == row.key.id)) _ x.key.id child (ap not (other_id x i e n)))

    real_next : (id : ℕ) → IsIn id (next_ids view.rows row ids) → HasId (with_row view.rows row) (IsDown (with_row view.rows row) row (suc k)) id
    real_next id i = from (of_flat (other_children view.rows row) ids id i)
      where
        old : (x : Row) → nat_eq x.key.id row.key.id ≡ false → IsIn x (with_row view.rows row) ⊎ (place_cmp x.key row.key ≡ Equal) → IsIn x (with_row view.rows row)
        old x n (inl j) = j
        old x n (inr e) = absurd (both_ways (nat_eq x.key.id row.key.id) n (eq-eqb _ _ (equal_place x.key row.key e).id))

        child : (parent : ℕ) → HasId (with_row view.rows row) (IsDown (with_row view.rows row) row k) parent → not (id == row.key.id) ≡ true → Image (λ (r : Row). r.key.id) (filter (λ (r : Row). is_entity row.key.entity r.key.entity && is_id (parent_id REFERENCES r) parent) view.rows) id → HasId (with_row view.rows row) (IsDown (with_row view.rows row) row (suc k)) id
        child parent p n m =
            let f = of_filter (λ (r : Row). is_entity row.key.entity r.key.entity && is_id (parent_id REFERENCES r) parent) view.rows m.one m.is_in in
            let both = and_parts (is_entity row.key.entity m.one.key.entity) (is_id (parent_id REFERENCES m.one) parent) f.passes in
            let differs : nat_eq m.one.key.id row.key.id ≡ false = not-true _ (subst (λ n. not (nat_eq n row.key.id) ≡ true) (sym m.image) n) in
            let e : entity_number m.one.key.entity ≡ entity_number p.row.key.entity = sym (eqb-true _ _ both.0) ∙ down_entity view row w k p.row p.is_part in
            record {
              row = m.one;
              is_in = old m.one differs (put_keeps place_cmp row_key view.rows row m.one f.is_in);
              is_part = record { parent = p.row; is_in = p.is_in; is_above = p.is_part; is_child = child_from m.one p.row e (named (parent_id REFERENCES m.one) both.1 ∙ ap Some (sym p.same)) };
              same = m.image;
            }
          where
            named : (o : Option ℕ) → is_id o parent ≡ true → o ≡ Some parent
            named None h = absurd (false≢true h)
            named (Some other) h = ap Some (eqb-true other parent h)

        from : Source (other_children view.rows row) ids id → HasId (with_row view.rows row) (IsDown (with_row view.rows row) row (suc k)) id
        from s =
            let f = of_filter (λ child. not (child == row.key.id)) (children REFERENCES view.rows row.key.entity s.one) id s.gives in
            child s.one (level.real s.one s.is_in) f.passes (of_map (λ (r : Row). r.key.id) _ id f.is_in)

    pub next_down : AreIdsOf (with_row view.rows row) (IsDown (with_row view.rows row) row (suc k)) (next_ids view.rows row ids)
    next_down = record { has = has_next; real = real_next }

  -- ---- all rows that sink

  pub gathers_first : (first : ℕ) → Gathers (with_row view.rows row) row first 0 (row.key.id ∷ []) []
  gathers_first first = record {
    level = first_ids;
    sinking = record { has = λ x i d. absurd (omega (arith, d.before)); real = λ id i. absurd i };
  }

  pub gathers_more : (first steps : ℕ) (level sinking : List ℕ) → Gathers (with_row view.rows row) row first steps level sinking → Gathers (with_row view.rows row) row first (steps + 1) (next_ids view.rows row level) (cond (nat_le first steps) (sinking ++ level) sinking)
  gathers_more first steps level sinking g = record {
    level = subst (λ n. AreIdsOf (with_row view.rows row) (IsDown (with_row view.rows row) row n) (next_ids view.rows row level)) one_more (next_down steps level g.level);
    sinking = by (nat_le first steps) refl;
  }
    where
      one_more : suc steps ≡ steps + 1
      one_more = omega arith

      longer : (x : Row) → IsBetween (with_row view.rows row) row first steps x → IsBetween (with_row view.rows row) row first (steps + 1) x
      longer x d = record { steps = d.steps; down = d.down; from = d.from; before = omega (arith, d.before) }

      longer_id : (id : ℕ) → HasId (with_row view.rows row) (IsBetween (with_row view.rows row) row first steps) id → HasId (with_row view.rows row) (IsBetween (with_row view.rows row) row first (steps + 1)) id
      longer_id id h = record { row = h.row; is_in = h.is_in; is_part = longer h.row h.is_part; same = h.same }

      level_id : (id : ℕ) → first ≤ steps → HasId (with_row view.rows row) (IsDown (with_row view.rows row) row steps) id → HasId (with_row view.rows row) (IsBetween (with_row view.rows row) row first (steps + 1)) id
      level_id id l h = record { row = h.row; is_in = h.is_in; is_part = record { steps = steps; down = h.is_part; from = l; before = omega arith }; same = h.same }

      at_end : (x : Row) → IsIn x (with_row view.rows row) → (d : IsBetween (with_row view.rows row) row first (steps + 1) x) → (d.steps < steps) ⊎ (steps ≤ d.steps) → IsIn x.key.id sinking ⊎ ((first ≤ steps) × IsIn x.key.id level)
      at_end x i d (inl l) = inl (g.sinking.has x i (record { steps = d.steps; down = d.down; from = d.from; before = l }))
      at_end x i d (inr l) =
          let e : d.steps ≡ steps = omega (arith, l, d.before) in
          inr (omega (arith, d.from, e), g.level.has x i (subst (λ n. IsDown (with_row view.rows row) row n x) e d.down))

      by : (b : Bool) → nat_le first steps ≡ b → AreIdsOf (with_row view.rows row) (IsBetween (with_row view.rows row) row first (steps + 1)) (cond b (sinking ++ level) sinking)
      by true e = record { has = λ x i d. both x (at_end x i d (cases_lt d.steps steps)); real = λ id i. either id (in_either id sinking level i) }
        where
          both : (x : Row) → IsIn x.key.id sinking ⊎ ((first ≤ steps) × IsIn x.key.id level) → IsIn x.key.id (sinking ++ level)
          both x (inl j) = in_front x.key.id sinking level j
          both x (inr j) = in_back x.key.id sinking level j.1

          either : (id : ℕ) → IsIn id sinking ⊎ IsIn id level → HasId (with_row view.rows row) (IsBetween (with_row view.rows row) row first (steps + 1)) id
          either id (inl j) = longer_id id (g.sinking.real id j)
          either id (inr j) = level_id id (leb-true first steps e) (g.level.real id j)
      by false e = record { has = λ x i d. one x (at_end x i d (cases_lt d.steps steps)); real = λ id i. longer_id id (g.sinking.real id i) }
        where
          one : (x : Row) → IsIn x.key.id sinking ⊎ ((first ≤ steps) × IsIn x.key.id level) → IsIn x.key.id sinking
          one x (inl j) = j
          one x (inr j) = absurd (omega (arith, j.0, leb-false first steps e))

  -- after more steps than there are rows of the entity there are none below
  pub gathers_none : (first steps count : ℕ) (level sinking : List ℕ) → count ≡ count_of view.hidden view.rows row.key.entity → count + 3 ≤ steps → Gathers (with_row view.rows row) row first steps level sinking → level ≡ []
  gathers_none first steps count [] sinking e l g = refl
  gathers_none first steps count (id ∷ level) sinking e l g =
      let h = g.level.real id (inl refl) in
      let few = few_down view row w free steps h.row h.is_in h.is_part in
      let kin = kin_few view row w in
      absurd (omega (arith, e, l, few, kin))

  -- where there are none, all that sink are found
  pub gathers_all : (steps : ℕ) (sinking : List ℕ) → Gathers (with_row view.rows row) row (most - above view row w free most limited) steps [] sinking → AreIdsOf (with_row view.rows row) (λ x. sinks (with_row view.rows row) row x ≡ true) sinking
  gathers_all steps sinking g = record { has = λ x i h. found x i (sinks_to view row w free most limited x i h); real = λ id i. back id (g.sinking.real id i) }
    where
      none_further : (n : ℕ) (x : Row) → IsIn x (with_row view.rows row) → IsDown (with_row view.rows row) row (n + steps) x → ⊥
      none_further zero x i d =
          let z : 0 + steps ≡ steps = omega arith in
          g.level.has x i (subst (λ m. IsDown (with_row view.rows row) row m x) z d)
      none_further (suc n) x i d =
          let z : suc n + steps ≡ suc (n + steps) = omega arith in
          let e = subst (λ m. IsDown (with_row view.rows row) row m x) z d in
          none_further n e.parent e.is_in e.is_above

      found : (x : Row) → IsIn x (with_row view.rows row) → Sinks view row w free most limited x → IsIn x.key.id sinking
      found x i s = by (cases_lt s.steps steps)
        where
          by : (s.steps < steps) ⊎ (steps ≤ s.steps) → IsIn x.key.id sinking
          by (inl l) = g.sinking.has x i (record { steps = s.steps; down = s.down; from = s.from; before = l })
          by (inr l) =
              let z : s.steps ≡ (s.steps - steps) + steps = omega (arith, l) in
              absurd (none_further (s.steps - steps) x i (subst (λ m. IsDown (with_row view.rows row) row m x) z s.down))

      back : (id : ℕ) → HasId (with_row view.rows row) (IsBetween (with_row view.rows row) row (most - above view row w free most limited) steps) id → HasId (with_row view.rows row) (λ x. sinks (with_row view.rows row) row x ≡ true) id
      back id h = record { row = h.row; is_in = h.is_in; is_part = sinks_from view row w free most limited h.is_part.steps h.row h.is_in h.is_part.down h.is_part.from; same = h.same }

  -- the steps of the search, as the code takes them
  pub gathers_start : (first : ℕ) (level sinking : List ℕ) → level ≡ row.key.id ∷ [] → sinking ≡ [] → Gathers (with_row view.rows row) row first 0 level sinking
  gathers_start first level sinking e f = rw (e, f) (gathers_first first)

  pub gathers_step : (first steps : ℕ) (level sinking level' sinking' : List ℕ) → level' ≡ next_ids view.rows row level → sinking' ≡ cond (nat_le first steps) (sinking ++ level) sinking → Gathers (with_row view.rows row) row first steps level sinking → Gathers (with_row view.rows row) row first (steps + 1) level' sinking'
  gathers_step first steps level sinking level' sinking' e f g = rw (e, f) (gathers_more first steps level sinking g)

  pub gathers_end : (n steps : ℕ) (level sinking : List ℕ) → n ≡ above view row w free most limited → level ≡ [] → Gathers (with_row view.rows row) row (most - n) steps level sinking → AreIdsOf (with_row view.rows row) (λ x. sinks (with_row view.rows row) row x ≡ true) sinking
  gathers_end n steps level sinking e f g = gathers_all steps sinking (subst (λ m. Gathers (with_row view.rows row) row (most - m) steps [] sinking) e (subst (λ ids. Gathers (with_row view.rows row) row (most - n) steps ids sinking) f g))

  -- the least id is that of the first row that sinks
  pub least_sinking : (ids : List ℕ) → AreIdsOf (with_row view.rows row) (λ x. sinks (with_row view.rows row) row x ≡ true) ids → least_id ids ≡ option_map (λ (x : Row). x.key.id) (find (sinks (with_row view.rows row) row) (with_row view.rows row))
  least_sinking ids a = least_found (sinks (with_row view.rows row) row) (with_row view.rows row) (entity_number row.key.entity) ids (with_in_order view.rows row w.in_order) (λ x i h. let s = sinks_to view row w free most limited x i h in down_entity view row w s.steps x s.down) a

-- where rows of the entity have no parents, none sinks
pub none_sinks : (view : View) (row : Row) → IsWrite view row → limit_of row.key.entity ≡ None → None ≡ option_map (λ (x : Row). x.key.id) (find (sinks (with_row view.rows row) row) (with_row view.rows row))
none_sinks view row w e = sym (ap (option_map (λ (x : Row). x.key.id)) (none_found (sinks (with_row view.rows row) row) (with_row view.rows row) none))
  where
    shallow : (x : Row) → entity_number row.key.entity ≡ entity_number x.key.entity → is_deep REFERENCES LEVEL_LIMITS (with_row view.rows row) x ≡ false
    shallow x n = deep_is (with_row view.rows row) x ∙ ap (λ (o : Option ℕ). option_map_or (λ m. is_past REFERENCES (with_row view.rows row) m x) o false) (sym (same_limit row.key.entity x.key.entity n) ∙ e)

    at : (x : Row) → (stands_at row.key x ≡ true) ⊎ (is_below REFERENCES (with_row view.rows row) row x ≡ true) → entity_number row.key.entity ≡ entity_number x.key.entity
    at x (inl h) = (same_place row.key x h).entity
    at x (inr h) = let d = below_down view row w x h in down_entity view row w (suc d.0) x d.1

    none : (x : Row) → IsIn x (with_row view.rows row) → sinks (with_row view.rows row) row x ≡ true → ⊥
    none x i h =
        let both = and_parts (stands_at row.key x || is_below REFERENCES (with_row view.rows row) row x) (is_deep REFERENCES LEVEL_LIMITS (with_row view.rows row) x) h in
        both_ways _ (shallow x (at x (or_cases (stands_at row.key x) _ both.0))) both.1
