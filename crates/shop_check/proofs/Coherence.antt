-- Rows of which none fails a rule among them are those that fit one another.
use Rattle.std.proofs.Common.{◌≡◌, ℕ, ◌+◌, ◌≤◌, Bool, true, false, ◌&&◌, ◌||◌, ◌⊎◌, inl, inr, List, [], ◌∷◌, Option, Some, None, refl, sym, ap, subst, ◌∙◌, arith}
use Rattle.std.specs.Prelude.{not, nat_lt, count_by, is_some, if◌then◌else◌}
use Rattle.std.specs.List.{list_any, list_all}
use Rattle.std.specs.Ordering.{is_lt, is_le, ordering_reverse}
use Rattle.std.specs.declared.cmp.Ordering.{Ordering}
use Rattle.std.specs.declared.cmp.Ordering.TheVariants.{Less, Equal, Greater}
use Rattle.std.proofs.lemmas.Bool.{and_from, and_parts, both_ways, eqb-true, eq-eqb, false_from_ne_true, not-true, ltb-false}
use Rattle.std.proofs.lemmas.Bool.Decides.{nat_tests}
use Rattle.closure.specs.Closure.{IsIn}
use Rattle.closure.proofs.Members.{Found, any_is, any_of, all_at, all_from, in_filter, of_filter}
use Rattle.shop_defs.specs.declared.entity.Entity.{Entity}
use Rattle.shop_defs.specs.declared.key.Key.{Key}
use Rattle.shop_defs.specs.declared.row.Row.{Row}
use Rattle.shop_defs.specs.declared.table.OwnerLimit.{OwnerLimit}
use Rattle.shop_defs.specs.declared.table.TheConstants.{REFERENCES, LEVEL_LIMITS, OWNER_LIMITS, MOST_ROWS}
use Rattle.shop_defs.specs.declared.value.Value.{Value}
use Rattle.shop_defs.specs.Entities.{entity_number}
use Rattle.shop_defs.specs.Fitting.{row_key_fits}
use Rattle.shop_defs.specs.Keys.{key_cmp}
use Rattle.shop_defs.specs.Rows.{row_key, field_of, IsInKeyOrder}
use Rattle.shop_defs.specs.Tables.{fields_of}
use Rattle.shop_defs.proofs.Keys.{key_cmp_total}
use Rattle.shop_defs.proofs.EachLine.{same_entity}
use Rattle.shop_operations.specs.Deletes.{stands_at}
use Rattle.shop_operations.specs.Parents.{is_deep}
use Rattle.shop_operations.specs.References.{is_entity, is_id, is_live, is_grounded, are_grounded, live, part_of}
use Rattle.shop_operations.specs.Soundness.{IsCoherent}
use Rattle.shop_operations.specs.Upserts.{is_of_tree, is_twin, has_unique, agree_in_unique, same_given, same_value, same_id, is_of_owner, owner_is_full, count_of}
use Rattle.shop_operations.specs.Views.{live_view, count_hidden}
use Rattle.shop_rows.specs.Lookups.{count_rows}
use Rattle.shop_rows.proofs.Lists.{count_by-filter}
use Rattle.shop_rows.proofs.Same.{itself_equal, key_is}
use Rattle.shop_soundness.proofs.Lists.{of_each, count_under, count_filter, filter_all}
use Rattle.shop_soundness.proofs.Places.{place_back, place_stands, stands_place}
use Rattle.shop_soundness.proofs.Values.{value_same}
use Rattle.shop_check.specs.declared.fault.Rule.TheVariants as R
use Rattle.shop_check.specs.Standing.{breaks_reference, breaks_duplicate, breaks_parent, breaks_limit, rule_failed_among, up_to}
use Rattle.shop_check.proofs.Counted.{is_up, fewer_up, none_counted}
use Rattle.shop_check.proofs.Orders.{live_in_order}

-- ---- tests

and_false : (a b : Bool) → b ≡ false → (a && b) ≡ false
and_false true b e = e
and_false false b e = refl

then_false : (a b : Bool) → (a && b) ≡ false → a ≡ true → b ≡ false
then_false true b e f = e
then_false false b e f = cc

or_false : (a b : Bool) → a ≡ false → b ≡ false → (a || b) ≡ false
or_false true b e f = e
or_false false b e f = f

neither : (a b : Bool) → (a || b) ≡ false → (a ≡ false) × (b ≡ false)
neither true b e = cc
neither false b e = (refl, e)

not_broken : (a b c : Bool) → b ≡ true → c ≡ true → (a && not (b && c)) ≡ false
not_broken a true true e f = and_false a false refl
not_broken a true false e f = cc
not_broken a false c e f = cc

unbroken : (a b c : Bool) → (a && not (b && c)) ≡ false → a ≡ true → (b ≡ true) × (c ≡ true)
unbroken true true true e f = (refl, refl)
unbroken true true false e f = cc
unbroken true false c e f = cc
unbroken false b c e f = cc

not_above : (most n : ℕ) → n ≤ most → nat_lt most n ≡ false
not_above most n few = grind (arith, nat_tests)

-- ---- the rules of one row

-- the row fails none of the rules among the rows
record PassesAll (rows : List Row) (row : Row) : Type 0 where
  reference : breaks_reference rows row ≡ false
  duplicate : breaks_duplicate rows row ≡ false
  parent : breaks_parent rows row ≡ false
  limit : breaks_limit rows row ≡ false

passes_all : (rows : List Row) (row : Row) → rule_failed_among rows row ≡ None → PassesAll rows row
passes_all rows row e = by (breaks_reference rows row) refl (breaks_duplicate rows row) refl (breaks_parent rows row) refl (breaks_limit rows row) refl e
  where
    by : (a : Bool) → breaks_reference rows row ≡ a → (b : Bool) → breaks_duplicate rows row ≡ b → (c : Bool) → breaks_parent rows row ≡ c → (d : Bool) → breaks_limit rows row ≡ d
        → (if a then Some R.Reference else if b then Some R.Duplicate else if c then Some R.Parent else if d then Some R.Limit else None) ≡ None → PassesAll rows row
    by true e b f c g d h none = absurd cc
    by false e true f c g d h none = absurd cc
    by false e false f true g d h none = absurd cc
    by false e false f false g true h none = absurd cc
    by false e false f false g false h none = record { reference = e; duplicate = f; parent = g; limit = h }

none_fails : (rows : List Row) (row : Row) → PassesAll rows row → rule_failed_among rows row ≡ None
none_fails rows row p = rw (p.reference, p.duplicate, p.parent, p.limit) refl

-- ---- rows that fit one another

module _ (rows : List Row) (alive : (row : Row) → IsIn row rows → is_live row ≡ true) where
  all_live : live rows ≡ rows
  all_live = filter_all is_live rows alive

  in_live : (row : Row) → IsIn row rows → IsIn row (live rows)
  in_live row i = in_filter is_live rows row i (alive row i)

  of_live : (row : Row) → IsIn row (live rows) → IsIn row rows
  of_live row i = (of_filter is_live rows row i).is_in

  module _ (fit : IsCoherent (live_view rows)) (row : Row) (i : IsIn row rows) where
    no_reference_breaks : breaks_reference rows row ≡ false
    unfolding breaks_reference are_grounded
    no_reference_breaks = not_broken (is_live row) _ _ (all_at (is_grounded REFERENCES (live rows)) (live rows) row fit.grounded (in_live row i))
        (all_at (λ r. list_all (λ reference. is_of_tree reference (live rows) r) REFERENCES) (live rows) row fit.of_one_tree (in_live row i))

    no_twin : list_any (is_twin row) (live rows) ≡ false
    no_twin = not-true _ (all_at (λ r. not (list_any (is_twin r) (live rows))) (live rows) row fit.single (in_live row i))

    no_duplicate : breaks_duplicate rows row ≡ false
    unfolding breaks_duplicate
    no_duplicate = and_false (is_live row) _ (false_from_ne_true _ (λ e. by (any_of (λ other. is_lt (key_cmp other.key row.key) && is_twin row other) (live rows) e)))
      where
        by : Found (λ other. is_lt (key_cmp other.key row.key) && is_twin row other) (live rows) → ⊥
        by f = both_ways (list_any (is_twin row) (live rows)) no_twin (any_is (is_twin row) (live rows) f.one f.is_in (and_parts (is_lt (key_cmp f.one.key row.key)) (is_twin row f.one) f.passes).1)

    no_parent_breaks : breaks_parent rows row ≡ false
    unfolding breaks_parent
    no_parent_breaks = and_false (is_live row) _ (not-true _ (all_at (λ r. not (is_deep REFERENCES LEVEL_LIMITS (live rows) r)) (live rows) row fit.shallow (in_live row i)))

    few_of_entity : count_rows (up_to rows row) row.key.entity ≤ MOST_ROWS
    few_of_entity =
        let of_entity : Row → Bool = λ other. is_entity row.key.entity other.key.entity in
        let less : count_by of_entity (up_to rows row) ≤ count_by of_entity rows = count_filter of_entity (is_up row) rows in
        let same : count_by of_entity (live rows) ≡ count_by of_entity rows = ap (count_by of_entity) all_live in
        let most : count_by of_entity (live rows) + count_hidden rows row.key.entity ≤ MOST_ROWS = fit.bounded row.key.entity in
        omega arith

    no_owner_is_full : list_any (owner_is_full (live (up_to rows row)) row) OWNER_LIMITS ≡ false
    no_owner_is_full = false_from_ne_true _ (λ e. by (any_of (owner_is_full (live (up_to rows row)) row) OWNER_LIMITS e))
      where
        few : list_any (owner_is_full (live rows) row) OWNER_LIMITS ≡ false
        few = not-true _ (all_at (λ r. not (list_any (owner_is_full (live rows) r) OWNER_LIMITS)) (live rows) row fit.few (in_live row i))

        more : (limit : OwnerLimit) → owner_is_full (live (up_to rows row)) row limit ≡ true → owner_is_full (live rows) row limit ≡ true
        more limit e =
            let parts = and_parts (is_entity limit.entity row.key.entity) (nat_lt limit.most (count_by (is_of_owner limit row) (live (up_to rows row)))) e in
            let less : count_by (is_of_owner limit row) (live (up_to rows row)) ≤ count_by (is_of_owner limit row) (live rows) = fewer_up rows row (is_of_owner limit row) in
            and_from _ _ parts.0 (still limit.most (count_by (is_of_owner limit row) (live (up_to rows row))) (count_by (is_of_owner limit row) (live rows)) parts.1 less)
          where
            still : (most m n : ℕ) → nat_lt most m ≡ true → m ≤ n → nat_lt most n ≡ true
            still most m n above less = grind (arith, nat_tests)

        by : Found (owner_is_full (live (up_to rows row)) row) OWNER_LIMITS → ⊥
        by f = both_ways (list_any (owner_is_full (live rows) row) OWNER_LIMITS) few (any_is (owner_is_full (live rows) row) OWNER_LIMITS f.one f.is_in (more f.one f.passes))

    no_limit_breaks : breaks_limit rows row ≡ false
    unfolding breaks_limit
    no_limit_breaks = or_false _ _ (not_above MOST_ROWS (count_rows (up_to rows row) row.key.entity) few_of_entity) (and_false (is_live row) _ no_owner_is_full)

    -- of live rows that fit one another, none fails a rule among them
    pub fits_among : rule_failed_among rows row ≡ None
    fits_among = none_fails rows row (record { reference = no_reference_breaks; duplicate = no_duplicate; parent = no_parent_breaks; limit = no_limit_breaks })

-- ---- twins of one another

given_back : (a b : Option Value) → same_given a b ≡ true → same_given b a ≡ true
given_back a b e =
    let same : a ≡ b = value_same a b (and_parts (is_some a) (same_value a b) e).1 in
    subst (λ (x : Option Value). same_given x a ≡ true) same (subst (λ (x : Option Value). same_given a x ≡ true) (sym same) e)

implied_back : (marked : Bool) (a b : Option Value) → (not marked || same_given a b) ≡ true → (not marked || same_given b a) ≡ true
implied_back true a b e = given_back a b e
implied_back false a b e = refl

twin_back : (row other : Row) → is_twin row other ≡ true → is_twin other row ≡ true
unfolding is_twin
twin_back row other e =
    let parts = and_parts (is_entity row.key.entity other.key.entity && not (stands_at row.key other) && has_unique row.key.entity) (agree_in_unique row.key.entity row other) e in
    let front = and_parts (is_entity row.key.entity other.key.entity && not (stands_at row.key other)) (has_unique row.key.entity) parts.0 in
    let two = and_parts (is_entity row.key.entity other.key.entity) (not (stands_at row.key other)) front.0 in
    let entity : row.key.entity ≡ other.key.entity = same_entity row.key.entity other.key.entity (eqb-true _ _ two.0) in
    let apart : stands_at row.key other ≡ false = not-true (stands_at row.key other) two.1 in
    let apart_back : stands_at other.key row ≡ false = false_from_ne_true (stands_at other.key row) (λ h. both_ways (stands_at row.key other) apart (place_stands row.key other (place_back other.key row.key (stands_place other.key row h)))) in
    let agree : agree_in_unique row.key.entity other row ≡ true =
    all_from (λ f. not f.marks.unique || same_given (field_of other f.number) (field_of row f.number)) (fields_of row.key.entity)
    (λ f i. implied_back f.marks.unique (field_of row f.number) (field_of other f.number) (all_at (λ g. not g.marks.unique || same_given (field_of row g.number) (field_of other g.number)) (fields_of row.key.entity) f parts.1 i)) in
    and_from _ _ (and_from _ _ (and_from _ _ (eq-eqb _ _ (ap entity_number (sym entity))) (ap not apart_back)) (subst (λ (of : Entity). has_unique of ≡ true) entity front.1)) (subst (λ (of : Entity). agree_in_unique of other row ≡ true) entity agree)

twins_apart : (row other : Row) → is_twin row other ≡ true → row.key ≡ other.key → ⊥
unfolding is_twin
twins_apart row other e same =
    let parts = and_parts (is_entity row.key.entity other.key.entity && not (stands_at row.key other) && has_unique row.key.entity) (agree_in_unique row.key.entity row other) e in
    let front = and_parts (is_entity row.key.entity other.key.entity && not (stands_at row.key other)) (has_unique row.key.entity) parts.0 in
    let two = and_parts (is_entity row.key.entity other.key.entity) (not (stands_at row.key other)) front.0 in
    both_ways (stands_at row.key other) (not-true (stands_at row.key other) two.1) (place_stands row.key other (record { entity = ap (λ (k : Key). entity_number k.entity) same; id = ap (λ (k : Key). k.id) same; second = ap (λ (k : Key). k.second) same }))

-- ---- the last row that passes

-- the row passes, and no row above it does
record IsLast (p : Row → Bool) (rows : List Row) (row : Row) : Type 0 where
  is_in : IsIn row rows
  passes : p row ≡ true
  last : (other : Row) → IsIn other rows → p other ≡ true → is_up row other ≡ true

low_is_up : (low row : Row) → key_cmp low.key row.key ≡ Less → is_up row low ≡ true
low_is_up low row e = ap is_le e

itself_is_up : (row other : Row) → row ≡ other → is_up row other ≡ true
itself_is_up row other e = subst (λ (r : Row). is_up row r ≡ true) e (ap is_le (itself_equal key_cmp key_cmp_total row.key))

last_passing : (p : Row → Bool) (rows : List Row) → IsInKeyOrder rows → (list_any p rows ≡ false) ⊎ record { row : Row; is : IsLast p rows row }
last_passing p [] up = inl refl
last_passing p (first ∷ rows) up = by (last_passing p rows up.1) (p first) refl
  where
    above : (row : Row) → IsIn row rows → key_cmp first.key row.key ≡ Less
    above row i = of_each (λ other. key_cmp first.key (row_key other) ≡ Less) rows row up.0 i

    on : (row : Row) → IsLast p rows row → (other : Row) → IsIn other (first ∷ rows) → p other ≡ true → is_up row other ≡ true
    on row is other (inl e) h = subst (λ (r : Row). is_up row r ≡ true) e (low_is_up first row (above row is.is_in))
    on row is other (inr j) h = is.last other j h

    alone : list_any p rows ≡ false → (other : Row) → IsIn other (first ∷ rows) → p other ≡ true → is_up first other ≡ true
    alone none other (inl e) h = itself_is_up first other e
    alone none other (inr j) h = absurd (both_ways (list_any p rows) none (any_is p rows other j h))

    by : (list_any p rows ≡ false) ⊎ record { row : Row; is : IsLast p rows row } → (b : Bool) → p first ≡ b → (list_any p (first ∷ rows) ≡ false) ⊎ record { row : Row; is : IsLast p (first ∷ rows) row }
    by (inr found) b e = inr (record { row = found.row; is = record { is_in = inr found.is.is_in; passes = found.is.passes; last = on found.row found.is } })
    by (inl none) true e = inr (record { row = first; is = record { is_in = inl refl; passes = e; last = alone none } })
    by (inl none) false e = inl (or_false (p first) (list_any p rows) e none)

-- where there are few up to each row that passes, there are few
few_by_last : (p : Row → Bool) (rows : List Row) (most : ℕ) → IsInKeyOrder rows → ((row : Row) → IsIn row rows → p row ≡ true → count_by p (up_to rows row) ≤ most) → count_by p rows ≤ most
few_by_last p rows most up few = by (last_passing p rows up)
  where
    by : (list_any p rows ≡ false) ⊎ record { row : Row; is : IsLast p rows row } → count_by p rows ≤ most
    by (inl none) =
        let less : count_by p rows ≤ count_by (λ (other : Row). false) rows = count_under p (λ other. false) rows (λ x i h. absurd (both_ways (list_any p rows) none (any_is p rows x i h))) in
        let nothing : count_by (λ (other : Row). false) rows ≡ 0 = none_counted rows in
        omega arith
    by (inr found) =
        let less : count_by p rows ≤ count_by (λ other. is_up found.row other && p other) rows = count_under p (λ other. is_up found.row other && p other) rows (λ x i h. and_from _ _ (found.is.last x i h) h) in
        let same : count_by p (up_to rows found.row) ≡ count_by (λ other. is_up found.row other && p other) rows = count_by-filter p (is_up found.row) rows in
        let most : count_by p (up_to rows found.row) ≤ most = few found.row found.is.is_in found.is.passes in
        omega arith

-- ---- rows of one owner

some_id : (o : Option ℕ) (id : ℕ) → is_id o id ≡ true → o ≡ Some id
some_id None id h = cc
some_id (Some other) id h = ap Some (eqb-true other id h)

same_owner : (a b c : Option ℕ) → same_id a b ≡ true → same_id a c ≡ true → same_id b c ≡ true
same_owner None b c e f = cc
same_owner (Some id) b c e f = subst (λ (o : Option ℕ). same_id o c ≡ true) (sym (some_id b id e)) f

of_same_owner : (limit : OwnerLimit) (row other third : Row) → is_of_owner limit row other ≡ true → is_of_owner limit row third ≡ true → is_of_owner limit other third ≡ true
of_same_owner limit row other third e f =
    let one = and_parts (is_entity limit.entity other.key.entity) (same_id (part_of limit.owner row) (part_of limit.owner other)) e in
    let two = and_parts (is_entity limit.entity third.key.entity) (same_id (part_of limit.owner row) (part_of limit.owner third)) f in
    and_from _ _ two.0 (same_owner (part_of limit.owner row) (part_of limit.owner other) (part_of limit.owner third) one.1 two.1)

-- ---- rows of which none fails a rule among them

module _ (rows : List Row) (up : IsInKeyOrder rows) (formed : list_all (λ row. row_key_fits row.key) rows ≡ true) (alive : (row : Row) → IsIn row rows → is_live row ≡ true) (among : (row : Row) → IsIn row rows → rule_failed_among rows row ≡ None) where
  passes : (row : Row) → IsIn row (live rows) → PassesAll rows row
  passes row i = passes_all rows row (among row (of_live rows alive row i))

  is_alive : (row : Row) → IsIn row (live rows) → is_live row ≡ true
  is_alive row i = (of_filter is_live rows row i).passes

  references_kept : (row : Row) → IsIn row (live rows) → (is_grounded REFERENCES (live rows) row ≡ true) × (list_all (λ reference. is_of_tree reference (live rows) row) REFERENCES ≡ true)
  unfolding breaks_reference
  references_kept row i = unbroken (is_live row) _ _ (passes row i).reference (is_alive row i)

  grounded : are_grounded REFERENCES (live rows) ≡ true
  unfolding are_grounded
  grounded = all_from (is_grounded REFERENCES (live rows)) (live rows) (λ row i. (references_kept row i).0)

  of_one_tree : list_all (λ row. list_all (λ reference. is_of_tree reference (live rows) row) REFERENCES) (live rows) ≡ true
  of_one_tree = all_from (λ row. list_all (λ reference. is_of_tree reference (live rows) row) REFERENCES) (live rows) (λ row i. (references_kept row i).1)

  no_lower_twin : (row other : Row) → IsIn row (live rows) → IsIn other (live rows) → is_twin row other ≡ true → is_lt (key_cmp other.key row.key) ≡ true → ⊥
  unfolding breaks_duplicate
  no_lower_twin row other i j twin low =
      both_ways (list_any (λ x. is_lt (key_cmp x.key row.key) && is_twin row x) (live rows)) (then_false (is_live row) _ (passes row i).duplicate (is_alive row i))
      (any_is (λ x. is_lt (key_cmp x.key row.key) && is_twin row x) (live rows) other j (and_from _ _ low twin))

  no_twins : (row other : Row) → IsIn row (live rows) → IsIn other (live rows) → is_twin row other ≡ true → ⊥
  no_twins row other i j twin = by (key_cmp other.key row.key) refl
    where
      by : (o : Ordering) → key_cmp other.key row.key ≡ o → ⊥
      by Less e = no_lower_twin row other i j twin (ap is_lt e)
      by Equal e = twins_apart row other twin (sym (key_is other.key row.key e))
      by Greater e = no_lower_twin other row j i (twin_back row other twin) (ap is_lt (key_cmp_total.antisymm row.key other.key ∙ ap ordering_reverse e))

  single : list_all (λ row. not (list_any (is_twin row) (live rows))) (live rows) ≡ true
  single = all_from (λ row. not (list_any (is_twin row) (live rows))) (live rows) (λ row i. ap not (false_from_ne_true (list_any (is_twin row) (live rows)) (λ e. by row i (any_of (is_twin row) (live rows) e))))
    where
      by : (row : Row) → IsIn row (live rows) → Found (is_twin row) (live rows) → ⊥
      by row i f = no_twins row f.one i f.is_in f.passes

  shallow : list_all (λ row. not (is_deep REFERENCES LEVEL_LIMITS (live rows) row)) (live rows) ≡ true
  unfolding breaks_parent
  shallow = all_from (λ row. not (is_deep REFERENCES LEVEL_LIMITS (live rows) row)) (live rows) (λ row i. ap not (then_false (is_live row) _ (passes row i).parent (is_alive row i)))

  record Limits (row : Row) : Type 0 where
    entity : nat_lt MOST_ROWS (count_rows (up_to rows row) row.key.entity) ≡ false
    owners : list_any (owner_is_full (live (up_to rows row)) row) OWNER_LIMITS ≡ false

  limits : (row : Row) → IsIn row (live rows) → Limits row
  unfolding breaks_limit
  limits row i =
      let both = neither (nat_lt MOST_ROWS (count_rows (up_to rows row) row.key.entity)) _ (passes row i).limit in
      record { entity = both.0; owners = then_false (is_live row) _ both.1 (is_alive row i) }

  bounded : (entity : Entity) → count_of (count_hidden rows) (live rows) entity ≤ MOST_ROWS
  bounded entity =
      let of_entity : Row → Bool = λ other. is_entity entity other.key.entity in
      let same : count_by of_entity (live rows) ≡ count_by of_entity rows = ap (count_by of_entity) (all_live rows alive) in
      let few : count_by of_entity rows ≤ MOST_ROWS = few_by_last of_entity rows MOST_ROWS up (λ row i h. by row i (same_entity entity row.key.entity (eqb-true _ _ h))) in
      let less : count_hidden rows entity ≤ count_by (λ (other : Row). false) rows =
      count_under (λ other. is_entity entity other.key.entity && not (is_live other)) (λ other. false) rows (λ x i h. absurd (both_ways (is_live x) (not-true (is_live x) (and_parts (is_entity entity x.key.entity) (not (is_live x)) h).1) (alive x i))) in
      let nothing : count_by (λ (other : Row). false) rows ≡ 0 = none_counted rows in
      omega arith
    where
      by : (row : Row) → IsIn row rows → entity ≡ row.key.entity → count_by (λ other. is_entity entity other.key.entity) (up_to rows row) ≤ MOST_ROWS
      by row i e = subst (λ (of : Entity). count_by (λ other. is_entity of other.key.entity) (up_to rows row) ≤ MOST_ROWS) (sym e) (ltb-false MOST_ROWS (count_rows (up_to rows row) row.key.entity) (limits row (in_live rows alive row i)).entity)

  few_of_owner : (limit : OwnerLimit) → IsIn limit OWNER_LIMITS → (row : Row) → count_by (is_of_owner limit row) rows ≤ limit.most
  few_of_owner limit j row = few_by_last (is_of_owner limit row) rows limit.most up by
    where
      not_full : (other : Row) → IsIn other rows → owner_is_full (live (up_to rows other)) other limit ≡ false
      not_full other i = false_from_ne_true _ (λ e. both_ways (list_any (owner_is_full (live (up_to rows other)) other) OWNER_LIMITS) (limits other (in_live rows alive other i)).owners (any_is (owner_is_full (live (up_to rows other)) other) OWNER_LIMITS limit j e))

      by : (other : Row) → IsIn other rows → is_of_owner limit row other ≡ true → count_by (is_of_owner limit row) (up_to rows other) ≤ limit.most
      by other i h =
          let entity = (and_parts (is_entity limit.entity other.key.entity) (same_id (part_of limit.owner row) (part_of limit.owner other)) h).0 in
          let few : count_by (is_of_owner limit other) (live (up_to rows other)) ≤ limit.most = ltb-false limit.most (count_by (is_of_owner limit other) (live (up_to rows other))) (then_false (is_entity limit.entity other.key.entity) _ (not_full other i) entity) in
          let same : live (up_to rows other) ≡ up_to rows other = filter_all is_live (up_to rows other) (λ x k. alive x (of_filter (is_up other) rows x k).is_in) in
          let as_live : count_by (is_of_owner limit other) (live (up_to rows other)) ≡ count_by (is_of_owner limit other) (up_to rows other) = ap (count_by (is_of_owner limit other)) same in
          let less : count_by (is_of_owner limit row) (up_to rows other) ≤ count_by (is_of_owner limit other) (up_to rows other) = count_under (is_of_owner limit row) (is_of_owner limit other) (up_to rows other) (λ x k g. of_same_owner limit row other x h g) in
          omega arith

  few : list_all (λ row. not (list_any (owner_is_full (live rows) row) OWNER_LIMITS)) (live rows) ≡ true
  few = all_from (λ row. not (list_any (owner_is_full (live rows) row) OWNER_LIMITS)) (live rows) (λ row i. ap not (false_from_ne_true (list_any (owner_is_full (live rows) row) OWNER_LIMITS) (λ e. by row (any_of (owner_is_full (live rows) row) OWNER_LIMITS e))))
    where
      by : (row : Row) → Found (owner_is_full (live rows) row) OWNER_LIMITS → ⊥
      by row f =
          let above = (and_parts (is_entity f.one.entity row.key.entity) (nat_lt f.one.most (count_by (is_of_owner f.one row) (live rows))) f.passes).1 in
          let same : count_by (is_of_owner f.one row) (live rows) ≡ count_by (is_of_owner f.one row) rows = ap (count_by (is_of_owner f.one row)) (all_live rows alive) in
          let most : count_by (is_of_owner f.one row) rows ≤ f.one.most = few_of_owner f.one f.is_in row in
          both_ways (nat_lt f.one.most (count_by (is_of_owner f.one row) (live rows))) (not_above f.one.most (count_by (is_of_owner f.one row) (live rows)) (omega arith)) above

  -- the rows fit one another
  pub among_fits : IsCoherent (live_view rows)
  among_fits = record {
    in_order = live_in_order rows up;
    formed = all_from (λ row. row_key_fits row.key) (live rows) (λ row i. all_at (λ r. row_key_fits r.key) rows row formed (of_live rows alive row i));
    grounded = grounded;
    of_one_tree = of_one_tree;
    single = single;
    shallow = shallow;
    bounded = bounded;
    few = few;
  }
