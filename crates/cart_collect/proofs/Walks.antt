-- A walk from row to row goes over the live rows of an entity.
use Rattle.std.proofs.Common.{◌≡◌, ◌≢◌, ℕ, ◌+◌, ◌<◌, Bool, true, false, ◌&&◌, ◌==◌, ◌⊎◌, inl, inr, List, [], ◌∷◌, ◌++◌, length, filter, find, Option, Some, None, if◌then◌else◌, refl, sym, ap, subst, ◌∙◌, arith}
use Rattle.std.specs.declared.cmp.Ordering.{Ordering}
use Rattle.std.specs.declared.cmp.Ordering.TheVariants.{Less, Equal, Greater}
use Rattle.std.specs.Ordering.{MatchOrdering, is_lt, is_eq, nat_cmp, ordering_then, ordering_reverse}
use Rattle.std.specs.List.{AllByRecursion}
use Rattle.std.specs.Option.{option_to_list}
use Rattle.std.proofs.lemmas.Bool.{eqb-true}
use Rattle.std.proofs.lemmas.Cmp.{ranked}
use Rattle.shop_defs.specs.declared.entity.Entity.{Entity}
use Rattle.shop_defs.specs.declared.key.Key.{Key}
use Rattle.shop_defs.specs.declared.row.Row.{Row}
use Rattle.shop_defs.specs.Entities.{entity_number}
use Rattle.shop_defs.specs.Keys.{key_cmp}
use Rattle.shop_defs.specs.Rows.{row_at, IsInKeyOrder}
use Rattle.shop_defs.proofs.Keys.{key_cmp_total}
use Rattle.shop_operations.specs.References.{is_entity, is_live, live}
use denote.Ref.{Bor}
use Rattle.cart_price.specs.Lent.{lent_rows}
use Rattle.shop_rows.specs.Lookups.{first_above}
use Rattle.shop_defs.proofs.EachLine.{same_entity}
use Rattle.shop_rows.proofs.Same.{itself_equal, key_is}
use Rattle.cart_collect.specs.Finding.{live_key, live_of}
use Rattle.cart_collect.specs.Looking.{is_beside, if_beside, next_beside}

-- the rows from the first one above a key on
abbrev pub behind : Key → List Row → List Row
behind at [] = []
behind at (row ∷ rows) = if is_lt (key_cmp at row.key) then row ∷ rows else behind at rows

abbrev first : List Row → Option Row
first [] = None
first (row ∷ rows) = Some row

abbrev rest_of : List Row → List Row
rest_of [] = []
rest_of (row ∷ rows) = rows

first_is : (at : Key) (rows : List Row) → first_above rows at ≡ first (behind at rows)
first_is at [] = refl
first_is at (row ∷ rows) = by (first_is at rows) (is_lt (key_cmp at row.key)) refl
  where
    by : first_above rows at ≡ first (behind at rows) → (b : Bool) → is_lt (key_cmp at row.key) ≡ b → first_above (row ∷ rows) at ≡ first (behind at (row ∷ rows))
    by more true e = rw e refl
    by more false e = rw e more

turned : (a b : Key) → key_cmp a b ≡ Less → key_cmp b a ≡ Greater
turned a b e = key_cmp_total.antisymm b a ∙ ap ordering_reverse e

turned_back : (a b : Key) → key_cmp a b ≡ Greater → key_cmp b a ≡ Less
turned_back a b e = key_cmp_total.antisymm b a ∙ ap ordering_reverse e

turned_equal : (a b : Key) → key_cmp a b ≡ Equal → key_cmp b a ≡ Equal
turned_equal a b e = key_cmp_total.antisymm b a ∙ ap ordering_reverse e

-- what stands behind a row below all is all
all_behind : (at : Key) (rows : List Row) → AllByRecursion (λ row. key_cmp at row.key ≡ Less) rows → behind at rows ≡ rows
all_behind at [] above = refl
all_behind at (row ∷ rows) above = rw above.0 refl

first_in : (P : Row → Type 0) (at : Key) (rows : List Row) (row : Row) → AllByRecursion P rows → first (behind at rows) ≡ Some row → P row
first_in P at [] row all e = absurd (cc)
first_in P at (x ∷ rows) row all e = by (first_in P at rows row all.1) (is_lt (key_cmp at x.key)) refl
  where
    by : (first (behind at rows) ≡ Some row → P row) → (b : Bool) → is_lt (key_cmp at x.key) ≡ b → P row
    by more true f = let e2 : Some x ≡ Some row = rw f at e in let same : x ≡ row = cc in subst P same all.0
    by more false f = let e2 : first (behind at rows) ≡ Some row = rw f at e in more e2

-- what stands behind the first row above a key is the rest
next_behind : (at : Key) (rows : List Row) (row : Row) → IsInKeyOrder rows → first (behind at rows) ≡ Some row → behind row.key rows ≡ rest_of (behind at rows)
next_behind at [] row up e = absurd (cc)
next_behind at (x ∷ rows) row up e = by (next_behind at rows row up.1) (is_lt (key_cmp at x.key)) refl
  where
    by : (first (behind at rows) ≡ Some row → behind row.key rows ≡ rest_of (behind at rows)) → (b : Bool) → is_lt (key_cmp at x.key) ≡ b → behind row.key (x ∷ rows) ≡ rest_of (behind at (x ∷ rows))
    by more true f =
        let e2 : Some x ≡ Some row = rw f at e in
        let same : x ≡ row = cc in
        subst (λ (r : Row). behind r.key (x ∷ rows) ≡ rest_of (behind at (x ∷ rows))) same (rw (f, itself_equal key_cmp key_cmp_total x.key) (all_behind x.key rows up.0))
    by more false f =
        let e2 : first (behind at rows) ≡ Some row = rw f at e in
        let less : key_cmp x.key row.key ≡ Less = first_in (λ (r : Row). key_cmp x.key r.key ≡ Less) at rows row up.0 e2 in
        rw (f, turned x.key row.key less) (more e2)

order_behind : (at : Key) (rows : List Row) → IsInKeyOrder rows → IsInKeyOrder (behind at rows)
order_behind at [] up = tt
order_behind at (row ∷ rows) up = by (order_behind at rows up.1) (is_lt (key_cmp at row.key)) refl
  where
    by : IsInKeyOrder (behind at rows) → (b : Bool) → is_lt (key_cmp at row.key) ≡ b → IsInKeyOrder (behind at (row ∷ rows))
    by more true e = rw e up
    by more false e = rw e more

first_above_is : (at : Key) (rows : List Row) (row : Row) → first (behind at rows) ≡ Some row → key_cmp at row.key ≡ Less
first_above_is at [] row e = absurd (cc)
first_above_is at (x ∷ rows) row e = by (first_above_is at rows row) (key_cmp at x.key) refl
  where
    by : (first (behind at rows) ≡ Some row → key_cmp at row.key ≡ Less) → (o : Ordering) → key_cmp at x.key ≡ o → key_cmp at row.key ≡ Less
    by more Less f = let e2 : Some x ≡ Some row = rw f at e in let same : x ≡ row = cc in subst (λ (r : Row). key_cmp at r.key ≡ Less) same f
    by more Equal f = let e2 : first (behind at rows) ≡ Some row = rw f at e in more e2
    by more Greater f = let e2 : first (behind at rows) ≡ Some row = rw f at e in more e2

-- ---- rows of one entity and one version stand together

lex : (m n : ℕ) (o : Ordering) → ordering_then (nat_cmp m n) o ≡ Less → (m < n) ⊎ ((m ≡ n) × (o ≡ Less))
lex m n o e = by (nat_cmp m n) refl (ranked m n (nat_cmp m n) refl)
  where
    by : (r : Ordering) → nat_cmp m n ≡ r → MatchOrdering (nat_cmp m n) (m < n) (m ≡ n) (n < m) → (m < n) ⊎ ((m ≡ n) × (o ≡ Less))
    by Less f h = inl (rw f at h)
    by Equal f h = let e2 : o ≡ Less = rw f at e in inr (rw f at h, e2)
    by Greater f h = let e2 : Greater ≡ Less = rw f at e in absurd (cc)

abbrev rest_cmp : Key → Key → Ordering
rest_cmp a b = ordering_then (nat_cmp a.id b.id) (nat_cmp a.second b.second)

-- what stands between two of one entity and version is of them, too
between : (a b c : Key) → key_cmp a b ≡ Less → key_cmp b c ≡ Less → entity_number c.entity ≡ entity_number a.entity → c.version ≡ a.version → (entity_number b.entity ≡ entity_number a.entity) × (b.version ≡ a.version)
between a b c e f same version =
    by (lex (entity_number a.entity) (entity_number b.entity) (ordering_then (nat_cmp a.version b.version) (rest_cmp a b)) e)
    (lex (entity_number b.entity) (entity_number c.entity) (ordering_then (nat_cmp b.version c.version) (rest_cmp b c)) f)
  where
    later : entity_number a.entity ≡ entity_number b.entity → (a.version < b.version) ⊎ ((a.version ≡ b.version) × (rest_cmp a b ≡ Less)) → (b.version < c.version) ⊎ ((b.version ≡ c.version) × (rest_cmp b c ≡ Less))
        → (entity_number b.entity ≡ entity_number a.entity) × (b.version ≡ a.version)
    later s (inl v) (inl w) = absurd (omega (arith, v, w, version))
    later s (inl v) (inr w) = absurd (omega (arith, v, w.0, version))
    later s (inr v) w = (sym s, sym v.0)

    by : (entity_number a.entity < entity_number b.entity) ⊎ ((entity_number a.entity ≡ entity_number b.entity) × (ordering_then (nat_cmp a.version b.version) (rest_cmp a b) ≡ Less))
        → (entity_number b.entity < entity_number c.entity) ⊎ ((entity_number b.entity ≡ entity_number c.entity) × (ordering_then (nat_cmp b.version c.version) (rest_cmp b c) ≡ Less))
        → (entity_number b.entity ≡ entity_number a.entity) × (b.version ≡ a.version)
    by (inl l) (inl m) = absurd (omega (arith, l, m, same))
    by (inl l) (inr m) = absurd (omega (arith, l, m.0, same))
    by (inr l) (inl m) = absurd (omega (arith, l.0, m, same))
    by (inr l) (inr m) = later l.0 (lex a.version b.version (rest_cmp a b) l.1) (lex b.version c.version (rest_cmp b c) m.1)

both : (a b : Bool) → (a && b) ≡ true → (a ≡ true) × (b ≡ true)
both true true e = (refl, refl)
both true false e = absurd (cc)
both false b e = absurd (cc)

eqb-same : (m n : ℕ) → m ≡ n → (m == n) ≡ true
eqb-same m n e = grind (arith, e)

is_there : (a b : Key) → entity_number b.entity ≡ entity_number a.entity → b.version ≡ a.version → is_beside b a ≡ true
is_there a b e f = rw (eqb-same (entity_number b.entity) (entity_number a.entity) e, eqb-same b.version a.version f) refl

not_beside : (a b c : Key) → key_cmp a b ≡ Less → key_cmp b c ≡ Less → is_beside b a ≡ false → is_beside c a ≡ false
not_beside a b c e f other_than = by (is_beside c a) refl
  where
    by : (t : Bool) → is_beside c a ≡ t → is_beside c a ≡ false
    by true so =
        let two = both (is_entity c.entity a.entity) (c.version == a.version) so in
        let here = between a b c e f (eqb-true (entity_number c.entity) (entity_number a.entity) two.0) (eqb-true c.version a.version two.1) in
        let there : is_beside b a ≡ true = is_there a b here.0 here.1 in
        absurd (cc)
    by false so = so

-- ---- the live rows of the entity

module _ (entity : Entity) where
  -- the key is one of a live row of the entity
  pub record IsFrom (at : Key) : Type 0 where
    pub of : at.entity ≡ entity
    pub live : at.version ≡ 0

  one_more : (row : Row) (rows : List Row) → is_beside row.key (live_key entity 0) ≡ true → live_of (row ∷ rows) entity ≡ row ∷ live_of rows entity
  one_more row rows so = let two = both (is_entity row.key.entity entity) (row.key.version == 0) so in rw (two.1, two.0) refl

  none_more : (row : Row) (rows : List Row) → is_beside row.key (live_key entity 0) ≡ false → live_of (row ∷ rows) entity ≡ live_of rows entity
  none_more row rows other_than = by (row.key.version == 0) (is_entity row.key.entity entity) refl refl
    where
      by : (b c : Bool) → (row.key.version == 0) ≡ b → is_entity row.key.entity entity ≡ c → live_of (row ∷ rows) entity ≡ live_of rows entity
      by true true e f = let so : is_beside row.key (live_key entity 0) ≡ true = rw (f, e) refl in absurd (cc)
      by true false e f = rw (e, f) refl
      by false c e f = rw e refl

  beside_as : (at : Key) (row : Row) → IsFrom at → is_beside row.key at ≡ is_beside row.key (live_key entity 0)
  beside_as at row from = λ i. is_entity row.key.entity (from.of i) && (row.key.version == from.live i)

  none_left : (at : Key) (row : Row) (rows : List Row) → IsFrom at → key_cmp at row.key ≡ Less → is_beside row.key at ≡ false → AllByRecursion (λ other. key_cmp row.key other.key ≡ Less) rows → live_of rows entity ≡ []
  none_left at row [] from less other_than above = refl
  none_left at row (other ∷ rows) from less other_than above =
      none_more other rows (sym (beside_as at other from) ∙ not_beside at row.key other.key less above.0 other_than) ∙ none_left at row rows from less other_than above.1

  -- what the walk finds at a key: the next live row of the entity, or none where there is none
  pub record GoesOn (rows : List Row) (at : Key) (row : Row) : Type 0 where
    pub more : live_of (behind at rows) entity ≡ row ∷ live_of (behind row.key rows) entity
    pub from : IsFrom row.key
    pub less : length (behind row.key rows) < length (behind at rows)

  row_from : (row : Row) → is_beside row.key (live_key entity 0) ≡ true → IsFrom row.key
  row_from row so =
      let two = both (is_entity row.key.entity entity) (row.key.version == 0) so in
      record { of = same_entity row.key.entity entity (eqb-true (entity_number row.key.entity) (entity_number entity) two.0); live = eqb-true row.key.version 0 two.1 }

  pub goes_on : (rows : List Row) (at : Key) (row : Row) → IsInKeyOrder rows → IsFrom at → next_beside rows at ≡ Some row → GoesOn rows at row
  goes_on rows at row up from found = by (behind at rows) refl
    where
      by : (s : List Row) → behind at rows ≡ s → GoesOn rows at row
      by [] e = let e2 : None ≡ Some row = rw (first_is at rows, e) at found in absurd (cc)
      by (x ∷ xs) e = at_test (is_beside x.key at) refl
        where
          there : first (behind at rows) ≡ Some x
          there = rw e refl

          at_test : (b : Bool) → is_beside x.key at ≡ b → GoesOn rows at row
          at_test false f = let e2 : None ≡ Some row = rw (first_is at rows, e, f) at found in absurd (cc)
          at_test true f =
              let e2 : Some x ≡ Some row = rw (first_is at rows, e, f) at found in
              let same : x ≡ row = cc in
              let so : is_beside x.key (live_key entity 0) ≡ true = sym (beside_as at x from) ∙ f in
              let rest : behind x.key rows ≡ xs = next_behind at rows x up there ∙ ap rest_of e in
              subst (λ (r : Row). GoesOn rows at r) same (record {
                more = rw (e, rest) (one_more x xs so);
                from = row_from x so;
                less = rw (e, rest) (omega arith);
              })

  pub ends : (rows : List Row) (at : Key) → IsInKeyOrder rows → IsFrom at → next_beside rows at ≡ None → live_of (behind at rows) entity ≡ []
  ends rows at up from none = by (behind at rows) refl
    where
      by : (s : List Row) → behind at rows ≡ s → live_of (behind at rows) entity ≡ []
      by [] e = rw e refl
      by (x ∷ xs) e = at_test (is_beside x.key at) refl
        where
          there : first (behind at rows) ≡ Some x
          there = rw e refl

          at_test : (b : Bool) → is_beside x.key at ≡ b → live_of (behind at rows) entity ≡ []
          at_test true f = let e2 : Some x ≡ None = rw (first_is at rows, e, f) at none in absurd (cc)
          at_test false f =
              let order : IsInKeyOrder (x ∷ xs) = rw e at (order_behind at rows up) in
              rw e (none_more x xs (sym (beside_as at x from) ∙ f) ∙ none_left at x xs from (first_above_is at rows x there) f order.0)

  -- ---- where the walk begins

  abbrev start : Key
  start = live_key entity 0

  none_at : (rows : List Row) → AllByRecursion (λ row. key_cmp start row.key ≡ Less) rows → row_at rows start ≡ None
  none_at [] above = refl
  none_at (row ∷ rows) above = rw (turned start row.key above.0) (none_at rows above.1)

  all_above : (low : Key) (row : Row) (rows : List Row) → key_cmp low row.key ≡ Less → AllByRecursion (λ other. key_cmp row.key other.key ≡ Less) rows → AllByRecursion (λ other. key_cmp low other.key ≡ Less) rows
  all_above low row [] less above = tt
  all_above low row (other ∷ rows) less above = (key_cmp_total.trans low row.key other.key less above.0, all_above low row rows less above.1)

  no_lower : (m : ℕ) → m < 0 → ⊥
  no_lower m h = absurd (omega arith)

  -- nothing of the entity is live below the start
  not_below : (key : Key) → key_cmp key start ≡ Less → is_beside key start ≡ false
  not_below key less = by (is_beside key start) refl
    where
      by : (b : Bool) → is_beside key start ≡ b → is_beside key start ≡ false
      by false e = e
      by true e =
          let two = both (is_entity key.entity entity) (key.version == 0) e in
          let same = eqb-true (entity_number key.entity) (entity_number entity) two.0 in
          let version = eqb-true key.version 0 two.1 in
          one (lex (entity_number key.entity) (entity_number entity) (ordering_then (nat_cmp key.version 0) (rest_cmp key start)) less) same version
        where
          four : (key.second < 0) ⊎ ((key.second ≡ 0) × (Equal ≡ Less)) → is_beside key start ≡ false
          four (inl h) = absurd (omega arith)
          four (inr h) = let never = h.1 in absurd (cc)

          second_of : (o : Ordering) → o ≡ Less → ordering_then o Equal ≡ Less
          second_of Less f = refl
          second_of Equal f = absurd (cc)
          second_of Greater f = absurd (cc)

          three : (key.id < 0) ⊎ ((key.id ≡ 0) × (nat_cmp key.second 0 ≡ Less)) → is_beside key start ≡ false
          three (inl h) = absurd (omega arith)
          three (inr h) = four (lex key.second 0 Equal (second_of (nat_cmp key.second 0) h.1))

          two_of : (key.version < 0) ⊎ ((key.version ≡ 0) × (rest_cmp key start ≡ Less)) → is_beside key start ≡ false
          two_of (inl h) = absurd (omega arith)
          two_of (inr h) = three (lex key.id 0 (nat_cmp key.second 0) h.1)

          one : (entity_number key.entity < entity_number entity) ⊎ ((entity_number key.entity ≡ entity_number entity) × (ordering_then (nat_cmp key.version 0) (rest_cmp key start) ≡ Less)) → entity_number key.entity ≡ entity_number entity → key.version ≡ 0 → is_beside key start ≡ false
          one (inl h) same version = absurd (omega (arith, h, same))
          one (inr h) same version = two_of (lex key.version 0 (rest_cmp key start) h.1)

  pub begins : (rows : List Row) → IsInKeyOrder rows → option_to_list (row_at rows start) ++ live_of (behind start rows) entity ≡ live_of rows entity
  begins [] up = refl
  begins (row ∷ rows) up = by (begins rows up.1) (key_cmp row.key start) refl
    where
      by : option_to_list (row_at rows start) ++ live_of (behind start rows) entity ≡ live_of rows entity → (o : Ordering) → key_cmp row.key start ≡ o → option_to_list (row_at (row ∷ rows) start) ++ live_of (behind start (row ∷ rows)) entity ≡ live_of (row ∷ rows) entity
      by more Less e = rw (e, turned row.key start e) (more ∙ sym (none_more row rows (not_below row.key e)))
      by more Equal e =
          let same : row.key ≡ start = key_is row.key start e in
          let above : AllByRecursion (λ other. key_cmp start other.key ≡ Less) rows = subst (λ (k : Key). AllByRecursion (λ other. key_cmp k other.key ≡ Less) rows) same up.0 in
          let so : is_beside row.key start ≡ true = is_there start row.key (ap (λ (k : Key). entity_number k.entity) same) (ap (λ (k : Key). k.version) same) in
          rw (e, turned_equal row.key start e, all_behind start rows above) (sym (one_more row rows so))
      by more Greater e =
          let less : key_cmp start row.key ≡ Less = turned_back row.key start e in
          rw (e, less, none_at rows (all_above start row rows less up.0)) refl

-- ---- one row more

pub begun : (found : List (Bor Row)) (none : List (Bor Row)) (at : Option Row) (more whole : List Row) → lent_rows found ≡ lent_rows none ++ option_to_list at → none ≡ [] → option_to_list at ++ more ≡ whole → lent_rows found ++ more ≡ whole
begun found none at more whole one empty e = rw (one, empty) e

pub walked : (found : List (Bor Row)) (row : Bor Row) (rest : List Row) → lent_rows (found ++ row ∷ []) ++ rest ≡ lent_rows found ++ (row.now ∷ rest)
walked [] row rest = refl
walked (first ∷ found) row rest = ap (λ (rows : List Row). first.now ∷ rows) (walked found row rest)
