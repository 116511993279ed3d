-- A walk from line to line goes over the lines of an order.
use Rattle.std.proofs.Common.{◌≡◌, ◌≢◌, ℕ, zero, suc, ◌+◌, ◌<◌, Bool, true, false, ◌&&◌, ◌==◌, ◌⊎◌, inl, inr, List, [], ◌∷◌, ◌++◌, length, filter, Option, Some, None, if◌then◌else◌, refl, sym, ap, subst, ◌∙◌, arith, not}
use Rattle.std.specs.declared.cmp.Ordering.{Ordering}
use Rattle.std.specs.declared.cmp.Ordering.TheVariants.{Less, Equal, Greater}
use Rattle.std.specs.Ordering.{MatchOrdering, is_lt, nat_cmp, ordering_then, ordering_reverse}
use Rattle.std.specs.List.{AllByRecursion, list_all}
use Rattle.std.proofs.lemmas.Bool.{eqb-true, eq-eqb, and_parts}
use Rattle.std.specs.Cmp.{nat_cmp_is}
use Rattle.std.proofs.lemmas.Cmp.{ranked}
use Rattle.shop_defs.specs.declared.entity.Entity.{Entity}
use Rattle.shop_defs.specs.declared.entity.Entity.TheVariants as E
use Rattle.shop_defs.specs.declared.key.Key.{Key}
use Rattle.shop_defs.specs.declared.row.Row.{Row}
use Rattle.shop_defs.specs.Entities.{entity_number}
use Rattle.shop_defs.specs.Fitting.{row_key_fits}
use Rattle.shop_defs.specs.Tables.{info_of}
use Rattle.shop_defs.specs.Keys.{key_cmp}
use Rattle.shop_defs.specs.Rows.{IsInKeyOrder}
use Rattle.shop_defs.proofs.Keys.{key_cmp_total}
use Rattle.shop_defs.proofs.EachLine.{same_entity}
use Rattle.shop_operations.specs.References.{is_entity}
use Rattle.shop_rows.specs.Lookups.{first_above}
use Rattle.shop_rows.proofs.Same.{itself_equal}
use Rattle.shop_order.specs.Keys.{line_key}
use Rattle.shop_order.specs.Looking.{if_line, next_line, lines_behind}
use Rattle.shop_order.specs.Wants.{is_line_key, is_line_of, lines_of}

-- ---- one key below another

lex : (m n : ℕ) (o : Ordering) → ordering_then (nat_cmp m n) o ≡ Less → (m < n) ⊎ ((m ≡ n) × (o ≡ Less))
lex m n o e = by (nat_cmp m n) refl (ranked m n (nat_cmp m n) refl)
  where
    by : (r : Ordering) → nat_cmp m n ≡ r → MatchOrdering (nat_cmp m n) (m < n) (m ≡ n) (n < m) → (m < n) ⊎ ((m ≡ n) × (o ≡ Less))
    by Less f h = inl (rw f at h)
    by Equal f h = let e2 : o ≡ Less = rw f at e in inr (rw f at h, e2)
    by Greater f h = let e2 : Greater ≡ Less = rw f at e in absurd (cc)

abbrev rest_cmp : Key → Key → Ordering
rest_cmp a b = ordering_then (nat_cmp a.id b.id) (nat_cmp a.second b.second)

abbrev rest_of : Key → Key → Ordering
rest_of a b = ordering_then (nat_cmp a.version b.version) (rest_cmp a b)

-- a part that lies between two that are equal is equal to them
pinched : (l m n : ℕ) (o p : Ordering) → l ≡ n → ordering_then (nat_cmp l m) o ≡ Less → ordering_then (nat_cmp m n) p ≡ Less → (m ≡ n) × ((o ≡ Less) × (p ≡ Less))
pinched l m n o p e f g = by (lex l m o f) (lex m n p g)
  where
    by : (l < m) ⊎ ((l ≡ m) × (o ≡ Less)) → (m < n) ⊎ ((m ≡ n) × (p ≡ Less)) → (m ≡ n) × ((o ≡ Less) × (p ≡ Less))
    by (inl x) (inl y) = absurd (omega (arith, x, y, e))
    by (inl x) (inr y) = absurd (omega (arith, x, y.0, e))
    by (inr x) (inl y) = absurd (omega (arith, x.0, y, e))
    by (inr x) (inr y) = (y.0, (x.1, y.1))

record IsLine (order : ℕ) (key : Key) : Type 0 where
  pub entity : entity_number key.entity ≡ 22
  pub version : key.version ≡ 0
  pub id : key.id ≡ order

of_line : (order : ℕ) (key : Key) → is_line_key order key ≡ true → IsLine order key
of_line order key e =
    let first = and_parts (is_entity E.OrderLine key.entity) ((key.version == 0) && (key.id == order)) e in
    let second = and_parts (key.version == 0) (key.id == order) first.1 in
    record { entity = sym (eqb-true 22 (entity_number key.entity) first.0); version = eqb-true key.version 0 second.0; id = eqb-true key.id order second.1 }

to_line : (order : ℕ) (key : Key) → IsLine order key → is_line_key order key ≡ true
to_line order key line = rw (eq-eqb 22 (entity_number key.entity) (sym line.entity), eq-eqb key.version 0 line.version, eq-eqb key.id order line.id) refl

pub line_entity : (order : ℕ) (row : Row) → is_line_of order row ≡ true → row.key.entity ≡ E.OrderLine
line_entity order row e = same_entity row.key.entity E.OrderLine (of_line order row.key e).entity

-- what stands between two lines of an order is a line of it
between : (order : ℕ) (a b c : Key) → is_line_key order a ≡ true → is_line_key order c ≡ true → key_cmp a b ≡ Less → key_cmp b c ≡ Less → is_line_key order b ≡ true
between order a b c ea ec f g =
    let first = of_line order a ea in
    let last = of_line order c ec in
    let one = pinched (entity_number a.entity) (entity_number b.entity) (entity_number c.entity) (rest_of a b) (rest_of b c) (first.entity ∙ sym last.entity) f g in
    let two = pinched a.version b.version c.version (rest_cmp a b) (rest_cmp b c) (first.version ∙ sym last.version) one.1.0 one.1.1 in
    let three = pinched a.id b.id c.id (nat_cmp a.second b.second) (nat_cmp b.second c.second) (first.id ∙ sym last.id) two.1.0 two.1.1 in
    to_line order b (record { entity = one.0 ∙ last.entity; version = two.0 ∙ last.version; id = three.0 ∙ last.id })

-- ---- lines behind a key

abbrev above : Key → Row → Bool
above key row = is_lt (key_cmp key row.key)

and_false : (b : Bool) → (b && false) ≡ false
and_false true = refl
and_false false = refl

and_true : (b : Bool) → (b && true) ≡ b
and_true true = refl
and_true false = refl

kept_not : (order : ℕ) (key : Key) (row : Row) (rows : List Row) → (is_line_of order row && above key row) ≡ false → lines_behind (row ∷ rows) order key ≡ lines_behind rows order key
kept_not order key row rows e = rw e refl

kept_one : (order : ℕ) (key : Key) (row : Row) (rows : List Row) → (is_line_of order row && above key row) ≡ true → lines_behind (row ∷ rows) order key ≡ row ∷ lines_behind rows order key
kept_one order key row rows e = rw e refl

-- where all stand above the key, the lines behind it are all
all_behind : (order : ℕ) (key : Key) (rows : List Row) → AllByRecursion (λ row. key_cmp key row.key ≡ Less) rows → lines_behind rows order key ≡ lines_of rows order
all_behind order key [] all = refl
all_behind order key (row ∷ rows) all = by (all_behind order key rows all.1) (is_line_of order row) refl
  where
    here : above key row ≡ true
    here = ap is_lt all.0

    by : lines_behind rows order key ≡ lines_of rows order → (b : Bool) → is_line_of order row ≡ b → lines_behind (row ∷ rows) order key ≡ lines_of (row ∷ rows) order
    by more true e = rw (e, here) (ap (λ (rest : List Row). row ∷ rest) more)
    by more false e = rw e more

all_above : (low high : Key) (rows : List Row) → key_cmp low high ≡ Less → AllByRecursion (λ other. key_cmp high other.key ≡ Less) rows → AllByRecursion (λ other. key_cmp low other.key ≡ Less) rows
all_above low high [] less all = tt
all_above low high (other ∷ rows) less all = (key_cmp_total.trans low high other.key less all.0, all_above low high rows less all.1)

turned : (a b : Key) → key_cmp a b ≡ Less → key_cmp b a ≡ Greater
turned a b e = key_cmp_total.antisymm b a ∙ ap ordering_reverse e

first_in : (P : Row → Type 0) (at : Key) (rows : List Row) (row : Row) → AllByRecursion P rows → first_above rows at ≡ Some row → P row
first_in P at [] row all e = absurd (cc)
first_in P at (x ∷ rows) row all e = by (first_in P at rows row all.1) (above at x) refl
  where
    by : (first_above rows at ≡ Some row → P row) → (b : Bool) → above at x ≡ b → P row
    by more true f = let e2 : Some x ≡ Some row = rw f at e in let same : x ≡ row = cc in subst P same all.0
    by more false f = let e2 : first_above rows at ≡ Some row = rw f at e in more e2

-- the row after the key is a line of the order
record IsNext (rows : List Row) (order : ℕ) (at : Key) (row : Row) : Type 0 where
  pub found : first_above rows at ≡ Some row
  pub line : is_line_of order row ≡ true

is_next : (rows : List Row) (order : ℕ) (at : Key) (row : Row) → next_line rows order at ≡ Some row → IsNext rows order at row
is_next rows order at row e = by (first_above rows at) refl
  where
    of : (x : Row) (b : Bool) → is_line_of order x ≡ b → first_above rows at ≡ Some x → (if b then Some x else None) ≡ Some row → IsNext rows order at row
    of x true f found g = let same : x ≡ row = cc in subst (λ (r : Row). IsNext rows order at r) same (record { found = found; line = f })
    of x false f found g = absurd (cc)

    by : (found : Option Row) → first_above rows at ≡ found → IsNext rows order at row
    by None f = let e2 : None ≡ Some row = rw f at e in absurd (cc)
    by (Some x) f = let e2 : (if is_line_of order x then Some x else None) ≡ Some row = rw f at e in of x (is_line_of order x) refl f e2

next_by : (order : ℕ) (at : Key) (rows : List Row) (row : Row) → IsInKeyOrder rows → first_above rows at ≡ Some row → is_line_of order row ≡ true → lines_behind rows order at ≡ row ∷ lines_behind rows order row.key
next_by order at [] row up e line = absurd (cc)
next_by order at (x ∷ rows) row up e line = by (next_by order at rows row up.1) (key_cmp at x.key) refl
  where
    later : (first_above rows at ≡ Some row → is_line_of order row ≡ true → lines_behind rows order at ≡ row ∷ lines_behind rows order row.key) → above at x ≡ false → lines_behind (x ∷ rows) order at ≡ row ∷ lines_behind (x ∷ rows) order row.key
    later more f =
        let e2 : first_above rows at ≡ Some row = rw f at e in
        let less : key_cmp x.key row.key ≡ Less = first_in (λ (r : Row). key_cmp x.key r.key ≡ Less) at rows row up.0 e2 in
        let not_here : (is_line_of order x && above at x) ≡ false = rw f (and_false (is_line_of order x)) in
        let not_there : (is_line_of order x && above row.key x) ≡ false = rw (turned x.key row.key less) (and_false (is_line_of order x)) in
        kept_not order at x rows not_here ∙ (more e2 line ∙ ap (λ (rest : List Row). row ∷ rest) (sym (kept_not order row.key x rows not_there)))

    by : (first_above rows at ≡ Some row → is_line_of order row ≡ true → lines_behind rows order at ≡ row ∷ lines_behind rows order row.key) → (o : Ordering) → key_cmp at x.key ≡ o → lines_behind (x ∷ rows) order at ≡ row ∷ lines_behind (x ∷ rows) order row.key
    by more Less f =
        let e2 : Some x ≡ Some row = rw f at e in
        let same : x ≡ row = cc in
        let is : is_line_of order x ≡ true = subst (λ (r : Row). is_line_of order r ≡ true) (sym same) line in
        let here : (is_line_of order x && above at x) ≡ true = rw (is, f) refl in
        let not_itself : (is_line_of order x && above x.key x) ≡ false = rw (itself_equal key_cmp key_cmp_total x.key) (and_false (is_line_of order x)) in
        let above_at : AllByRecursion (λ other. key_cmp at other.key ≡ Less) rows = all_above at x.key rows f up.0 in
        subst (λ (r : Row). lines_behind (x ∷ rows) order at ≡ r ∷ lines_behind (x ∷ rows) order r.key) same
        (kept_one order at x rows here ∙ ap (λ (rest : List Row). x ∷ rest) (all_behind order at rows above_at ∙ sym (kept_not order x.key x rows not_itself ∙ all_behind order x.key rows up.0)))
    by more Equal f = later more (ap is_lt f)
    by more Greater f = later more (ap is_lt f)

-- what the walk finds: the next line, or none where there is none
pub record GoesOn (rows : List Row) (order : ℕ) (at : Key) (row : Row) : Type 0 where
  pub more : lines_behind rows order at ≡ row ∷ lines_behind rows order row.key
  pub line : is_line_key order row.key ≡ true
  pub less : length (lines_behind rows order row.key) < length (lines_behind rows order at)

pub goes_on : (rows : List Row) (order : ℕ) (at : Key) (row : Row) → IsInKeyOrder rows → next_line rows order at ≡ Some row → GoesOn rows order at row
goes_on rows order at row up e =
    let next = is_next rows order at row e in
    let more = next_by order at rows row up next.found next.line in
    record { more = more; line = next.line; less = rw more (omega arith) }

-- behind a row that is no line of the order there is none
none_behind : (order : ℕ) (at key : Key) (rows : List Row) → is_line_key order at ≡ true → is_line_key order key ≡ false → key_cmp at key ≡ Less → AllByRecursion (λ other. key_cmp key other.key ≡ Less) rows → lines_behind rows order at ≡ []
none_behind order at key [] from differs less all = refl
none_behind order at key (row ∷ rows) from differs less all = by (none_behind order at key rows from differs less all.1) (is_line_of order row) refl
  where
    by : lines_behind rows order at ≡ [] → (b : Bool) → is_line_of order row ≡ b → lines_behind (row ∷ rows) order at ≡ []
    by more true e = let yes : is_line_key order key ≡ true = between order at key row.key from e less all.0 in absurd (cc)
    by more false e = rw e more

if_no_line : (order : ℕ) (row : Row) → if_line order row ≡ None → is_line_key order row.key ≡ false
if_no_line order row e = by (is_line_of order row) refl
  where
    by : (b : Bool) → is_line_of order row ≡ b → is_line_key order row.key ≡ false
    by true f = let e2 : Some row ≡ None = rw f at e in absurd (cc)
    by false f = f

pub ends : (order : ℕ) (at : Key) (rows : List Row) → IsInKeyOrder rows → is_line_key order at ≡ true → next_line rows order at ≡ None → lines_behind rows order at ≡ []
ends order at [] up from e = refl
ends order at (x ∷ rows) up from e = by (ends order at rows up.1 from) (key_cmp at x.key) refl
  where
    later : (next_line rows order at ≡ None → lines_behind rows order at ≡ []) → above at x ≡ false → lines_behind (x ∷ rows) order at ≡ []
    later more f =
        let e2 : next_line rows order at ≡ None = rw f at e in
        let not_here : (is_line_of order x && above at x) ≡ false = rw f (and_false (is_line_of order x)) in
        kept_not order at x rows not_here ∙ more e2

    by : (next_line rows order at ≡ None → lines_behind rows order at ≡ []) → (o : Ordering) → key_cmp at x.key ≡ o → lines_behind (x ∷ rows) order at ≡ []
    by more Less f =
        let e2 : if_line order x ≡ None = rw f at e in
        let no : is_line_key order x.key ≡ false = if_no_line order x e2 in
        kept_not order at x rows (rw no refl) ∙ none_behind order at x.key rows from no f up.0
    by more Equal f = later more (ap is_lt f)
    by more Greater f = later more (ap is_lt f)

-- ---- where the walk begins

pub starts : (order : ℕ) → is_line_key order (line_key order 0) ≡ true
starts order = rw (eq-eqb order order refl) refl

two_parts : (key : Key) → key.entity ≡ E.OrderLine → row_key_fits key ≡ true → key.second ≢ 0
unfolding info_of
two_parts key of fits zero_second = by (key.second == 0) refl
  where
    says : (not (key.id == 0) && not (key.second == 0)) ≡ true
    says = subst (λ (e : Entity). row_key_fits (record key { entity = e }) ≡ true) of fits

    by : (b : Bool) → (key.second == 0) ≡ b → ⊥
    by true e = let parts = and_parts (not (key.id == 0)) (not (key.second == 0)) says in let no : not true ≡ true = rw e at parts.1 in cc
    by false e = let yes : (key.second == 0) ≡ true = eq-eqb key.second 0 zero_second in cc

above_zero : (n : ℕ) → n ≢ 0 → nat_cmp 0 n ≡ Less
above_zero zero differs = absurd (differs refl)
above_zero (suc n) differs = sym (nat_cmp_is 0 (suc n) Less (omega arith))

line_above : (order : ℕ) (row : Row) → row_key_fits row.key ≡ true → is_line_of order row ≡ true → above (line_key order 0) row ≡ true
line_above order row fits e =
    let line = of_line order row.key e in
    let of : row.key.entity ≡ E.OrderLine = same_entity row.key.entity E.OrderLine line.entity in
    rw (line.entity, line.version, line.id, itself order, above_zero row.key.second (two_parts row.key of fits)) refl
  where
    itself : (n : ℕ) → nat_cmp n n ≡ Equal
    itself n = by (nat_cmp n n) refl (ranked n n (nat_cmp n n) refl)
      where
        by : (r : Ordering) → nat_cmp n n ≡ r → MatchOrdering (nat_cmp n n) (n < n) (n ≡ n) (n < n) → nat_cmp n n ≡ Equal
        by Less f h = let l : n < n = rw f at h in absurd (omega arith)
        by Equal f h = f
        by Greater f h = let l : n < n = rw f at h in absurd (omega arith)

pub begins : (order : ℕ) (rows : List Row) → list_all (λ row. row_key_fits row.key) rows ≡ true → lines_behind rows order (line_key order 0) ≡ lines_of rows order
begins order [] formed = refl
begins order (row ∷ rows) formed = by (and_parts (row_key_fits row.key) (list_all (λ row. row_key_fits row.key) rows) formed) (begins order rows) (is_line_of order row) refl
  where
    by : (row_key_fits row.key ≡ true) × (list_all (λ row. row_key_fits row.key) rows ≡ true) → (list_all (λ row. row_key_fits row.key) rows ≡ true → lines_behind rows order (line_key order 0) ≡ lines_of rows order)
        → (b : Bool) → is_line_of order row ≡ b → lines_behind (row ∷ rows) order (line_key order 0) ≡ lines_of (row ∷ rows) order
    by parts more true e = rw (e, line_above order row parts.0 e) (ap (λ (rest : List Row). row ∷ rest) (more parts.1))
    by parts more false e = rw e (more parts.1)
