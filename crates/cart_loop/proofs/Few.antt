-- Rows that are as their entities have them and fit one another are what is relied on where a cart is settled.
use Rattle.std.proofs.Common.{◌≡◌, ℕ, ◌≤◌, ◌+◌, Bool, true, false, ◌&&◌, ◌||◌, ◌==◌, List, [], ◌∷◌, filter, length, Option, Some, None, refl, sym, ap, subst, ◌∙◌, arith}
use Rattle.std.specs.Prelude.{not, nat_lt, count_by, option_and_then}
use Rattle.std.specs.List.{AllByRecursion, list_all, list_any}
use Rattle.std.proofs.lemmas.Bool.{eqb-true}
use Rattle.std.proofs.lemmas.Bool.Decides.{nat_tests}
use Rattle.std.proofs.lemmas.List.Sums.{length-filter}
use Rattle.row_fields.specs.Checked.{IsRowOf}
use Rattle.row_fields.specs.Fields.{number_of, id_at, id_in}
use Rattle.shop_defs.specs.declared.entity.Entity.TheVariants as E
use Rattle.shop_defs.specs.declared.row.Row.{Row}
use Rattle.shop_defs.specs.declared.table.OwnerLimit.{OwnerLimit}
use Rattle.shop_defs.specs.declared.table.Part.TheVariants as P
use Rattle.shop_defs.specs.declared.table.TheConstants.{OWNER_LIMITS}
use Rattle.shop_defs.specs.declared.value.Value.{Value}
use Rattle.shop_defs.specs.declared.value.Value.TheVariants as V
use Rattle.shop_defs.specs.declared.words.FieldName.TheVariants as N
use Rattle.shop_defs.specs.Entities.{entity_number}
use Rattle.shop_defs.specs.Rows.{field_of}
use Rattle.shop_operations.specs.References.{ident, is_entity, is_id, live}
use Rattle.shop_operations.specs.Soundness.{IsCoherent}
use Rattle.shop_operations.specs.Upserts.{is_of_owner, owner_is_full}
use Rattle.shop_operations.specs.Views.{live_view}
use Rattle.shop_defs.proofs.EachLine.{same_entity}
use Rattle.cart_collect.specs.Finding.{naming}
use Rattle.cart_collect.proofs.FieldNumbers.{line_cart}
use Rattle.cart_loop.specs.Checked.{AreCartRows}

lines_limit : OwnerLimit
lines_limit = record { entity = E.CartLine; owner = P.Field 1; most = 100 }

third : (a b c d e : Bool) → (a || (b || (c || (d || (e || false))))) ≡ false → c ≡ false
third true b c d e h = absurd (cc)
third false true c d e h = absurd (cc)
third false false true d e h = absurd (cc)
third false false false d e h = refl

-- ---- a line and its cart

ident_is : (value : Option Value) → ident value ≡ option_and_then id_in value
ident_is None = refl
ident_is (Some (V.Flag flag)) = refl
ident_is (Some (V.Int number)) = refl
ident_is (Some (V.Text text)) = refl
ident_is (Some (V.Ident id)) = refl

abbrev is_line_of : ℕ → Row → Bool
is_line_of cart row = is_entity row.key.entity E.CartLine && is_id (id_at row (number_of E.CartLine N.Cart)) cart

record IsLineOf (cart : ℕ) (row : Row) : Type 0 where
  entity : row.key.entity ≡ E.CartLine
  owner : ident (field_of row 1) ≡ Some cart

id_is : (found : Option ℕ) (cart : ℕ) → is_id found cart ≡ true → found ≡ Some cart
id_is None cart e = absurd (cc)
id_is (Some id) cart e = ap (λ (n : ℕ). Some n) (eqb-true id cart e)

line_of_cart : (cart : ℕ) (row : Row) → is_line_of cart row ≡ true → IsLineOf cart row
line_of_cart cart row e = by (is_entity row.key.entity E.CartLine) refl
  where
    by : (b : Bool) → is_entity row.key.entity E.CartLine ≡ b → IsLineOf cart row
    by true f =
        let named : is_id (id_at row (number_of E.CartLine N.Cart)) cart ≡ true = rw f at e in
        record {
          entity = same_entity row.key.entity E.CartLine (eqb-true (entity_number row.key.entity) (entity_number E.CartLine) f);
          owner = ident_is (field_of row 1) ∙ (ap (λ (n : ℕ). id_at row n) (sym line_cart) ∙ id_is (id_at row (number_of E.CartLine N.Cart)) cart named);
        }
    by false f = let never : false ≡ true = rw f at e in absurd (cc)

eqb-same : (n : ℕ) → (n == n) ≡ true
eqb-same n = grind arith

-- two lines of one cart are of one owner
of_one : (cart : ℕ) (line other : Row) → is_line_of cart line ≡ true → is_line_of cart other ≡ true → is_of_owner lines_limit line other ≡ true
unfolding lines_limit
of_one cart line other e f =
    let a = line_of_cart cart line e in
    let b = line_of_cart cart other f in
    rw (b.entity, a.owner, b.owner) (eqb-same cart)

-- ---- there are few

abbrev count : (Row → Bool) → List Row → ℕ
count p rows = length (filter p rows)

counts_more : (p q : Row → Bool) → ((row : Row) → p row ≡ true → q row ≡ true) → (rows : List Row) → count p rows ≤ count q rows
counts_more p q more [] = omega arith
counts_more p q more (row ∷ rows) = by (counts_more p q more rows) (p row) (q row) refl refl
  where
    by : count p rows ≤ count q rows → (b c : Bool) → p row ≡ b → q row ≡ c → count p (row ∷ rows) ≤ count q (row ∷ rows)
    by le true true e f = rw (e, f) (omega (arith, le))
    by le true false e f = let t : q row ≡ true = more row e in absurd (cc)
    by le false true e f = rw (e, f) (omega (arith, le))
    by le false false e f = rw (e, f) le

not_full : (rows : List Row) (row : Row) → not (list_any (owner_is_full rows row) OWNER_LIMITS) ≡ true → is_entity E.CartLine row.key.entity ≡ true → count_by (is_of_owner lines_limit row) rows ≤ 100
unfolding lines_limit
not_full rows row e is =
    let none : list_any (owner_is_full rows row) OWNER_LIMITS ≡ false = turned (list_any (owner_is_full rows row) OWNER_LIMITS) e in
    let full : owner_is_full rows row (record { entity = E.CartLine; owner = P.Field 1; most = 100 }) ≡ false = third _ _ _ _ _ none in
    let over : nat_lt 100 (count_by (is_of_owner (record { entity = E.CartLine; owner = P.Field 1; most = 100 }) row) rows) ≡ false = rw is at full in
    grind (arith, nat_tests, over)
  where
    turned : (b : Bool) → not b ≡ true → b ≡ false
    turned true h = absurd (cc)
    turned false h = refl

few_in : (all : List Row) (cart : ℕ) (rows : List Row) → list_all (λ row. not (list_any (owner_is_full all row) OWNER_LIMITS)) rows ≡ true → (count (is_line_of cart) rows ≡ 0 → count (is_line_of cart) all ≤ 100) → count (is_line_of cart) all ≤ 100
few_in all cart [] ok none = none refl
few_in all cart (row ∷ rows) ok none = by (not (list_any (owner_is_full all row) OWNER_LIMITS)) (is_line_of cart row) refl refl (few_in all cart rows)
  where
    by : (b c : Bool) → not (list_any (owner_is_full all row) OWNER_LIMITS) ≡ b → is_line_of cart row ≡ c
        → (list_all (λ row. not (list_any (owner_is_full all row) OWNER_LIMITS)) rows ≡ true → (count (is_line_of cart) rows ≡ 0 → count (is_line_of cart) all ≤ 100) → count (is_line_of cart) all ≤ 100)
        → count (is_line_of cart) all ≤ 100
    by true true e f more =
        let line = line_of_cart cart row f in
        let is : is_entity E.CartLine row.key.entity ≡ true = rw line.entity refl in
        omega (arith, not_full all row e is, length-filter (is_of_owner lines_limit row) all, counts_more (is_line_of cart) (is_of_owner lines_limit row) (λ other h. of_one cart row other f h) all)
    by true false e f more = more (rw e at ok) (rw f at none)
    by false c e f more = let never : false ≡ true = rw e at ok in absurd (cc)

lines_are_few : (rows : List Row) → IsCoherent (live_view rows) → (cart : ℕ) → length (naming rows E.CartLine N.Cart cart) ≤ 100
lines_are_few rows coherent cart = few_in (live rows) cart (live rows) coherent.few (λ e. omega (arith, e))

pub are_cart_rows : (rows : List Row) → AllByRecursion (λ row. IsRowOf row.key.entity row) rows → IsCoherent (live_view rows) → AreCartRows rows
are_cart_rows rows each coherent = record { each = each; few = lines_are_few rows coherent }
